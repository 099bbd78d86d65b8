use Rattle.std.proofs.Common.{◌≡◌, ◌++◌, codes, refl, ap, length, arith, length-append}
use Rattle.name_tables.proofs.Lengths.{postscript_long, version_long}
use Rattle.name_tables.proofs.Stores.{adds_three}
use Rattle.name_tables.specs.Texts.{postscript_text, version_text}
use Rattle.name_tables.proofs.names.push_style_names.Goals as goal

pub push-requires-3-clause-text : goal.push-requires-3-clause-text
push-requires-3-clause-text c =
    let h = c.args.header.now in
    let is : c.as_str-3.result.now ≡ version_text h ++ codes ";" ++ postscript_text h
    = cc (
      c.as_str-3.ensures.value,
      c.in_ok-identifier.ensures,
      c.as_str-2.ensures.value,
      c.in_ok-versioned.ensures,
      c.requires.version,
      c.requires.postscript,
    ) in
    omega (
      arith,
      ap length is,
      length-append (version_text h) (codes ";"),
      length-append (version_text h ++ codes ";") (postscript_text h),
      version_long h c.requires.header,
      postscript_long h,
    )

pub returns : goal.returns
returns c =
    let h = c.args.header.now in
    let is : c.as_str-3.result.now ≡ version_text h ++ codes ";" ++ postscript_text h
    = cc (
      c.as_str-3.ensures.value,
      c.in_ok-identifier.ensures,
      c.as_str-2.ensures.value,
      c.in_ok-versioned.ensures,
      c.requires.version,
      c.requires.postscript,
    ) in
    adds_three c.args.names.now c.push.new.self c.push-2.new.self c.push-3.new.self 1 2 3
    c.as_str.result.now (codes "Regular") c.as_str-3.result.now h.family (codes "Regular")
    (version_text h ++ codes ";" ++ postscript_text h) c.as_str.ensures refl is
    c.in_ok-push.ensures c.in_ok-push-2.ensures c.in_ok-push-3.ensures
