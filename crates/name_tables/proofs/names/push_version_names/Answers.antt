use Rattle.std.proofs.Common.{◌≡◌, ◌++◌, codes, ap, length, arith, length-append}
use Rattle.name_tables.proofs.Lengths.{postscript_long, version_long}
use Rattle.name_tables.proofs.Stores.{adds_three}
use Rattle.name_tables.specs.Texts.{postscript_text, version_text}
use Rattle.name_tables.proofs.names.push_version_names.Goals as goal

pub push-requires-2-clause-text : goal.push-requires-2-clause-text
push-requires-2-clause-text c =
    let h = c.args.header.now in
    let is : c.as_str-3.result.now ≡ codes "Version " ++ version_text h
    = cc (c.as_str-3.ensures.value, c.in_ok-version_name.ensures, c.requires.version) in
    omega (
      arith,
      ap length is,
      length-append (codes "Version ") (version_text h),
      version_long h c.requires.header,
    )

pub push-requires-3-clause-text : goal.push-requires-3-clause-text
push-requires-3-clause-text c =
    omega (arith, ap length c.requires.postscript, postscript_long c.args.header.now)

pub returns : goal.returns
returns c =
    let h = c.args.header.now in
    let full : c.as_str-2.result.now ≡ h.family ++ codes " Regular"
    = cc (c.as_str-2.ensures.value, c.in_ok-full_name.ensures, c.as_str.ensures) in
    let version : c.as_str-3.result.now ≡ codes "Version " ++ version_text h
    = cc (c.as_str-3.ensures.value, c.in_ok-version_name.ensures, c.requires.version) in
    adds_three c.args.names.now c.push.new.self c.push-2.new.self c.push-3.new.self 4 5 6
    c.as_str-2.result.now c.as_str-3.result.now c.args.postscript.now
    (h.family ++ codes " Regular") (codes "Version " ++ version_text h) (postscript_text h)
    full version c.requires.postscript c.in_ok-push.ensures c.in_ok-push-2.ensures
    c.in_ok-push-3.ensures
