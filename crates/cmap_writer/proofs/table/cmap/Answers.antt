use Rattle.std.proofs.Common.{◌≡◌, ◌∙◌, ap, length, arith}
use Rattle.cmap_writer.specs.Subtables.{format_4_length}
use Rattle.cmap_writer.specs.Cmap.{segments}
use Rattle.cmap_writer.proofs.Fields.{is_too_large, is_not_too_large}
use Rattle.cmap_writer.proofs.Bounds.{few_segments}
use Rattle.cmap_writer.proofs.table.cmap.Goals as goal

pub format_4_length-length-requires : goal.format_4_length-length-requires
format_4_length-length-requires c =
    let same = ap length c.in_ok-segments.ensures in
    omega (arith, c.len.ensures, same, few_segments c.args.codes.now c.requires)

pub returns-then-length-gt-LONGEST_SUBTABLE : goal.returns-then-length-gt-LONGEST_SUBTABLE
returns-then-length-gt-LONGEST_SUBTABLE c =
    let same = ap length c.in_ok-segments.ensures in
    let count : c.len.result ≡ length (segments c.args.codes.now)
    = omega (arith, c.len.ensures, same) in
    is_too_large c.args.codes.now _ (c.format_4_length-length.ensures ∙ ap format_4_length count)
    c.if-length-gt-LONGEST_SUBTABLE.true

pub returns : goal.returns
returns c =
    let same = ap length c.in_ok-segments.ensures in
    let count : c.len.result ≡ length (segments c.args.codes.now)
    = omega (arith, c.len.ensures, same) in (
      is_not_too_large c.args.codes.now _ (c.format_4_length-length.ensures
          ∙ ap format_4_length count)
          c.if-length-gt-LONGEST_SUBTABLE.false,
      c.in_ok-table_of.ensures,
    )
