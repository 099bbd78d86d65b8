use Rattle.std.proofs.Common.{List, subst, sym, ap, length, arith}
use Rattle.font_ir.specs.AxisMaps.{IsRisingList, pairs_of}
use Rattle.font_ir.specs.declared.header.Master.{Master}
use Rattle.name_tables.specs.HeaderLaws.{few_masters}
use Rattle.name_tables.proofs.Maps.{few_pairs}
use Rattle.name_tables.proofs.axis_maps.rising_pairs.Goals as goal

pub unreachable-requires : goal.unreachable-requires
unreachable-requires c =
    let map = c.requires.header.maps c.args.axis c.requires.axis in
    let Rises : List Master → Type 0 = λ masters. IsRisingList
    (pairs_of masters c.args.header.now.origin c.args.axis) map.0 in
    let refused = rw c.in-Err-NotRising.field-0-is at c.in-Err-NotRising.ensures.set in
    refused.1 map.0 (subst Rises (sym c.as_slice.ensures) map.1)

pub returns-in-Ok-clause-few : goal.returns-in-Ok-clause-few
returns-in-Ok-clause-few c =
    omega (
      arith,
      few_pairs _ _ _ _ c.in-Ok.ensures.computed,
      ap length c.as_slice.ensures,
      few_masters c.args.header.now c.requires.header,
    )
