use Rattle.std.proofs.Common.{◌≡◌, ◌++◌, drop}
use Rattle.std.specs.List.{flat_map}
use Rattle.std.specs.Option.{option_to_list}
use Rattle.font_ir.specs.Glyphs.{gid_of}
use Rattle.metrics_tables.specs.Nesting.{bases_of}
use Rattle.metrics_tables.proofs.nesting.bases_of.Given as goal

abbrev pub invariant-loop-kept : goal.invariant-loop-kept
invariant-loop-kept l =
    l.bases.items ++ flat_map (λ kept. option_to_list (gid_of l.order.names kept.base))
    (drop l.kept-index l.kept-items) ≡ bases_of l.order.names l.glyph
