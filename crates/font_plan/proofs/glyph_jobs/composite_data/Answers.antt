-- each component has its number
use Rattle.std.proofs.Common.{length, ap, ◌∙◌}
use Rattle.std.proofs.lemmas.List.Elements.{recursion_from_All}
use Rattle.std.specs.Prelude.{IsSome}
use Rattle.font_ir.specs.Glyphs.{gid_of}
use Rattle.font_plan.proofs.Composites.{numbers_counted, some_kept}
use Rattle.font_plan.proofs.glyph_jobs.composite_data.Goals as goal

pub composite_bytes-requires-clause-kept : goal.composite_bytes-requires-clause-kept
composite_bytes-requires-clause-kept c = some_kept c.args.flat.now c.requires.composite

pub composite_bytes-requires-clause-gids : goal.composite_bytes-requires-clause-gids
composite_bytes-requires-clause-gids c =
    ap length (c.as_slice.ensures.value ∙ c.in_ok-gids.ensures)
    ∙ numbers_counted c.args.order.now.names c.args.flat.now.kept
    (recursion_from_All (λ kept. IsSome (gid_of c.args.order.now.names kept.base))
    c.args.flat.now.kept c.requires.bases)
