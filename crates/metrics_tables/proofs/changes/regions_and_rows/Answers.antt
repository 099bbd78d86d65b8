use Rattle.std.proofs.Common.{ap, sym, subst, ◌∙◌, map, length, arith}
use Rattle.std.specs.List.{All}
use Rattle.font_ir.specs.FlatGlyphs.{glyphs_of, IsFlatGlyph}
use Rattle.metrics_tables.specs.Changes.{changes_of}
use Rattle.metrics_tables.specs.RegionIndexes.{HasSides, IsWithin, row_by}
use Rattle.metrics_tables.proofs.ChangeLemmas.{are_rows, at_references, begin_with}
use Rattle.metrics_tables.proofs.RowLemmas.{all_within}
use Rattle.metrics_tables.proofs.changes.regions_and_rows.Goals as goal

pub all_changes-requires-clause-flat : goal.all_changes-requires-clause-flat
all_changes-requires-clause-flat c =
    at_references IsFlatGlyph c.args.glyphs.now c.requires.flat

pub all_changes-requires-clause-places : goal.all_changes-requires-clause-places
all_changes-requires-clause-places c = begin_with c.args.header.now c.in_ok-masters.masters
    c.in_ok-masters.ensures.places c.args.glyphs.now c.requires.places

pub all_rows-requires : goal.all_rows-requires
all_rows-requires c =
    let regions = c.all_changes.new.index.regions in
    subst (λ n. All (All (IsWithin n)) c.as_slice.result.now) (sym (c.len-count.ensures ∙ regions.ok.0))
    (subst (λ all. All (All (IsWithin (length regions.items))) all) (sym c.as_slice.ensures.value)
    (all_within regions.items c.in_ok-all.all.items (map changes_of (glyphs_of c.args.glyphs.now))
    c.in_ok-all.ensures.changes.1))

pub returns : goal.returns
returns c = are_rows c.args.header.now (glyphs_of c.args.glyphs.now) c.in_ok-masters.masters
    c.in_ok-index.index.regions.items c.all_changes.new.index.regions.items c.in_ok-all.all.items
    c.in_ok-rows.rows.items c.len-count.result c.in_ok-masters.ensures.places
    c.in_ok-index.ensures.regions c.in_ok-all.ensures.changes
    c.in_ok-all.ensures.index.different
    (subst (λ n. All (HasSides n) c.all_changes.new.index.regions.items)
    (c.in_ok-all.ensures.axes ∙ c.in_ok-index.ensures.axes ∙ c.len.ensures)
    c.in_ok-all.ensures.index.sides)
    (c.len-count.ensures ∙ c.all_changes.new.index.regions.ok.0)
    (omega (arith, c.if-count-gt-REGIONS.false))
    (c.in_ok-rows.ensures ∙ ap (map (row_by c.len-count.result)) c.as_slice.ensures.value)
