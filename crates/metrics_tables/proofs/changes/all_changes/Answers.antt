use Rattle.std.proofs.Common.{◌≡◌, Some, Ok, Err, ◌+◌, ◌∙◌, ap, sym, subst, map, take, arith}
use Rattle.std.proofs.Common.{ℤ, to_z, of_z}
use Rattle.std.proofs.lemmas.Int.{ints}
use Rattle.std.specs.Int.{w64}
use Rattle.font_ir.specs.FlatGlyphs.{glyphs_of}
use Rattle.font_ir.specs.declared.glyph.FlatGlyph.{FlatGlyph}
use Rattle.metrics_tables.specs.Changes.{advance_deltas, changes_of, with_changes}
use Rattle.metrics_tables.specs.RegionIndexes.{AllTold, AreTold, GivesChanges}
use Rattle.variation_model.specs.Deltas.{first_large}
use Rattle.metrics_tables.proofs.ChangeLemmas.{all_told_more, glyphs_more, large_here, large_later}
use Rattle.metrics_tables.proofs.changes.all_changes.Goals as goal

pub loop-gid-preserved : goal.loop-gid-preserved
loop-gid-preserved c =
    let glyphs = c.args.glyphs.now in
    let gid = c.loop-gid.gid in
    let glyph = c.index-glyphs-gid.result in
    let is = c.index-glyphs-gid.is in
    let within = c.loop-gid-test.true in
    let so_far = c.loop-gid.invariant in
    let e = c.in-Ok.ensures in
    let told = subst (GivesChanges (Ok c.in-Ok.changes) c.loop-gid.index.regions.items
    c.changes_of.new.index.regions.items) c.deref.ensures e.changes in
    record {
      index = e.index;
      axes = e.axes ∙ so_far.axes;
      regions = told.0 ∙ ap (λ regions. with_changes regions (changes_of glyph.value))
          so_far.regions ∙ sym (glyphs_more glyphs gid glyph within is
          c.args.index.now.regions.items);
      told = subst (λ all. AllTold c.changes_of.new.index.regions.items all
          (map changes_of (glyphs_of (take (gid + 1) glyphs))))
          (sym c.in_ok-push-in-Ok.ensures.items)
          (all_told_more glyphs gid glyph within is c.loop-gid.index.regions.items
          c.changes_of.new.index.regions.items c.loop-gid.all.items _ told.0 so_far.told
          (subst (λ placed. AreTold c.changes_of.new.index.regions.items placed
          (changes_of glyph.value)) (sym c.from_vec.ensures) told.1));
      none_large = sym (large_later glyphs gid glyph within is told.2) ∙ so_far.none_large;
    }

pub returns-in-Err-TooLarge-clause-changes : goal.returns-in-Err-TooLarge-clause-changes
returns-in-Err-TooLarge-clause-changes c =
    let glyphs = c.args.glyphs.now in
    let gid = c.loop-gid.gid in
    let glyph = c.index-glyphs-gid.result in
    let before = c.loop-gid.index.regions.items in
    let after = c.changes_of.new.index.regions.items in
    let refused = subst (GivesChanges (Err c.in-Err-TooLarge.field-0) before after)
    c.deref.ensures c.in-Err-TooLarge.ensures.changes in
    let large : first_large 0 (advance_deltas glyph.value)
    ≡ Some (c.in-Err-TooLarge.field-0-0, c.in-Err-TooLarge.value)
    = subst (λ error. GivesChanges (Err error) before after glyph.value)
    c.in-Err-TooLarge.field-0-is refused in
    let first = c.in_ok-gid-in-Err-TooLarge.field-0 in
    let here = large_here glyphs gid glyph c.loop-gid-test.true c.index-glyphs-gid.is _ _ _ _ first
    c.in_ok-gid-in-Err-TooLarge.ensures large
    (ap (λ (g : FlatGlyph). g.number) c.deref-in-Err-TooLarge.ensures)
    (omega (arith, ints, c.in-Err-TooLarge.value-is)) in
    let same : first.value ≡ to_z w64 (of_z w64 first.value) = omega (arith, ints) in (
      first.number,
      sym c.loop-gid.invariant.none_large ∙ here
          ∙ ap (λ (z : ℤ). Some (record first { value = z })) same,
    )
