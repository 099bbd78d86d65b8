use Rattle.std.proofs.Common.{ℕ, [], ◌∷◌, ap, ◌∙◌, length, length-append, subst, sym, arith}
use Rattle.std.proofs.lemmas.List.{length-map, map-append}
use Rattle.std.specs.Arc.{arc_value}
use Rattle.font_ir.specs.FlatGlyphs.{glyphs_of}
use Rattle.table_bench.specs.Fonts.{AreMeasurable, IsMeasurable}
use Rattle.table_bench.proofs.Fonts.{one_more}
use Rattle.table_bench.proofs.metrics.glyphs.Goals as goal

pub loop-gid-preserved : goal.loop-gid-preserved
loop-gid-preserved c =
    let names = c.args.order.now.names in
    let before = c.loop-gid.invariant in
    let glyphs = c.loop-gid.glyphs.items in
    let shared = c.in_ok-new.field-0 in
    let pushed = c.in_ok-push.ensures.items in
    let numbered = length-map glyphs arc_value ∙ before.count in
    let one = subst (IsMeasurable names c.loop-gid.gid) (sym c.in_ok-new.ensures.ok)
    c.in_ok-glyph.ensures in
    let last = subst (λ (gid : ℕ). IsMeasurable names gid shared.value) (sym numbered) one in
    record {
      count = omega (arith, ap length pushed, length-append glyphs (shared ∷ []), before.count);
      are = subst (AreMeasurable names) (sym (ap glyphs_of pushed
          ∙ map-append arc_value glyphs (shared ∷ [])))
          (one_more (IsMeasurable names) (glyphs_of glyphs) shared.value before.are last);
    }
