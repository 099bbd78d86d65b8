use Rattle.std.proofs.Common.{◌≡◌, max, length, map, drop}
use Rattle.metrics_tables.specs.Comparisons.{greatest_count}
use Rattle.metrics_tables.specs.Measuring as spec
use Rattle.metrics_tables.proofs.measuring.greatest_counts.Given as goal

abbrev pub invariant-loop-glyph : goal.invariant-loop-glyph
invariant-loop-glyph l = record {
  points : max l.so_far.points (greatest_count (map
      (λ glyph. spec.simple_points l.place glyph.value) (drop l.glyph-index l.glyphs)))
      ≡ greatest_count (map (λ glyph. spec.simple_points l.place glyph.value) l.glyphs);
  contours : max l.so_far.contours (greatest_count (map
      (λ glyph. spec.simple_contours l.place glyph.value) (drop l.glyph-index l.glyphs)))
      ≡ greatest_count (map (λ glyph. spec.simple_contours l.place glyph.value) l.glyphs);
  composite_points : max l.so_far.composite_points (greatest_count (map
      (λ glyph. spec.composite_points l.place glyph.value) (drop l.glyph-index l.glyphs)))
      ≡ greatest_count (map (λ glyph. spec.composite_points l.place glyph.value) l.glyphs);
  composite_contours : max l.so_far.composite_contours (greatest_count (map
      (λ glyph. spec.composite_contours l.place glyph.value) (drop l.glyph-index l.glyphs)))
      ≡ greatest_count (map (λ glyph. spec.composite_contours l.place glyph.value) l.glyphs);
  components : max l.so_far.components (greatest_count (map
      (λ glyph. length glyph.value.kept) (drop l.glyph-index l.glyphs)))
      ≡ greatest_count (map (λ glyph. length glyph.value.kept) l.glyphs);
}
