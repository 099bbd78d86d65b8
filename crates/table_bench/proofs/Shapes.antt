-- Outlines of one shape, and the glyphs that have them.
use Rattle.std.proofs.Common.{◌≡◌, ℕ, ◌+◌, ◌<◌, ◌≤◌, ℤ, pos, ◌≤ℤ◌, Bool, true, List, [], ◌∷◌, ◌++◌, length}
use Rattle.std.proofs.Common.{map, replicate, sym, subst, ap, ◌∙◌, arith}
use Rattle.std.proofs.lemmas.List.{length-map, length-replicate, map-append, replicate_more}
use Rattle.std.proofs.lemmas.List.Elements.{All-cons, All-nil, All-weaker}
use Rattle.std.specs.List.{All}
use Rattle.font_ir.specs.declared.glyph.Contour.{Contour}
use Rattle.font_ir.specs.declared.glyph.DrawnPoint.{DrawnPoint}
use Rattle.font_ir.specs.declared.glyph.FlatGlyph.{FlatGlyph}
use Rattle.font_ir.specs.Places.{AreGlyphPlaces}
use Rattle.font_ir.specs.FlatGlyphs.{IsSmallPoint, point_count}
use Rattle.table_bench.specs.Outlines.{IsOutline, IsVarying, three_places}

abbrev are_on : List DrawnPoint → List Bool
are_on points = map (λ (point : DrawnPoint). point.on) points

-- one more point on the curve
pub one_more_on : (points : List DrawnPoint) (count : ℕ) (point : DrawnPoint)
    → are_on points ≡ replicate count true → point.on ≡ true
    → are_on (points ++ point ∷ []) ≡ replicate (count + 1) true
one_more_on points count point before on =
    map-append (λ (point : DrawnPoint). point.on) points (point ∷ [])
    ∙ (λ i. before i ++ on i ∷ []) ∙ replicate_more count true

as_many : (points : List DrawnPoint) → are_on points ≡ replicate 30 true → length points ≡ 30
as_many points e = sym (length-map points (λ (point : DrawnPoint). point.on)) ∙ ap length e
    ∙ length-replicate 30 true

pub outline_of : (first second : Contour) → are_on first.points ≡ replicate 30 true
    → are_on second.points ≡ replicate 30 true → All IsSmallPoint first.points
    → All IsSmallPoint second.points → IsOutline (first ∷ second ∷ [])
outline_of first second first_on second_on first_small second_small =
    let IsWhole : Contour → Type 0 = λ contour. 0 < length contour.points in
    let HasSmall : Contour → Type 0 = λ contour. All IsSmallPoint contour.points in
    let one = as_many first.points first_on in
    let other = as_many second.points second_on in
    record {
      shape = (λ i. first_on i ∷ second_on i ∷ []);
      few_points = omega (arith, one, other);
      whole = All-cons IsWhole first (second ∷ []) (omega (arith, one))
          (All-cons IsWhole second [] (omega (arith, other)) (All-nil IsWhole));
      small = All-cons HasSmall first (second ∷ []) first_small
          (All-cons HasSmall second [] second_small (All-nil HasSmall));
    }

pub varying_of : (glyph : FlatGlyph) → AreGlyphPlaces three_places → glyph.places ≡ three_places
    → length glyph.widths ≡ 3
    → All (λ width. (pos 0 ≤ℤ width) × (width ≤ℤ pos 32767)) glyph.widths
    → length glyph.drawn ≡ 3 → All IsOutline glyph.drawn → glyph.kept ≡ [] → glyph.anchors ≡ []
    → IsVarying glyph
varying_of glyph are places wide range many outlines no_components no_anchors = record {
  flat = record {
    places = subst AreGlyphPlaces (sym places) are;
    widths = wide ∙ sym (ap length places);
    drawn = many ∙ sym (ap length places);
    offsets = λ k d within. absurd (omega (arith, within, ap length no_components));
    one_shape = λ i j d before within.
        (outlines i d (omega (arith, before, within))).shape ∙ sym (outlines j d within).shape;
    few_points = All-weaker IsOutline (λ (contours : List Contour). point_count contours ≤ 8000)
        (λ contours is. is.few_points) glyph.drawn outlines;
    no_empty_contour = All-weaker IsOutline
        (λ contours. All (λ (contour : Contour). 0 < length contour.points) contours)
        (λ contours is. is.whole) glyph.drawn outlines;
    few_kept = omega (arith, ap length no_components);
    small_points = All-weaker IsOutline
        (λ contours. All (λ (contour : Contour). All IsSmallPoint contour.points) contours)
        (λ contours is. is.small) glyph.drawn outlines;
    small_offsets = λ k d within. absurd (omega (arith, within, ap length no_components));
    small_anchors = λ k d within. absurd (omega (arith, within, ap length no_anchors));
    width_range = range;
    anchors = (0, omega arith, λ k d within. absurd (omega (arith, within, ap length no_anchors)));
  };
  places = places;
}
