-- A glyph of a font without axes has one place, and doesn't vary.
use Rattle.std.proofs.Common.{◌≡◌, ℕ, zero, suc, ◌<◌, Bool, true, false, cond, List, []}
use Rattle.std.proofs.Common.{◌∷◌, ◌++◌, refl, sym, ap, ◌∙◌, arith, length, map, get_or, ℤ, pos}
use Rattle.std.proofs.Common.{negsuc}
use Rattle.std.proofs.Common.{◌*ℤ◌, ◌-ℤ◌, ◌≤ℤ◌, subst}
use Rattle.std.proofs.lemmas.Int.{ints}
use Rattle.std.specs.Prelude.{neg_ℤ}
use Rattle.std.specs.List.{All, range_with_len}
use Rattle.fixed_math.specs.declared.F2Dot14.{F2Dot14}
use Rattle.fixed_math.specs.declared.Fixed.{Fixed}
use Rattle.fixed_math.specs.FixedPoint.{half_up}
use Rattle.fixed_math.specs.FloorLaws.{half_up_exact, half_up_monotone}
use Rattle.font_ir.specs.declared.glyph.Contour.{Contour}
use Rattle.font_ir.specs.declared.glyph.DrawnPoint.{DrawnPoint}
use Rattle.font_ir.specs.declared.glyph.FlatGlyph.{FlatGlyph}
use Rattle.font_ir.specs.declared.glyph.Kept.{Kept}
use Rattle.font_ir.specs.FlatGlyphs.{IsFlatGlyph, IsSmall, IsSmallPoint}
use Rattle.font_ir.specs.Outlines.{contours_at}
use Rattle.font_ir.specs.Places.{ArePlaces, axis_count}
use Rattle.variation_model.specs.Places.{order_of}
use Rattle.variation_model.specs.Supports.{supports_of}
use Rattle.variation_model.specs.Deltas.{deltas_of, is_storable}
use Rattle.gvar_writer.specs.declared.positions.Coordinate.{Coordinate}
use Rattle.gvar_writer.specs.declared.positions.Coordinate.TheVariants as coordinates
use Rattle.gvar_writer.specs.declared.positions.Position.{Position}
use Rattle.gvar_writer.specs.GlyphPoints.{along, component_position, contour_positions, glyph_rows}
use Rattle.gvar_writer.specs.GlyphPoints.{is_simple, numbers_of, offset_position, origin}
use Rattle.gvar_writer.specs.GlyphPoints.{outline_positions, phantom_positions, point_total}
use Rattle.gvar_writer.specs.GlyphPoints.{position_of, positions_at, positions_by_place}
use Rattle.font_tables.proofs.StillRows.{AreStill, IsStoredStill}

-- ---- its place

abbrev alone : List (List F2Dot14)
alone = [] ∷ []

empty : {X : Type 0} (xs : List X) → length xs ≡ 0 → xs ≡ []
empty [] e = refl
empty (x ∷ xs) e = absurd (omega (arith, e))

one_place : (places : List (List F2Dot14)) → ArePlaces places → axis_count places ≡ 0
    → places ≡ alone
one_place [] are none = absurd (omega (arith, are.has_zero.1))
one_place (place ∷ []) are none = ap (λ (p : List F2Dot14). p ∷ []) (empty place none)
one_place (place ∷ other ∷ places) are none =
    let second : length other ≡ 0 = are.one_length 1 (omega arith) ∙ none in
    absurd (are.different 0 1 (omega arith) (omega arith)
    (empty place none ∙ sym (empty other second)))

-- ---- its points

-- a number in 16.16 that can be stored once it is rounded
abbrev IsWithin : ℤ → Type 0
IsWithin z = (neg_ℤ (pos 1073676288) ≤ℤ z) × (z ≤ℤ pos 2147418112)

abbrev IsNear : Position → Type 0
IsNear position = IsWithin position.x.0 × IsWithin position.y.0

abbrev AreNear : List Position → Type 0
AreNear [] = Unit {0}
AreNear (position ∷ positions) = IsNear position × AreNear positions

near_both : (ps qs : List Position) → AreNear ps → AreNear qs → AreNear (ps ++ qs)
near_both [] qs near also = also
near_both (p ∷ ps) qs near also = (near.0, near_both ps qs near.1 also)

near_at : (ps : List Position) (i : ℕ) → AreNear ps → IsNear (get_or ps i origin)
near_at [] i near = (
  (omega (arith, ints), omega (arith, ints)),
  (omega (arith, ints), omega (arith, ints)),
)
near_at (p ∷ ps) zero near = near.0
near_at (p ∷ ps) (suc i) near = near_at ps i near.1

small_within : (u : ℤ) → neg_ℤ (pos 16383) ≤ℤ u → u ≤ℤ pos 32767 → IsWithin (pos 65536 *ℤ u)
small_within u low high = (omega (arith, ints), omega (arith, ints))

fixed_within : (z : ℤ) → neg_ℤ (pos 1073676288) ≤ℤ z → z ≤ℤ pos 1073676288 → IsWithin z
fixed_within z low high = (low, omega (arith, ints))

near_points : (points : List DrawnPoint) → All IsSmallPoint points
    → AreNear (map position_of points)
near_points [] small = tt
near_points (point ∷ points) small =
    let first = small 0 point (omega arith) in (
      (fixed_within point.x.0 first.0.0 first.0.1, fixed_within point.y.0 first.1.0 first.1.1),
      near_points points (λ k d h. small (suc k) d (omega (arith, h))),
    )

near_outline : (contours : List Contour) → All (λ contour. All IsSmallPoint contour.points) contours
    → AreNear (outline_positions contours)
near_outline [] small = tt
near_outline (contour ∷ contours) small =
    near_both (contour_positions contour) (outline_positions contours)
    (near_points contour.points (small 0 contour (omega arith)))
    (near_outline contours (λ k d h. small (suc k) d (omega (arith, h))))

abbrev IsSmallKept : Kept → Type 0
IsSmallKept kept = All (λ offset. IsSmall offset.0 × IsSmall offset.1) kept.at

whole_near : (offset : ℤ × ℤ) → IsSmall offset.0 → IsSmall offset.1
    → IsNear (offset_position offset)
whole_near offset x y = (
  small_within offset.0 x.0 (omega (arith, ints, x.1)),
  small_within offset.1 y.0 (omega (arith, ints, y.1)),
)

near_kept : (kept : List Kept) (n : ℕ) → 0 < n → All (λ k. length k.at ≡ n) kept
    → All IsSmallKept kept → AreNear (map (component_position 0) kept)
near_kept [] n some long small = tt
near_kept (k ∷ kept) n some long small =
    let its : length k.at ≡ n = long 0 k (omega arith) in
    let offset = small 0 k (omega arith) 0 (pos 0, pos 0) (omega (arith, its, some)) in (
      whole_near (get_or k.at 0 (pos 0, pos 0)) offset.0 offset.1,
      near_kept kept n some (λ i d h. long (suc i) d (omega (arith, h)))
          (λ i d h. small (suc i) d (omega (arith, h))),
    )

near_phantoms : (width : ℤ) → pos 0 ≤ℤ width → width ≤ℤ pos 32767
    → AreNear (phantom_positions width)
near_phantoms width low high =
    let none : IsWithin (pos 0) = (omega (arith, ints), omega (arith, ints)) in
    let wide = small_within width (omega (arith, ints)) high in
    ((none, none), ((wide, none), ((none, none), ((none, none), tt))))

module _ (glyph : FlatGlyph) (flat : IsFlatGlyph glyph) (none : axis_count glyph.places ≡ 0) where
  alone_is : glyph.places ≡ alone
  alone_is = one_place glyph.places flat.places.are_places none

  one : length glyph.places ≡ 1
  one = ap length alone_is

  near_own : (b : Bool) → AreNear (cond b (outline_positions (contours_at 0 glyph))
      (map (component_position 0) glyph.kept))
  near_own true = near_outline (contours_at 0 glyph)
      (flat.small_points 0 [] (omega (arith, flat.drawn, one)))
  near_own false = near_kept glyph.kept (length glyph.places) (omega (arith, one)) flat.offsets
      flat.small_offsets

  near : AreNear (positions_at glyph 0)
  near =
      let width = flat.width_range 0 (pos 0) (omega (arith, flat.widths, one)) in
      near_both (cond (is_simple glyph) (outline_positions (contours_at 0 glyph))
      (map (component_position 0) glyph.kept))
      (phantom_positions (get_or glyph.widths 0 (pos 0)))
      (near_own (is_simple glyph))
      (near_phantoms (get_or glyph.widths 0 (pos 0)) width.0 width.1)

  -- ---- its rows

  within_along : (c : Coordinate) (position : Position) → IsNear position
      → IsWithin (along c position).0
  within_along coordinates.X position is = is.0
  within_along coordinates.Y position is = is.1

  stored : (z : ℤ) → IsWithin z → is_storable (half_up z) ≡ true
  stored z within =
      let low = half_up_monotone (negsuc 16382 *ℤ pos 65536) z within.0 in
      let high = half_up_monotone z (pos 32767 *ℤ pos 65536) within.1 in
      let least = half_up_exact (negsuc 16382) in
      let greatest = half_up_exact (pos 32767) in
      in_range (half_up z) (subst (λ (y : ℤ). y ≤ℤ half_up z) least low)
      (subst (λ (y : ℤ). half_up z ≤ℤ y) greatest high)
    where
      in_range : (y : ℤ) → negsuc 16382 ≤ℤ y → y ≤ℤ pos 32767 → is_storable y ≡ true
      in_range y low high = grind (arith, ints)

  nothing_off : (z : ℤ) → z -ℤ pos 0 ≡ z
  nothing_off z = omega (arith, ints)

  one_delta : (value : Fixed) → deltas_of alone (value ∷ []) ≡ half_up value.0 ∷ []
  unfolding deltas_of supports_of order_of
  one_delta value = ap (λ (z : ℤ). half_up z ∷ []) (nothing_off value.0)

  row_is : (c : Coordinate) (i : ℕ)
      → deltas_of glyph.places (numbers_of c (positions_by_place glyph) i)
      ≡ half_up ((along c (get_or (positions_at glyph 0) i origin)).0) ∷ []
  row_is c i =
      ap (λ (places : List (List F2Dot14)). deltas_of places (numbers_of c
      (map (positions_at glyph) (range_with_len 0 (length places))) i)) alone_is
      ∙ one_delta (along c (get_or (positions_at glyph 0) i origin))

  row_still : (c : Coordinate) (i : ℕ)
      → IsStoredStill (deltas_of glyph.places (numbers_of c (positions_by_place glyph) i))
  row_still c i =
      let position = get_or (positions_at glyph 0) i origin in
      let z : ℤ = (along c position).0 in
      subst IsStoredStill (sym (row_is c i)) (
        half_up z,
        stored z (within_along c position (near_at (positions_at glyph 0) i near)),
        (refl, tt),
      )

  rows_still : (c : Coordinate) (ks : List ℕ) → AreStill
      (map (λ i. deltas_of glyph.places (numbers_of c (positions_by_place glyph) i)) ks)
  rows_still c [] = tt
  rows_still c (k ∷ ks) = (row_still c k, rows_still c ks)

  pub all_still : (c : Coordinate) → AreStill (glyph_rows c glyph)
  unfolding glyph_rows
  all_still c = rows_still c (range_with_len 0 (point_total glyph))
