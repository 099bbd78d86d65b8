-- A made `.notdef` is the same at every place.
use Rattle.std.proofs.Common.{◌≡◌, ℕ, zero, suc, ◌+◌, ◌<◌, ◌≤◌, ◌/◌, true, List, []}
use Rattle.std.proofs.Common.{◌∷◌, ◌++◌, refl, ap, ◌∙◌, arith, length, map, get_or, ℤ, pos}
use Rattle.std.proofs.Common.{◌*ℤ◌}
use Rattle.std.proofs.lemmas.Int.{ints}
use Rattle.std.proofs.lemmas.List.{length-map}
use Rattle.std.proofs.lemmas.List.FromFn.{length-map-range_with_len}
use Rattle.std.specs.List.{range_with_len}
use Rattle.fixed_math.specs.declared.F2Dot14.{F2Dot14}
use Rattle.font_ir.specs.declared.header.Header.{Header}
use Rattle.font_ir.specs.declared.header.Master.{Master}
use Rattle.font_ir.specs.declared.glyph.Contour.{Contour}
use Rattle.font_ir.specs.declared.glyph.FlatGlyph.{FlatGlyph}
use Rattle.font_ir.specs.FlatGlyphs.{IsFlatGlyph}
use Rattle.font_ir.specs.Headers.{IsHeader}
use Rattle.font_ir.specs.Notdef.{made_notdef_of}
use Rattle.variation_model.specs.Deltas.{deltas_of, is_storable}
use Rattle.gvar_writer.specs.declared.positions.Coordinate.{Coordinate}
use Rattle.gvar_writer.specs.declared.positions.Coordinate.TheVariants as coordinates
use Rattle.gvar_writer.specs.declared.positions.Position.{Position}
use Rattle.gvar_writer.specs.GlyphPoints.{along, glyph_rows, numbers_of, origin}
use Rattle.gvar_writer.specs.GlyphPoints.{outline_positions, phantom_positions, point_total}
use Rattle.gvar_writer.specs.GlyphPoints.{positions_at, positions_by_place}
use Rattle.font_tables.proofs.Constants.{AreUnits, still}
use Rattle.font_tables.proofs.StillRows.{AreStill, IsStoredStill}

abbrev location_of : Master → List F2Dot14
location_of master = master.location

-- no contours, wherever one looks
no_contours : (masters : List Master) (k : ℕ)
    → get_or {A = List Contour} (map (λ master. []) masters) k [] ≡ []
no_contours [] k = refl
no_contours (master ∷ masters) zero = refl
no_contours (master ∷ masters) (suc k) = no_contours masters k

same_width : (masters : List Master) (width : ℤ) (k : ℕ) → k < length masters
    → get_or (map (λ master. width) masters) k (pos 0) ≡ width
same_width [] width k h = absurd (omega (arith, h))
same_width (master ∷ masters) width zero h = refl
same_width (master ∷ masters) width (suc k) h = same_width masters width k (omega (arith, h))

module _ (header : Header) (is : IsHeader header) (flat : IsFlatGlyph (made_notdef_of header)) where
  abbrev glyph : FlatGlyph
  glyph = made_notdef_of header

  abbrev width : ℤ
  width = pos (header.upem / 2)

  abbrev phantoms : List Position
  phantoms = phantom_positions width

  -- ---- its points

  points_at : (k : ℕ) → k < length header.masters → positions_at glyph k ≡ phantoms
  points_at k h =
      ap (λ (contours : List Contour). outline_positions contours
      ++ phantom_positions (get_or glyph.widths k (pos 0))) (no_contours header.masters k)
      ∙ ap phantom_positions (same_width header.masters width k h)

  small : is_storable width ≡ true
  small = let units = is.units.1 in grind (arith, ints)

  -- each coordinate is a whole number
  unit_of : (c : Coordinate) (i : ℕ) → (u : ℤ) × (is_storable u ≡ true)
      × ((along c (get_or phantoms i origin)).0 ≡ pos 65536 *ℤ u)
  unit_of coordinates.X zero = (pos 0, refl, refl)
  unit_of coordinates.X (suc zero) = (width, small, refl)
  unit_of coordinates.X (suc (suc zero)) = (pos 0, refl, refl)
  unit_of coordinates.X (suc (suc (suc zero))) = (pos 0, refl, refl)
  unit_of coordinates.X (suc (suc (suc (suc i)))) = (pos 0, refl, refl)
  unit_of coordinates.Y zero = (pos 0, refl, refl)
  unit_of coordinates.Y (suc zero) = (pos 0, refl, refl)
  unit_of coordinates.Y (suc (suc zero)) = (pos 0, refl, refl)
  unit_of coordinates.Y (suc (suc (suc zero))) = (pos 0, refl, refl)
  unit_of coordinates.Y (suc (suc (suc (suc i)))) = (pos 0, refl, refl)

  units_over : (c : Coordinate) (i : ℕ) (u : ℤ)
      → (along c (get_or phantoms i origin)).0 ≡ pos 65536 *ℤ u → (a n : ℕ)
      → a + n ≤ length header.masters
      → AreUnits u (numbers_of c (map (positions_at glyph) (range_with_len a n)) i)
  units_over c i u e a zero h = tt
  units_over c i u e a (suc n) h = (
    ap (λ (ps : List Position). (along c (get_or ps i origin)).0)
        (points_at a (omega (arith, h))) ∙ e,
    units_over c i u e (a + 1) n (omega (arith, h)),
  )

  -- ---- its rows

  abbrev by_place : List (List Position)
  by_place = positions_by_place glyph

  long : length glyph.places ≡ length header.masters
  long = length-map header.masters location_of

  numbers_long : (c : Coordinate) (i : ℕ)
      → length (numbers_of c by_place i) ≡ length glyph.places
  numbers_long c i =
      length-map by_place (λ ps. along c (get_or ps i origin))
      ∙ length-map-range_with_len (positions_at glyph) 0 (length glyph.places)

  row_still : (c : Coordinate) (i : ℕ)
      → IsStoredStill (deltas_of glyph.places (numbers_of c by_place i))
  row_still c i =
      let unit = unit_of c i in (
        unit.0,
        unit.1,
        still glyph.places flat.places.are_places unit.0 (numbers_of c by_place i)
            (numbers_long c i) (units_over c i unit.0 unit.2 0 (length glyph.places)
            (omega (arith, long))),
      )

  rows_still : (c : Coordinate) (ks : List ℕ)
      → AreStill (map (λ i. deltas_of glyph.places (numbers_of c by_place i)) ks)
  rows_still c [] = tt
  rows_still c (k ∷ ks) = (row_still c k, rows_still c ks)

  pub all_still : (c : Coordinate) → AreStill (glyph_rows c glyph)
  unfolding glyph_rows
  all_still c = rows_still c (range_with_len 0 (point_total glyph))
