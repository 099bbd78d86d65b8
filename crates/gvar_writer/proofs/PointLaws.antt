-- How many points a glyph has at each of its places.
use Rattle.std.proofs.Common.{◌≡◌, ℕ, zero, suc, ◌+◌, ◌<◌, ◌≤◌, ℤ, Bool, true, false, cond, List}
use Rattle.std.proofs.Common.{[]}
use Rattle.std.proofs.Common.{◌∷◌, ◌++◌, length, map, get_or, refl, ap, sym, ◌∙◌, arith, pos}
use Rattle.std.proofs.Common.{Option, None, Vec, Global, subst}
use Rattle.std.proofs.lemmas.List.{length-append, length-map, length-drop}
use Rattle.std.proofs.lemmas.List.FromFn.{length-map-range_with_len}
use Rattle.std.proofs.lemmas.List.Sums.{sum_by-cons}
use Rattle.std.specs.List.{All, sum_by}
use Rattle.std.specs.Vec.{vec_len}
use Rattle.fixed_math.specs.declared.F2Dot14.{F2Dot14}
use Rattle.font_ir.specs.declared.glyph.Contour.{Contour}
use Rattle.font_ir.specs.declared.glyph.FlatGlyph.{FlatGlyph}
use Rattle.font_ir.specs.declared.variation.Region.{Region}
use Rattle.font_ir.specs.FlatGlyphs.{IsFlatGlyph, shape_of, point_count}
use Rattle.font_ir.specs.Outlines.{contours_at}
use Rattle.variation_model.specs.Places.{order_of, ordered, of_rank, ranks, place_at}
use Rattle.variation_model.specs.Supports.{supports_after, supports_of}
use Rattle.gvar_writer.specs.GlyphPoints.{position_of, contour_positions, outline_positions}
use Rattle.gvar_writer.specs.GlyphPoints.{component_position, own_positions, positions_at}
use Rattle.gvar_writer.specs.GlyphPoints.{phantom_positions, point_total, is_simple}
use Rattle.gvar_writer.specs.GlyphPoints.{positions_by_place, numbers_of, rows_of, glyph_rows}
use Rattle.gvar_writer.specs.GlyphPoints.{or_else}
use Rattle.gvar_writer.specs.RowAnswers.{RefusesDelta}
use Rattle.gvar_writer.specs.declared.positions.Position.{Position}
use Rattle.gvar_writer.specs.declared.positions.Coordinate.{Coordinate}
use Rattle.variation_model.specs.Deltas.{deltas_of}
use Rattle.variation_model.specs.declared.errors.DeltaError.{DeltaError}
use Rattle.variation_model.specs.declared.errors.DeltaError.TheVariants as delta_errors
use Rattle.gvar_writer.specs.GlyphVariations.{AreShared, own_contours}

-- ---- of one place

length_outline : (contours : List Contour)
    → length (outline_positions contours) ≡ point_count contours
length_outline [] = refl
length_outline (contour ∷ contours) = omega (
  arith,
  length_outline contours,
  length-append (contour_positions contour) (outline_positions contours),
  length-map contour.points position_of,
  sum_by-cons (λ c. length c.points) contour contours,
)

shape_count : (contours : List Contour) → sum_by length (shape_of contours) ≡ point_count contours
shape_count [] = refl
shape_count (contour ∷ contours) = omega (
  arith,
  shape_count contours,
  sum_by-cons length (map (λ p. p.on) contour.points) (shape_of contours),
  sum_by-cons (λ c. length c.points) contour contours,
  length-map contour.points (λ p. p.on),
)

abbrev own_count : FlatGlyph → ℕ → Bool → ℕ
own_count glyph p true = point_count (contours_at p glyph)
own_count glyph p false = length glyph.kept

length_own : (glyph : FlatGlyph) (p : ℕ) (b : Bool)
    → length (cond b (outline_positions (contours_at p glyph))
    (map (component_position p) glyph.kept)) ≡ own_count glyph p b
length_own glyph p true = length_outline (contours_at p glyph)
length_own glyph p false = length-map glyph.kept (component_position p)

total_at : (glyph : FlatGlyph) (p : ℕ)
    → length (positions_at glyph p) ≡ own_count glyph p (is_simple glyph) + 4
total_at glyph p =
    let width : ℤ = get_or glyph.widths p (pos 0) in
    omega (
      arith,
      length-append (own_positions p glyph) (phantom_positions width),
      length_own glyph p (is_simple glyph),
    )

-- ---- of all places

same_own : (glyph : FlatGlyph) (p : ℕ) (b : Bool) → IsFlatGlyph glyph → p < length glyph.places
    → own_count glyph p b ≡ own_count glyph 0 b
same_own glyph zero b flat within = refl
same_own glyph (suc p) false flat within = refl
same_own glyph (suc p) true flat within =
    let one : shape_of (contours_at 0 glyph) ≡ shape_of (contours_at (suc p) glyph) =
    flat.one_shape 0 (suc p) [] (omega arith) (omega (arith, flat.drawn)) in
    sym (shape_count (contours_at (suc p) glyph)) ∙ ap (sum_by length) (sym one)
    ∙ shape_count (contours_at 0 glyph)

pub same_total : (glyph : FlatGlyph) (p : ℕ) → IsFlatGlyph glyph → p < length glyph.places
    → length (positions_at glyph p) ≡ point_total glyph
same_total glyph p flat within =
    total_at glyph p ∙ ap (λ n. n + 4) (same_own glyph p (is_simple glyph) flat within)
    ∙ sym (total_at glyph 0)

few_own : (glyph : FlatGlyph) (b : Bool) → IsFlatGlyph glyph → 0 < length glyph.places
    → own_count glyph 0 b ≤ 8000
few_own glyph true flat some = flat.few_points 0 [] (omega (arith, flat.drawn))
few_own glyph false flat some = omega (arith, flat.few_kept)

pub few_points : (glyph : FlatGlyph) → IsFlatGlyph glyph → 0 < length glyph.places
    → point_total glyph ≤ 8004
few_points glyph flat some = omega
    (arith, total_at glyph 0, few_own glyph (is_simple glyph) flat some)

outline_within : (glyph : FlatGlyph) (b : Bool)
    → point_count (cond b (contours_at 0 glyph) []) ≤ own_count glyph 0 b
outline_within glyph true = omega arith
outline_within glyph false = omega arith

pub own_within : (glyph : FlatGlyph) → point_count (own_contours glyph) ≤ point_total glyph
own_within glyph = omega (arith, total_at glyph 0, outline_within glyph (is_simple glyph))

-- ---- regions

length_after : (places earlier rest : List (List F2Dot14))
    → length (supports_after places earlier rest) ≡ length rest
length_after places earlier [] = refl
length_after places earlier (place ∷ rest) = ap suc
    (length_after places (earlier ++ place ∷ []) rest)

length_order : (places : List (List F2Dot14)) → length (order_of places) ≡ length places
unfolding order_of
length_order places = length-map-range_with_len (of_rank (ranks places)) 0 (length places)

length_supports : (places : List (List F2Dot14)) → length (supports_of places) ≡ length places
unfolding supports_of
length_supports places =
    length_after places [] (ordered places)
    ∙ length-map (order_of places) (place_at places)
    ∙ length_order places

pub few_shared : (shared : List Region) → AreShared shared → length shared ≤ 4096
few_shared shared are = omega (
  arith,
  ap length are.are_regions,
  length_supports are.masters,
  length-drop 1 (supports_of are.masters),
  are.are_places.few,
)

-- ---- rows

pub some_places : (glyph : FlatGlyph) → IsFlatGlyph glyph → 0 < length glyph.places
some_places glyph flat = omega (arith, flat.places.are_places.has_zero.1)

pub rows_are : (coordinate : Coordinate) (glyph : FlatGlyph) (places : List (List F2Dot14))
    (by_place : List (List Position)) (count : ℕ) → places ≡ glyph.places
    → by_place ≡ positions_by_place glyph → count ≡ point_total glyph
    → rows_of coordinate places by_place count ≡ glyph_rows coordinate glyph
unfolding glyph_rows
rows_are coordinate glyph places by_place count is_places is_positions is_count =
    λ i. rows_of coordinate (is_places i) (is_positions i) (is_count i)

pub length_rows : (coordinate : Coordinate) (glyph : FlatGlyph)
    → length (glyph_rows coordinate glyph) ≡ point_total glyph
unfolding glyph_rows
length_rows coordinate glyph =
    length-map-range_with_len (λ i. deltas_of glyph.places
    (numbers_of coordinate (positions_by_place glyph) i)) 0 (point_total glyph)

pub refuse_x : (e : DeltaError) (x y : Option (ℕ × ℤ)) → RefusesDelta e x
    → RefusesDelta e (or_else x y)
refuse_x (delta_errors.TooLarge at value) x y h = ap (λ large. or_else large y) h
refuse_x delta_errors.NoMemory x y h = tt

pub refuse_y : (e : DeltaError) (x y : Option (ℕ × ℤ)) → x ≡ None → RefusesDelta e y
    → RefusesDelta e (or_else x y)
refuse_y (delta_errors.TooLarge at value) x y none h = ap (λ large. or_else large y) none ∙ h
refuse_y delta_errors.NoMemory x y none h = tt

-- ---- what the first place tells

abbrev pub items_of : Vec Position Global → List Position
items_of positions = positions.items

-- as many points as at the first place
pub count_is : (glyph : FlatGlyph) (by_place seen : List (Vec Position Global))
    (first : Vec Position Global) (count : ℕ) → IsFlatGlyph glyph → seen ≡ by_place
    → length by_place ≡ length glyph.places
    → All (λ positions. length positions.items ≡ point_total glyph) by_place
    → first ≡ get_or seen 0 first → count ≡ vec_len first → count ≡ point_total glyph
count_is glyph by_place seen first count flat is places many item counted =
    let own : count ≡ length first.items = omega arith in
    own ∙ ap (λ v. length v.items) (item ∙ ap (λ vs. get_or vs 0 first) is)
    ∙ many 0 first (omega (arith, some_places glyph flat))

pub each_count : (glyph : FlatGlyph) (by_place seen : List (Vec Position Global)) (count : ℕ)
    → seen ≡ by_place
    → All (λ positions. length positions.items ≡ point_total glyph) by_place
    → count ≡ point_total glyph → All (λ positions. length positions.items ≡ count) seen
each_count glyph by_place seen count is many counted =
    subst (λ vs. All (λ positions. length positions.items ≡ count) vs) (sym is)
    (subst (λ n. All (λ positions. length positions.items ≡ n) by_place) (sym counted) many)
