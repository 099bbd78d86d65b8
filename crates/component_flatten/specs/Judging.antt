-- What the calls inside this crate tell of a limit: it is kept, or the rule that it breaks. For the
-- code and its proofs alone.
use Rattle.std.specs.Prelude.{◌≡◌, ℕ, ◌≤◌, ◌+◌, Bool, true, false, not, if◌then◌else◌, List, []}
use Rattle.std.specs.Prelude.{◌∷◌, length, unsigned_abs, Result, Ok, Err, Option, Some, None}
use Rattle.std.specs.Prelude.{is_some, slice_index_or, ◌<◌}
use Rattle.std.specs.List.{list_any, list_all, All}
use Rattle.std.specs.Map.{lookup}
use Rattle.std.specs.Cmp.Lexicographic.{pointwise}
use Rattle.std.specs.Prelude.{ℤ, nat_eq, ◌++◌}
use Rattle.font_ir.specs.Places.{axis_count}
use Rattle.font_ir.specs.declared.glyph.Anchor.{Anchor}
use Rattle.component_flatten.specs.Anchors.{anchor_at, with_position}
use Rattle.component_flatten.specs.declared.between.PointDeltas.{PointDeltas}
use Rattle.component_flatten.specs.declared.between.ContourDeltas.{ContourDeltas}
use Rattle.fixed_math.specs.declared.F2Dot14.{F2Dot14}
use Rattle.font_ir.specs.declared.glyph.Contour.{Contour}
use Rattle.font_ir.specs.declared.glyph.Shape.{Shape}
use Rattle.font_ir.specs.declared.glyph.Shape.TheVariants.{Path, Component}
use Rattle.font_ir.specs.declared.glyph.GlyphIr.{GlyphIr}
use Rattle.font_ir.specs.declared.glyph.FlatGlyph.{FlatGlyph}
use Rattle.font_ir.specs.FlatGlyphs.{point_count}
use Rattle.refusal_codes.specs.declared.rule.Rule.{Rule}
use Rattle.refusal_codes.specs.declared.rule.Rule.TheVariants.{CoordinateTooLarge, TooManyPoints}
use Rattle.refusal_codes.specs.declared.rule.Rule.TheVariants.{DeltaTooLarge}
use Rattle.component_flatten.specs.declared.transform.Spot.{Spot}
use Rattle.component_flatten.specs.declared.between.Between.{Between}
use Rattle.component_flatten.specs.declared.limits.LimitError.{LimitError}
use Rattle.component_flatten.specs.declared.limits.LimitError.TheVariants as limit_errors
use Rattle.component_flatten.specs.Places.{first_drawn, glyph_deltas, has_large_deltas}
use Rattle.component_flatten.specs.Places.{has_places, number_of, contour_in}
use Rattle.component_flatten.specs.Drawing.{bases_after, glyph_drawn}
use Rattle.component_flatten.specs.Flattening.{has_many_points, are_small}

-- the limit is kept, or the error is its rule, unless memory ran out
abbrev pub BreaksRule : Rule → Bool → LimitError → Type 0
BreaksRule rule kept (limit_errors.Broken r) = (r ≡ rule) × (kept ≡ false)
BreaksRule rule kept limit_errors.NoMemory = Unit {0}

abbrev pub Judges : {X : Type 0} → Rule → Bool → Result X LimitError → Type 0
Judges rule kept (Ok x) = kept ≡ true
Judges rule kept (Err e) = BreaksRule rule kept e

-- a base that lacks none of these places, or whose deltas can be stored
abbrev pub has_no_large_deltas : List (List F2Dot14) → FlatGlyph → Bool
has_no_large_deltas places base = not (has_large_deltas places base)

-- the first of the three rules that is broken
abbrev pub first_rule : Bool → Bool → Bool → Option Rule
first_rule many large small =
    if many then Some TooManyPoints
    else (if large then Some DeltaTooLarge else (if small then None else Some CoordinateTooLarge))

abbrev pub rule_of : GlyphIr → List FlatGlyph → Option Rule
rule_of glyph bases =
    first_rule (list_any has_many_points (glyph_drawn glyph bases))
    (list_any (has_large_deltas glyph.places) bases)
    (list_all are_small (glyph_drawn glyph bases))

abbrev pub RefusesRule : Option Rule → LimitError → Type 0
RefusesRule rule (limit_errors.Broken r) = rule ≡ Some r
RefusesRule rule limit_errors.NoMemory = Unit {0}

abbrev pub GivesDrawn : {X : Type 0} → Option Rule → X → Result X LimitError → Type 0
GivesDrawn rule value (Ok x) = (rule ≡ None) × (x ≡ value)
GivesDrawn rule value (Err e) = RefusesRule rule e

-- ---- numbers of points, counted from the bases

abbrev pub first_base_points : List FlatGlyph → ℕ
first_base_points [] = 0
first_base_points (base ∷ bases) = point_count (first_drawn base)

abbrev pub shape_points : List FlatGlyph → Shape → ℕ
shape_points bases (Path contour) = length contour.points
shape_points bases (Component base at scale quarters) = first_base_points bases

abbrev pub points_of : List FlatGlyph → List Shape → ℕ
points_of bases [] = 0
points_of bases (shape ∷ shapes) =
    shape_points bases shape + points_of (bases_after shape bases) shapes

-- how many bases a shape takes
abbrev pub bases_taken : Shape → ℕ
bases_taken (Path contour) = 0
bases_taken (Component base at scale quarters) = 1

-- ---- what is made of a base once

-- the deltas of a base that lacks a place
abbrev pub between_of : List (List F2Dot14) → FlatGlyph → Option Between
between_of places base =
    if has_places places base then None
    else Some (record { model = base.places; contours = glyph_deltas base })

-- the base has the place, or its deltas are there
abbrev pub IsReady : List F2Dot14 → FlatGlyph → Option Between → Type 0
IsReady at base None = is_some (number_of base at) ≡ true
IsReady at base (Some deltas) =
    (deltas.model ≡ base.places) × (deltas.contours ≡ glyph_deltas base)

-- a spot is not so far away that transforming it leaves an i64: 137438953472 is 2 ^ 37
abbrev pub IsNear : Spot → Type 0
IsNear spot = (unsigned_abs spot.x ≤ 137438953472) × (unsigned_abs spot.y ≤ 137438953472)

-- the contours have the point j of the contour c
abbrev pub HasPoint : ℕ → ℕ → List Contour → Type 0
HasPoint c j contours = (c < length contours) × (j < length (contour_in contours c).points)

-- a place has a number for each axis of a model's places, which are few
abbrev pub FitsModel : List F2Dot14 → List (List F2Dot14) → Type 0
FitsModel at model = (length at ≡ axis_count model) × (length model ≤ 64)

-- there is a delta for each place of a model
abbrev pub HasDelta : List (List F2Dot14) → PointDeltas → Type 0
HasDelta model point = (length point.x ≡ length model) × (length point.y ≡ length model)

abbrev pub HasDeltas : List (List F2Dot14) → ContourDeltas → Type 0
HasDeltas model contour = All (HasDelta model) contour.points

-- what is made of each base is ready for a place
pub record AreReady (at : List F2Dot14) (bases : List FlatGlyph) (made : List (Option Between))
    : Type 0 where
  pub as_many : length made ≡ length bases
  pub each : (n : ℕ) (base : FlatGlyph) → n < length bases
      → IsReady at (slice_index_or bases n base) (slice_index_or made n None)

-- ---- anchors

-- names with positions, in which each anchor is found by its name
abbrev pub Finds : List (List ℕ × (ℤ × ℤ)) → List Anchor → Type 0
Finds positions anchors = (name : List ℕ)
    → lookup (pointwise nat_eq name) positions ≡ anchor_at name anchors

-- what is found in all of them
abbrev pub found_in : List ℕ → List (List (List ℕ × (ℤ × ℤ))) → Option (List (ℤ × ℤ))
found_in name [] = Some []
found_in name (positions ∷ found) =
    with_position (lookup (pointwise nat_eq name) positions) (found_in name found)

-- positions, and those behind them
abbrev pub behind : List (ℤ × ℤ) → Option (List (ℤ × ℤ)) → Option (List (ℤ × ℤ))
behind positions None = None
behind positions (Some more) = Some (positions ++ more)
