-- The deltas of a value that has a number at each place, and the number that they give at a place.
-- A default value and deltas over regions stand for a value at each master, and their sum by
-- scalars is the value at an instance (OpenType 1.9, "Font variations common table formats",
-- "Algorithm for interpolation of instance values"). That each delta is formed from the earlier
-- ones as they are stored, and so rounded, is fontc's own.
use Rattle.std.specs.Prelude.{◌≡◌, ℕ, ◌+◌, Bool, ◌&&◌, if◌then◌else◌, List, [], ◌∷◌, ◌++◌, map}
use Rattle.std.specs.Prelude.{slice_index_or, ℤ, pos, negsuc, ◌+ℤ◌, ◌-ℤ◌, ◌*ℤ◌, int_le, Option}
use Rattle.std.specs.Prelude.{Some, None, Result, Ok, Err, Vec}
use Rattle.std.specs.declared.alloc.Global.{Global}
use Rattle.fixed_math.specs.declared.F2Dot14.{F2Dot14}
use Rattle.fixed_math.specs.declared.Fixed.{Fixed}
use Rattle.fixed_math.specs.FixedPoint.{half_up}
use Rattle.font_ir.specs.declared.variation.Region.{Region}
use Rattle.variation_model.specs.Places.{ordered, order_of}
use Rattle.variation_model.specs.Scalar.{scalar_of}
use Rattle.variation_model.specs.Supports.{supports_of}
use Rattle.variation_model.specs.declared.errors.DeltaError.{DeltaError}
use Rattle.variation_model.specs.declared.errors.DeltaError.TheVariants as delta_errors

-- the sum of the deltas, each times its region's scalar at the place, over 65536
abbrev pub value_of : List Region → List ℤ → List F2Dot14 → ℤ
value_of [] deltas place = pos 0
value_of (region ∷ regions) [] place = pos 0
value_of (region ∷ regions) (delta ∷ deltas) place =
    (scalar_of region.sides place *ℤ delta) +ℤ value_of regions deltas place

abbrev pub region_at : List Region → ℕ → Region
region_at regions i = slice_index_or regions i (record { sides = [] })

-- the deltas of the places that are left, after those of the earlier ones: what a value lacks there
-- of what the earlier deltas give, rounded
abbrev pub deltas_after : List Region → List ℤ → List (List F2Dot14) → List ℤ → List ℤ
deltas_after regions earlier [] values = []
deltas_after regions earlier (place ∷ places) [] = []
deltas_after regions earlier (place ∷ places) (value ∷ values) =
    let delta = half_up (value -ℤ value_of regions earlier place) in
    delta ∷ deltas_after regions (earlier ++ delta ∷ []) places values

-- the values in the model's order
abbrev pub value_at_place : List Fixed → ℕ → ℤ
value_at_place values i = (slice_index_or values i (record { 0 = pos 0 })).0

-- the deltas of values that stand in the order of the places, in the model's order: whole numbers
-- without bounds
unfoldable pub deltas_of : List (List F2Dot14) → List Fixed → List ℤ
deltas_of places values =
    deltas_after (supports_of places) [] (ordered places)
    (map (value_at_place values) (order_of places))

-- whether a delta can be stored
abbrev pub is_storable : ℤ → Bool
is_storable delta = int_le (negsuc 32767) delta && int_le delta (pos 32767)

-- the first delta that can't be stored, with its number
abbrev pub first_large : ℕ → List ℤ → Option (ℕ × ℤ)
first_large at [] = None
first_large at (delta ∷ deltas) = if is_storable delta then first_large (at + 1) deltas else Some
    (at, delta)

-- deltas are answered where all can be stored; else the first that can't, unless memory ran out
abbrev pub RefusesDeltas : DeltaError → List ℤ → Type 0
RefusesDeltas (delta_errors.TooLarge at value) deltas = first_large 0 deltas ≡ Some (at, value)
RefusesDeltas delta_errors.NoMemory deltas = Unit {0}

abbrev pub GivesDeltas : Result (Vec ℤ Global) DeltaError → List ℤ → Type 0
GivesDeltas (Ok answer) deltas = (answer.items ≡ deltas) × (first_large 0 deltas ≡ None)
GivesDeltas (Err e) deltas = RefusesDeltas e deltas
