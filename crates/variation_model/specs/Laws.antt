-- What holds of the order, of the supports and of the deltas of any places that a model has. Order,
-- supports and rounding are fontc's own, and so are their laws.
use Rattle.std.specs.Prelude.{◌≡◌, ◌≢◌, ◌⊎◌, ℕ, ◌<◌, ◌≤◌, Bool, true, false, List, length}
use Rattle.std.specs.Prelude.{replicate, take, ℤ, pos, ◌-ℤ◌, unsigned_abs, All, Contains, EachIndex}
use Rattle.std.specs.Prelude.{FitsSigned, slice_index_or, Result, Ok, Err, Vec}
use Rattle.std.specs.Int.{w16}
use Rattle.std.specs.declared.alloc.Global.{Global}
use Rattle.fixed_math.specs.declared.F2Dot14.{F2Dot14}
use Rattle.fixed_math.specs.declared.Fixed.{Fixed}
use Rattle.fixed_math.specs.FixedPoint.{half_up}
use Rattle.variation_model.specs.Places.{place_at, axis_count, zero_number, ordered, order_of, key}
use Rattle.variation_model.specs.Places.{is_less_key}
use Rattle.variation_model.specs.Supports.{supports_of}
use Rattle.variation_model.specs.Cuts.{Side, IsSupport}
use Rattle.variation_model.specs.Scalar.{scalar_of}
use Rattle.variation_model.specs.Deltas.{deltas_of, region_at, value_of, value_at_place}
use Rattle.variation_model.specs.declared.errors.DeltaError.{DeltaError}
use Rattle.variation_model.specs.declared.errors.DeltaError.TheVariants as delta_errors

-- whether a place comes before another, among these places
abbrev pub comes_before : List (List F2Dot14) → List F2Dot14 → List F2Dot14 → Bool
comes_before places x y = is_less_key (key places x) (key places y)

-- it is an order: no place comes before itself, and of two different places just one comes before
-- the other
pub record IsOrder (before : List F2Dot14 → List F2Dot14 → Bool) : Type 0 where
  pub irreflexive : (x : List F2Dot14) → before x x ≡ false
  pub transitive : (x y z : List F2Dot14) → before x y ≡ true → before y z ≡ true
      → before x z ≡ true
  pub total : (x y : List F2Dot14) → length x ≡ length y → x ≢ y
      → (before x y ≡ true) ⊎ (before y x ≡ true)

-- positions that name each place once, in that order
pub record IsInOrder (places : List (List F2Dot14)) (positions : List ℕ) : Type 0 where
  pub as_many : length positions ≡ length places
  pub within : All (λ i. i < length places) positions
  pub each : (i : ℕ) → i < length places → Contains positions i
  pub once : (j k : ℕ) → j < k → k < length places
      → slice_index_or positions j 0 ≢ slice_index_or positions k 0
  pub rising : (j k : ℕ) → j < k → k < length places
      → comes_before places (place_at places (slice_index_or positions j 0))
      (place_at places (slice_index_or positions k 0)) ≡ true

-- the first of the places in their order is the zero one
abbrev pub IsZeroFirst : List (List F2Dot14) → Type 0
IsZeroFirst places = place_at (ordered places) 0 ≡ replicate (axis_count places) zero_number

-- the scalar that the support of the k-th place in the order has at the j-th
abbrev pub scalar_between : List (List F2Dot14) → ℕ → ℕ → ℤ
scalar_between places k j = scalar_of ((region_at (supports_of places) k).sides)
    (place_at (ordered places) j)

-- a place's own support counts whole there
abbrev pub OwnSupportsCountWhole : List (List F2Dot14) → Type 0
OwnSupportsCountWhole places = EachIndex places (λ k. scalar_between places k k ≡ pos 65536)

-- a later place's support counts nothing at an earlier place
abbrev pub LaterSupportsCountNothing : List (List F2Dot14) → Type 0
LaterSupportsCountNothing places = (j k : ℕ) → j < k → k < length places
    → scalar_between places k j ≡ pos 0

-- each support is what the places before its own, each in its turn, leave of the widest region
abbrev pub EarlierPlacesCut : List (List F2Dot14) → Type 0
EarlierPlacesCut places =
    EachIndex places (λ k. IsSupport places (take k (ordered places)) (place_at (ordered places) k)
    ((region_at (supports_of places) k).sides))

-- and no other region is
abbrev pub NoOtherSupports : List (List F2Dot14) → Type 0
NoOtherSupports places =
    (k : ℕ) (sides : List Side) → k < length places
    → IsSupport places (take k (ordered places)) (place_at (ordered places) k) sides
    → sides ≡ (region_at (supports_of places) k).sides

-- each delta, in the places' order, is what the earlier ones lack of the value at its place,
-- rounded
abbrev pub IsEachWhatIsLacking : List (List F2Dot14) → List Fixed → List ℤ → Type 0
IsEachWhatIsLacking places values deltas =
    EachIndex places (λ k. slice_index_or deltas k (pos 0)
    ≡ half_up (value_at_place values (slice_index_or (order_of places) k 0) -ℤ value_of
    (supports_of places) (take k deltas) (place_at (ordered places) k)))

-- what deltas give at each place differs from the value there by at most one half, in 16.16
abbrev pub MeetWithinHalf : List (List F2Dot14) → List Fixed → List ℤ → Type 0
MeetWithinHalf places values deltas =
    EachIndex places (λ i. unsigned_abs (value_of (supports_of places) deltas (place_at places i) -ℤ
    value_at_place values i) ≤ 32768)

-- what is given at a place differs from each value there by at most one half, in 16.16, if the
-- deltas are the value's and the place is one of these
abbrev pub IsWithinHalfOfValues : List (List F2Dot14) → List ℤ → List F2Dot14 → ℤ → Type 0
IsWithinHalfOfValues places deltas at given =
    (values : List Fixed) (i : ℕ) → deltas ≡ deltas_of places values → i < length places
    → at ≡ place_at places i → unsigned_abs (given -ℤ value_at_place values i) ≤ 32768

-- the delta at this number is outside an i16, and none before it is
pub record IsFirstOutside (deltas : List ℤ) (at : ℕ) (value : ℤ) : Type 0 where
  pub within : at < length deltas
  pub there : slice_index_or deltas at (pos 0) ≡ value
  pub outside : FitsSigned w16 value → ⊥
  pub before : (k : ℕ) → k < at → FitsSigned w16 (slice_index_or deltas k (pos 0))

-- deltas are answered only where all are in an i16, and too large is the first that isn't
abbrev pub RefusesFirst : DeltaError → List ℤ → Type 0
RefusesFirst (delta_errors.TooLarge at value) deltas = IsFirstOutside deltas at value
RefusesFirst delta_errors.NoMemory deltas = Unit {0}

abbrev pub RefusesFirstOutside : Result (Vec ℤ Global) DeltaError → List ℤ → Type 0
RefusesFirstOutside (Ok answer) deltas = EachIndex deltas
    (λ k. FitsSigned w16 (slice_index_or deltas k (pos 0)))
RefusesFirstOutside (Err e) deltas = RefusesFirst e deltas
