-- The pairs of an axis in the table avar (OpenType 1.9, "avar"): from a normalised user coordinate
-- to the normalised design coordinate. They are a set of which the table holds the rising list,
-- where there is one.
use Rattle.std.specs.Prelude.{◌≡◌, ◌≢◌, ℕ, Bool, ◌&&◌, if◌then◌else◌, List, [], ◌∷◌}
use Rattle.std.specs.Prelude.{◌≤ℤ◌, int_lt, Option, Some, None, Result, Ok, Err}
use Rattle.std.specs.Prelude.{Vec, Contains}
use Rattle.std.specs.Ordering.{int_cmp, ordering_then}
use Rattle.std.specs.declared.cmp.Ordering.{Ordering}
use Rattle.std.specs.declared.cmp.Ordering.TheVariants.{Less, Equal, Greater}
use Rattle.std.specs.declared.alloc.Global.{Global}
use Rattle.fixed_math.specs.declared.F2Dot14.{F2Dot14}
use Rattle.font_ir.specs.declared.header.Master.{Master}
use Rattle.font_ir.specs.AxisMaps.{Pair, Rises, IsRisingList, pairs_of}
use Rattle.axis_space.specs.declared.errors.MapError.{MapError}
use Rattle.axis_space.specs.declared.errors.MapError.TheVariants as map_errors

-- two pairs of the set that don't rise, the second one being above the first or beside it by the
-- first number
pub record Falls (set : List Pair) (p q : Pair) : Type 0 where
  pub first : Contains set p
  pub second : Contains set q
  pub different : p ≢ q
  pub not_below : p.0.0 ≤ℤ q.0.0
  pub not_rising : ¬ (Rises p q)

-- the least number at which pairs of the set don't rise
pub record IsFirstFall (set : List Pair) (x : F2Dot14) : Type 0 where
  pub reached : (p : Pair) × (q : Pair) × Falls set p q × (q.0 ≡ x)
  pub least : (p q : Pair) → Falls set p q → x.0 ≤ℤ q.0.0

-- what is made of the set: its rising list, which is the only one; or where there is none, the
-- number at which pairs first don't rise
abbrev pub Orders : List Pair → Result (List Pair) F2Dot14 → Type 0
Orders set (Ok pairs) = IsRisingList set pairs
    × ((others : List Pair) → IsRisingList set others → others ≡ pairs)
Orders set (Err x) = IsFirstFall set x × ((pairs : List Pair) → ¬ (IsRisingList set pairs))

-- an answer is what is made of the set, unless memory ran out
abbrev pub RefusesPairs : MapError → List Pair → Type 0
RefusesPairs (map_errors.NotRising x) set = Orders set (Err x)
RefusesPairs map_errors.NoMemory set = Unit {0}

abbrev pub OrdersPairs : Result (Vec Pair Global) MapError → List Pair → Type 0
OrdersPairs (Ok v) set = Orders set (Ok v.items)
OrdersPairs (Err e) set = RefusesPairs e set

-- The same as a function: what it gives is what is made of the set. Pairs are compared by the first
-- number and then by the second.
abbrev pub pair_cmp : Pair → Pair → Ordering
pair_cmp p q = ordering_then (int_cmp p.0.0 q.0.0) (int_cmp p.1.0 q.1.0)

-- a pair before the first of a list, or not at all, or further on
abbrev pub placed_by : Ordering → Pair → Pair → List Pair → List Pair → List Pair
placed_by Less p q qs further = p ∷ q ∷ qs
placed_by Equal p q qs further = q ∷ qs
placed_by Greater p q qs further = q ∷ further

-- a list in order with a pair more, unless it has it
abbrev pub with_pair : Pair → List Pair → List Pair
with_pair p [] = p ∷ []
with_pair p (q ∷ qs) = placed_by (pair_cmp p q) p q qs (with_pair p qs)

-- the members of a list in order, each once
abbrev pub in_order : List Pair → List Pair
in_order [] = []
in_order (p ∷ ps) = with_pair p (in_order ps)

abbrev pub rises : Pair → Pair → Bool
rises p q = int_lt p.0.0 q.0.0 && int_lt p.1.0 q.1.0

-- the first number of the later pair of the first two neighbours that don't rise
abbrev pub fall_after : Pair → List Pair → Option F2Dot14
fall_after p [] = None
fall_after p (q ∷ qs) = if rises p q then fall_after q qs else Some q.0

abbrev pub first_fall : List Pair → Option F2Dot14
first_fall [] = None
first_fall (p ∷ ps) = fall_after p ps

abbrev pub judged_by : Option F2Dot14 → List Pair → Result (List Pair) F2Dot14
judged_by None pairs = Ok pairs
judged_by (Some x) pairs = Err x

abbrev pub judged : List Pair → Result (List Pair) F2Dot14
judged pairs = judged_by (first_fall pairs) pairs

-- the rising list of an axis's pairs, or the first number at which they don't rise
unfoldable pub avar_pairs : List Master → ℕ → ℕ → Result (List Pair) F2Dot14
avar_pairs masters origin axis = judged (in_order (pairs_of masters origin axis))

-- what an answer says of that function, unless memory ran out
abbrev pub RefusesAs : MapError → Result (List Pair) F2Dot14 → Type 0
RefusesAs (map_errors.NotRising x) definition = definition ≡ Err x
RefusesAs map_errors.NoMemory definition = Unit {0}

abbrev pub GivesPairs : Result (Vec Pair Global) MapError → Result (List Pair) F2Dot14 → Type 0
GivesPairs (Ok v) definition = definition ≡ Ok v.items
GivesPairs (Err e) definition = RefusesAs e definition
