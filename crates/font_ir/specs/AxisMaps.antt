-- The pairs of an axis in the table avar (OpenType 1.9, "avar"): from a normalised user coordinate
-- to the normalised design coordinate. They are a set of which the table holds the rising list,
-- where there is one. Which pairs they are is fontc's own.
use Rattle.std.specs.Prelude.{◌≡◌, ℕ, List, [], ◌∷◌, ◌++◌, map, ℤ, pos, negsuc, ◌<ℤ◌, Contains}
use Rattle.std.specs.Prelude.{AllPairs, ◌↔◌}
use Rattle.fixed_math.specs.declared.F2Dot14.{F2Dot14}
use Rattle.font_ir.specs.declared.header.Master.{Master}
use Rattle.font_ir.specs.declared.header.CoordinateScale.TheVariants.{Design, User}
use Rattle.font_ir.specs.Coordinates.{normal_on}

abbrev pub Pair : Type 0
Pair = F2Dot14 × F2Dot14

-- the pair of two raw numbers
abbrev pub pair : ℤ → ℤ → Pair
pair x y = (record { 0 = x }, record { 0 = y })

-- the ends and the default lie at themselves
abbrev pub fixed_pairs : List Pair
fixed_pairs = pair (negsuc 16383) (negsuc 16383) ∷ pair (pos 0) (pos 0)
    ∷ pair (pos 16384) (pos 16384) ∷ []

-- a master's normalised user and design coordinate
abbrev pub master_pair : List Master → ℕ → ℕ → Master → Pair
master_pair masters origin axis master =
    (normal_on User origin axis masters master, normal_on Design origin axis masters master)

-- the pairs of an axis. They are a set: nothing that follows depends on their order, or on how
-- often one of them stands here
unfoldable pub pairs_of : List Master → ℕ → ℕ → List Pair
pairs_of masters origin axis =
    fixed_pairs ++ map (master_pair masters origin axis) masters

-- the second pair is above the first one in both numbers
abbrev pub Rises : Pair → Pair → Type 0
Rises p q = (p.0.0 <ℤ q.0.0) × (p.1.0 <ℤ q.1.0)

-- a list rises strictly in both numbers, and its members are those of the set
pub record IsRisingList (set pairs : List Pair) : Type 0 where
  pub rising : AllPairs Rises pairs
  pub members : (p : Pair) → Contains pairs p ↔ Contains set p
