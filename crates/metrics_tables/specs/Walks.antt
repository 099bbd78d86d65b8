-- A walk from a glyph down its components that settles each glyph once: what it keeps true, and how
-- much of it is left. For the code alone.
use Rattle.std.specs.Prelude.{◌≡◌, ℕ, ◌+◌, ◌^◌, ◌<◌, ◌≤◌, true, ◌⊎◌, List, [], ◌∷◌, ◌++◌, length}
use Rattle.std.specs.Prelude.{map}
use Rattle.std.specs.Prelude.{is_some, if◌then◌else◌, slice_index_or, slice_set, Option, None, Some}
use Rattle.std.specs.List.{All, AllByRecursion}
use Rattle.std.specs.Option.{unwrap_or}
use Rattle.metrics_tables.specs.Comparisons.{greatest_count}
use Rattle.metrics_tables.specs.Nesting.{bases_at, depth_of, NoneLeadsToItself}
use Rattle.metrics_tables.specs.declared.nesting.Step.{Step}
use Rattle.metrics_tables.specs.declared.nesting.Step.TheVariants.{Enter, Leave}

-- numbers of glyphs that are there, at most 256 for each glyph, none of which leads to itself
pub record AreBases (bases : List (List ℕ)) : Type 0 where
  pub few : length bases ≤ 65535
  pub within : (gid : ℕ) → All (λ base. base < length bases) (bases_at bases gid)
  pub narrow : (gid : ℕ) → length (bases_at bases gid) ≤ 256
  pub none_leads : NoneLeadsToItself bases

-- ---- what is known

abbrev pub depth_known : List (Option ℕ) → ℕ → Option ℕ
depth_known depths gid = slice_index_or depths gid None

abbrev pub known_depth : List (Option ℕ) → ℕ → ℕ
known_depth depths gid = unwrap_or (depth_known depths gid) 0

abbrev pub IsKnown : List (Option ℕ) → ℕ → Type 0
IsKnown depths gid = is_some (depth_known depths gid) ≡ true

-- what is known is right
pub record AreDepths (bases : List (List ℕ)) (depths : List (Option ℕ)) : Type 0 where
  pub as_many : length depths ≡ length bases
  pub right : (gid depth : ℕ) → gid < length bases → depth_known depths gid ≡ Some depth
      → depth ≡ depth_of bases gid

-- one more than the deepest of some glyphs
abbrev pub depth_over : List (Option ℕ) → List ℕ → ℕ
depth_over depths gids = greatest_count (map (λ gid. 1 + known_depth depths gid) gids)

-- ---- the stack

abbrev pub gid_in : Step → ℕ
gid_in (Enter gid) = gid
gid_in (Leave gid) = gid

-- the glyphs that aren't known, each to be entered
abbrev pub entry_of : List (Option ℕ) → ℕ → List Step
entry_of depths gid = if is_some (depth_known depths gid) then [] else Enter gid ∷ []

abbrev pub entries_of : List (Option ℕ) → List ℕ → List Step
entries_of depths [] = []
entries_of depths (gid ∷ gids) = entry_of depths gid ++ entries_of depths gids

-- the glyph is known, or stands there
abbrev pub Occurs : ℕ → List Step → Type 0
Occurs gid [] = ⊥
Occurs gid (step ∷ above) = (gid_in step ≡ gid) ⊎ Occurs gid above

abbrev pub IsOwed : List (Option ℕ) → List Step → ℕ → Type 0
IsOwed depths stack gid = IsKnown depths gid ⊎ Occurs gid stack

abbrev pub AreOwed : List (Option ℕ) → List Step → List ℕ → Type 0
AreOwed depths stack gids = AllByRecursion (IsOwed depths stack) gids

-- the components of a glyph that is to be left are known or stand above it
abbrev pub IsCovered : List (List ℕ) → List (Option ℕ) → List Step → Type 0
IsCovered bases depths [] = Unit {0}
IsCovered bases depths (Enter gid ∷ above) = IsCovered bases depths above
IsCovered bases depths (Leave gid ∷ above) =
    AreOwed depths above (bases_at bases gid) × IsCovered bases depths above

abbrev pub AreThere : List (List ℕ) → List Step → Type 0
AreThere bases stack = AllByRecursion (λ step. gid_in step < length bases) stack

pub record IsWalk (bases : List (List ℕ)) (depths : List (Option ℕ)) (stack : List Step) (root : ℕ)
    : Type 0 where
  pub settled : AreDepths bases depths
  pub there : AreThere bases stack
  pub owed : IsOwed depths stack root
  pub covered : IsCovered bases depths stack

-- what a step makes of the depths, and of the stack below it
abbrev pub depths_after : List (List ℕ) → List (Option ℕ) → Step → List (Option ℕ)
depths_after bases depths (Enter gid) = depths
depths_after bases depths (Leave gid) =
    slice_set depths gid (Some (depth_over depths (bases_at bases gid)))

abbrev pub stack_after : List (List ℕ) → List (Option ℕ) → List Step → Step → List Step
stack_after bases depths below (Enter gid) =
    if is_some (depth_known depths gid) then below
    else below ++ Leave gid ∷ entries_of depths (bases_at bases gid)
stack_after bases depths below (Leave gid) = below

-- ---- how much is left

-- a glyph is entered with fewer than 300 components, none of which is as deep
abbrev pub cost_of : List (List ℕ) → Step → ℕ
cost_of bases (Enter gid) = 300 ^ (1 + depth_of bases gid)
cost_of bases (Leave gid) = 1

abbrev pub cost : List (List ℕ) → List Step → ℕ
cost bases [] = 0
cost bases (step ∷ above) = cost_of bases step + cost bases above
