-- Which values of a source fail which rule. A way leads from a value to others inside it; a table
-- says of each way what is asked of the values that it reaches, and by which rule they fail. A law
-- above the rules that the readers note, in words that know no order. fontc's own.
use Rattle.std.specs.Prelude.{◌≡◌, ℕ, Bool, true, false, List, [], ◌∷◌, ◌++◌, length, Option, Some}
use Rattle.std.specs.Prelude.{None, is_some, slice_get, ◌⊎◌, ◌↔◌, ◌==◌, if◌then◌else◌}
use Rattle.std.specs.Option.{option_map_or}
use Rattle.plist_reader.specs.declared.tree.Tree.{Tree}
use Rattle.plist_reader.specs.Tree.{find_in}
use Rattle.refusal_codes.specs.declared.rule.Rule.{Rule}
use Rattle.refusal_codes.specs.Rules.{rule_number}
use Rattle.refusal_codes.specs.declared.first.Failure.{Failure}
use Rattle.source_values.specs.Values.{place_at, items_at}

-- one of a list
abbrev pub IsOneOf : {X : Type 0} → List X → X → Type 0
IsOneOf [] x = ⊥
IsOneOf (y ∷ ys) x = (x ≡ y) ⊎ IsOneOf ys x

-- a step of a way: to the value under a key, to each value of a list, to the value at a place of a
-- list, or none, from a value that passes a test
pub data Step : Type 0 where
  under : List ℕ → Step
  each_item : Step
  item : ℕ → Step
  when : (Tree → ℕ → Bool) → Step

-- where a step leads from a value
abbrev pub Leads : Tree → Step → ℕ → ℕ → Type 0
Leads t (under key) n m = find_in t n key ≡ Some m
Leads t each_item n m = (items : List ℕ) × (items_at t n ≡ Some items) × IsOneOf items m
Leads t (item place) n m = (items : List ℕ) × (items_at t n ≡ Some items)
    × (slice_get items place ≡ Some m)
Leads t (when test) n m = (test t n ≡ true) × (m ≡ n)

-- the values that a way reaches
abbrev pub Reaches : Tree → List Step → ℕ → ℕ → Type 0
Reaches t [] n m = m ≡ n
Reaches t (step ∷ way) n m = (k : ℕ) × Leads t step n k × Reaches t way k m

-- what is asked of the values that a way reaches, and the rule that those fail of which it doesn't
-- hold
pub record Row : Type 0 where
  pub way : List Step
  pub rule : Rule
  pub holds : Tree → ℕ → Bool

-- a value fails as the row says
abbrev pub FailsRow : Row → Tree → ℕ → Failure → Type 0
FailsRow row t n f =
    (m : ℕ)
    × Reaches t row.way n m
    × (row.holds t m ≡ false)
    × (f ≡ record { rule = row.rule; place = place_at t m })

-- a value fails as a row of the table says
abbrev pub Fails : List Row → Tree → ℕ → Failure → Type 0
Fails [] t n f = ⊥
Fails (row ∷ rows) t n f = FailsRow row t n f ⊎ Fails rows t n f

-- a table tells which failures there are
abbrev pub Tells : List Row → (Tree → ℕ → List Failure) → Type 0
Tells rows failures =
    (t : Tree) (n : ℕ) (f : Failure)
    → (IsOneOf (failures t n) f → Fails rows t n f) × (Fails rows t n f → IsOneOf (failures t n) f)

-- ---- the rows of one rule

-- the rows of a table that are of this rule
abbrev pub rows_of : Rule → List Row → List Row
rows_of rule [] = []
rows_of rule (row ∷ rows) =
    if rule_number row.rule == rule_number rule then row ∷ rows_of rule rows else rows_of rule rows

-- a rule fails at a place exactly where a row of that rule says so
abbrev pub TellsByRule : List Row → (Tree → ℕ → List Failure) → Type 0
TellsByRule rows failures =
    (t : Tree) (n : ℕ) (rule : Rule) (place : ℕ)
    → IsOneOf (failures t n) (record { rule = rule; place = place })
    ↔ Fails (rows_of rule rows) t n (record { rule = rule; place = place })

-- ---- making tables

-- a row about the value itself
abbrev pub here : Rule → (Tree → ℕ → Bool) → List Row
here rule holds = record { way = []; rule = rule; holds = holds } ∷ []

-- the same table, about the values to which a step leads
abbrev pub behind : Step → List Row → List Row
behind step [] = []
behind step (row ∷ rows) =
    record { way = step ∷ row.way; rule = row.rule; holds = row.holds } ∷ behind step rows

-- whether a dictionary has a key
abbrev pub has : List ℕ → Tree → ℕ → Bool
has key t n = is_some (find_in t n key)
