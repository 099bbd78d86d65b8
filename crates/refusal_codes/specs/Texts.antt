-- How a refusal reads: its rule's letter and number, the rule's name, the kind of the job that
-- found it, the name where there is one, and the place, as `G2 CubicNode Raw A at 181`. fontc's
-- own.
use Rattle.std.specs.Prelude.{ℕ, List, [], ◌∷◌, ◌++◌, codes}
use Rattle.std.specs.List.{slice_index_or}
use Rattle.std.specs.Fmt.{decimal}
use Rattle.refusal_codes.specs.Rules.{rule_code, rule_name}
use Rattle.refusal_codes.specs.declared.refusal.Refusal.{Refusal}

-- the names of the kinds of jobs, in the order of their numbers
abbrev pub kind_names : List (List ℕ)
kind_names =
    codes "Tree" ∷ codes "Header" ∷ codes "Index" ∷ codes "Raw" ∷ codes "Flat" ∷ codes "Simple"
    ∷ codes "Composite" ∷ codes "Variations" ∷ codes "FeatureParse" ∷ codes "Order"
    ∷ codes "Advances"
    ∷ codes "Kern" ∷ codes "Marks" ∷ codes "Rules" ∷ codes "Lookup" ∷ codes "Store" ∷ codes "Table"
    ∷ codes "Font" ∷ codes "Alternates" ∷ []

-- the kind's name
abbrev pub kind_name : ℕ → List ℕ
kind_name kind = slice_index_or kind_names kind (codes "Job")

-- a name with a space before it, where there is one
abbrev pub spaced_name : List ℕ → List ℕ
spaced_name [] = []
spaced_name (byte ∷ bytes) = codes " " ++ byte ∷ bytes

-- the whole text
abbrev pub refusal_text : Refusal → List ℕ
refusal_text r = rule_code r.rule ++ codes " " ++ rule_name r.rule ++ codes " " ++ kind_name r.kind
    ++ spaced_name r.name ++ codes " at " ++ decimal r.place
