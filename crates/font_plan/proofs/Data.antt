-- The data of glyphs among what is read, behind what is made.
use Rattle.std.proofs.Common.{◌≡◌, ℕ, true, false, List, [], ◌∷◌, ◌++◌, Option, Some, None}
use Rattle.std.proofs.Common.{refl, ap, ◌∙◌, map}
use Rattle.std.specs.Prelude.{Vec}
use Rattle.std.specs.declared.alloc.Global.{Global}
use Rattle.std.specs.declared.sync.Arc.{Arc}
use Rattle.std.specs.Prelude.{option_and_then}
use Rattle.std.specs.List.{flat_map}
use Rattle.std.specs.Option.{option_to_list}
use Rattle.access_context.specs.Plain.{done_value}
use Rattle.font_graph.specs.Graph.{as_data, data_behind, data_in}
use Rattle.font_graph.specs.Same.{same_id}
use Rattle.font_plan.specs.Jobs.{parts}
use Rattle.font_plan.specs.Order.{behind_made}
use Rattle.font_plan.specs.Reading.{PlanReads, begins_with_made, data_at}

behind_is : (o : Option (List ℕ)) (others : List (List ℕ))
    → data_behind (parts []) same_id o others ≡ option_to_list o ++ others
behind_is None others = refl
behind_is (Some bytes) others = refl

pub data_is : (reads : PlanReads) → data_in (parts []) same_id reads ≡ flat_map data_at reads
data_is [] = refl
data_is (item ∷ reads) =
    behind_is (option_and_then (as_data (parts [])) (done_value item.1))
    (data_in (parts []) same_id reads)
    ∙ ap (λ others. data_at item ++ others) (data_is reads)

-- what is made goes first where the order begins with it
pub made_first : (numbers : List (Option ℕ)) (made : List ℕ) (others : List (List ℕ))
    → begins_with_made numbers ≡ true → made ∷ others ≡ behind_made numbers made others
made_first [] made others e = absurd cc
made_first (None ∷ numbers) made others e = refl
made_first (Some number ∷ numbers) made others e = absurd cc

pub none_first : (numbers : List (Option ℕ)) (made : List ℕ) (others : List (List ℕ))
    → begins_with_made numbers ≡ false → others ≡ behind_made numbers made others
none_first [] made others e = refl
none_first (None ∷ numbers) made others e = absurd cc
none_first (Some number ∷ numbers) made others e = refl

-- what is made, alone
pub one_made : (before : List (Arc (Vec ℕ Global) Global)) (part : Arc (Vec ℕ Global) Global)
    (made : List ℕ) → before ≡ [] → part.value.items ≡ made
    → map (λ (p : Arc (Vec ℕ Global) Global). p.value.items) (before ++ part ∷ []) ≡ made ∷ []
one_made before part made none is =
    ap (λ (ps : List (Arc (Vec ℕ Global) Global)).
    map (λ (p : Arc (Vec ℕ Global) Global). p.value.items) (ps ++ part ∷ [])) none
    ∙ ap (λ bytes. bytes ∷ []) is
