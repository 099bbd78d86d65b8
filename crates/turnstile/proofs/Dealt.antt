-- The passes that are still to be made.
use Rattle.std.proofs.Common.{◌≡◌, ℕ, suc, ◌+◌, ◌-◌, ◌<◌, List, [], ◌∷◌, ◌++◌, map, Option, sym, ap}
use Rattle.std.proofs.Common.{◌∙◌, arith, append_assoc}
use mathlib.Core.List.{map-append}
use Rattle.atomic_table.specs.Table.{Me}
use Rattle.atomic_table.specs.Seated.{TableId}
use Rattle.turnstile.specs.Members.{newcomer, newcomers, first_of, others_of}
use Rattle.turnstile.specs.Passes.{PassView, new_pass, new_passes, member_of}
use Rattle.turnstile.specs.declared.knowledge.Stage.TheVariants.{Away}
use Rattle.turnstile.specs.declared.knowledge.Knowledge.{Knowledge}
use Rattle.turnstile.specs.declared.knowledge.Member.{Member}

module _ (E : Type 0) {T : Type 0} (root : T) (from passes : ℕ) (more : from < passes) where
  one_more : passes - from ≡ suc (passes - (from + 1))
  one_more = omega arith

  pub first_newcomer : first_of (newcomers {E = E} root from (passes - from))
      ≡ newcomer root from ∷ []
  first_newcomer = ap (λ n. first_of (newcomers {E = E} root from n)) one_more

  pub later_newcomers : others_of (newcomers {E = E} root from (passes - from))
      ≡ newcomers root (from + 1) (passes - (from + 1))
  later_newcomers = ap (λ n. others_of (newcomers {E = E} root from n)) one_more

  pub pass_made : (table : TableId) (made whole : List (PassView E T))
      → made ++ new_passes table root from (passes - from) ≡ whole
      → (made ++ new_pass table root from ∷ [])
      ++ new_passes table root (from + 1) (passes - (from + 1)) ≡ whole
  pass_made table made whole e =
      append_assoc made (new_pass table root from ∷ [])
      (new_passes table root (from + 1) (passes - (from + 1)))
      ∙ (ap (λ n. made ++ new_passes table root from n) (sym one_more) ∙ e)

abbrev pub at_rest : {B E T : Type 0} → List (Member E T) → Me (Option B) (Knowledge E T)
at_rest ms = (record { stage = Away; members = ms }, [])

module _ {B E T : Type 0} (me : Me (Option B) (Knowledge E T)) where
  pub rests_with : (ms : List (Member E T)) → me.0.stage ≡ Away → me.0.members ≡ ms → me.1 ≡ []
      → me ≡ at_rest ms
  rests_with ms e f h = λ i. (record { stage = e i; members = f i }, h i)

module _ {E T : Type 0} (made : List (PassView E T)) (p : PassView E T)
    (items : List (PassView E T)) (is : items ≡ made ++ p ∷ []) (ms : List (Member E T))
    (one : ms ≡ member_of p ∷ []) where
  mapped : map member_of made ++ member_of p ∷ [] ≡ map member_of items
  mapped = sym (map-append member_of made (p ∷ [])) ∙ ap (λ xs. map member_of xs) (sym is)

  pub gathered_last : map member_of made ++ ms ≡ map member_of items
  gathered_last = ap (λ xs. map member_of made ++ xs) one ∙ mapped

  pub gathered : (old : List (Member E T))
      → map member_of made ++ (ms ++ old) ≡ map member_of items ++ old
  gathered old =
      ap (λ xs. map member_of made ++ (xs ++ old)) one
      ∙ (sym (append_assoc (map member_of made) (member_of p ∷ []) old)
      ∙ ap (λ xs. xs ++ old) mapped)
