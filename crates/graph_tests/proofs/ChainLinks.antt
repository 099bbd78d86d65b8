-- Past the end of a chain there is no link.
use Rattle.std.proofs.Common.{◌≡◌, ℕ, ◌≤◌, ◌<◌, nat_lt, Bool, true, false, cond, inl, inr, List, []}
use Rattle.std.proofs.Common.{◌∷◌, sym, ap, arith}
use Rattle.std.proofs.lemmas.Bool.{ltb-true, cases_Bool}
use Rattle.access_context.specs.declared.access.Spec.{Spec}
use Rattle.graph_tests.specs.Chains.{link, link_in}

pub link_past : (length id : ℕ) → length ≤ id → [] ≡ link_in length id
link_past length id past =
    elim (cases_Bool (nat_lt id length)) [
      | inl e ↦ (let lt = ltb-true id length e in absurd (omega arith))
      | inr e ↦ sym (ap (λ b. cond b (link id ∷ []) []) e)
    ]
