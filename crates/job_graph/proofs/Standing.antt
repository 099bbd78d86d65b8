-- Queues, as jobs join and leave them.
use Rattle.std.proofs.Common.{◌≡◌, ℕ, Bool, true, false, cond, ◌⊎◌, inl, inr, List, Some, None, sym}
use Rattle.std.proofs.Common.{ap, ◌∙◌, subst, nat_eq}
use Rattle.std.specs.Prelude.{slice_get, slice_set}
use Rattle.std.specs.BTreeMap as tree
use Rattle.std.specs.BTreeMap.{BTreeMap}
use Rattle.std.specs.declared.cmp.Ordering.{Ordering}
use Rattle.std.proofs.lemmas.Bool.{cases_Bool, eqb-true, false≢true, eq-eqb}
use Rattle.std.proofs.lemmas.Option.{same_Some}
use Rattle.job_graph.specs.Growth.{none≢some}
use Rattle.job_graph.specs.Agenda.{IsQueued, HasJob}
use Rattle.job_graph.proofs.Run.{get_set_same, get_set_other, get_set_cases}

module _ {Id : Type 0} (same : Id → Id → Bool) (order : Id → Id → Ordering)
    (queues : List (BTreeMap Id ℕ)) (k : ℕ) (old new : BTreeMap Id ℕ)
    (there : slice_get queues k ≡ Some old) where
  -- in the queue that was written
  here : (q : Id) (n : ℕ) → tree.get order new q ≡ Some n
      → IsQueued order (slice_set queues k new) k q n
  here q n e = record { queue = new; there = get_set_same queues k new old there; found = e }

  -- a job that stood in a queue
  stood : (rank : ℕ) (q : Id) (n : ℕ) → IsQueued order queues rank q n
      → IsQueued order (slice_set queues k new) rank q n
      ⊎ ((k ≡ rank) × (tree.get order old q ≡ Some n))
  stood rank q n i = elim (cases_Bool (nat_eq k rank)) [
    | inl e ↦
        let at : k ≡ rank = eqb-true k rank e in
        let is : i.queue ≡ old = same_Some _ _
        (sym i.there ∙ ap (slice_get queues) (sym at) ∙ there)
        in
        inr (at, ap (λ m. tree.get order m q) (sym is) ∙ i.found)
    | inr e ↦ inl (record {
      queue = i.queue;
      there = get_set_other queues k rank new (λ at. false≢true (sym e ∙ eq-eqb k rank at))
          ∙ i.there;
      found = i.found;
    })
  ]

  -- a job that stands in a queue now
  stands : (rank : ℕ) (q : Id) (n : ℕ) → IsQueued order (slice_set queues k new) rank q n
      → ((k ≡ rank) × (tree.get order new q ≡ Some n))
      ⊎ (((k ≡ rank) → ⊥) × IsQueued order queues rank q n)
  stands rank q n i = elim (get_set_cases queues k rank new i.queue i.there) [
    | inl e ↦ inl (e.0, ap (λ m. tree.get order m q) e.1 ∙ i.found)
    | inr o ↦ inr (o.0, record { queue = i.queue; there = o.1; found = i.found })
  ]

  was_here : (rank : ℕ) (q : Id) (n : ℕ) → k ≡ rank → tree.get order old q ≡ Some n
      → IsQueued order queues rank q n
  was_here rank q n at e = record {
    queue = old;
    there = ap (slice_get queues) (sym at)
        ∙ there;
    found = e;
  }

  module _ (id : Id) (number : ℕ) (joins : (q : Id) → tree.get order new q
      ≡ cond (same id q) (Some number) (tree.get order old q)) where
    pub joined_kept : (rank : ℕ) (q : Id) (n : ℕ) → IsQueued order queues rank q n
        → HasJob order (slice_set queues k new) rank q
    joined_kept rank q n i = elim (stood rank q n i) [
      | inl still ↦ (n, still)
      | inr at ↦ elim (cases_Bool (same id q)) [
        | inl is ↦ (
          number,
          subst (λ r. IsQueued order (slice_set queues k new) r q number) at.0
              (here q number (joins q ∙ ap (λ b. cond b (Some number) (tree.get order old q)) is)),
        )
        | inr other ↦ (
          n,
          subst (λ r. IsQueued order (slice_set queues k new) r q n) at.0
              (here q n (joins q ∙ ap (λ b. cond b (Some number) (tree.get order old q)) other
              ∙ at.1)),
        )
      ]
    ]

    pub joined_here : same id id ≡ true → HasJob order (slice_set queues k new) k id
    joined_here itself = (
      number,
      here id number (joins id
          ∙ ap (λ b. cond b (Some number) (tree.get order old id)) itself),
    )

    pub joined_others : (rank : ℕ) (q : Id) (n : ℕ)
        → IsQueued order (slice_set queues k new) rank q n → IsQueued order queues rank q n
        ⊎ ((rank ≡ k) × (same id q ≡ true) × (n ≡ number))
    joined_others rank q n i = elim (stands rank q n i) [
      | inr o ↦ inl o.1
      | inl at ↦ elim (cases_Bool (same id q)) [
        | inl is ↦ inr (
          sym at.0,
          is,
          same_Some _ _ (sym at.1 ∙ joins q
              ∙ ap (λ b. cond b (Some number) (tree.get order old q)) is),
        )
        | inr other ↦ inl (was_here rank q n at.0 (sym (joins q
            ∙ ap (λ b. cond b (Some number) (tree.get order old q)) other) ∙ at.1))
      ]
    ]

  module _ (keeps : (q : Id) → tree.get order new q ≡ tree.get order old q) where
    pub failed_kept : (rank : ℕ) (q : Id) (n : ℕ) → IsQueued order queues rank q n
        → HasJob order (slice_set queues k new) rank q
    failed_kept rank q n i = elim (stood rank q n i) [
      | inl still ↦ (n, still)
      | inr at ↦ (
        n,
        subst (λ r. IsQueued order (slice_set queues k new) r q n) at.0
            (here q n (keeps q ∙ at.1)),
      )
    ]

    pub failed_others : (rank : ℕ) (q : Id) (n : ℕ)
        → IsQueued order (slice_set queues k new) rank q n → IsQueued order queues rank q n
    failed_others rank q n i = elim (stands rank q n i) [
      | inr o ↦ o.1
      | inl at ↦ was_here rank q n at.0 (sym (keeps q) ∙ at.1)
    ]

  module _ (id : Id) (leaves : (q : Id) → tree.get order new q
      ≡ cond (same id q) None (tree.get order old q)) where
    pub left_kept : (rank : ℕ) (q : Id) (n : ℕ) → IsQueued order queues rank q n
        → HasJob order (slice_set queues k new) rank q ⊎ (same id q ≡ true)
    left_kept rank q n i = elim (stood rank q n i) [
      | inl still ↦ inl (n, still)
      | inr at ↦ elim (cases_Bool (same id q)) [
        | inl is ↦ inr is
        | inr other ↦ inl (
          n,
          subst (λ r. IsQueued order (slice_set queues k new) r q n) at.0
              (here q n (leaves q ∙ ap (λ b. cond b None (tree.get order old q)) other ∙ at.1)),
        )
      ]
    ]

    pub left_others : (rank : ℕ) (q : Id) (n : ℕ)
        → IsQueued order (slice_set queues k new) rank q n
        → IsQueued order queues rank q n × (rank ≡ k → same id q ≡ false)
    left_others rank q n i = elim (stands rank q n i) [
      | inr o ↦ (o.1, λ e. absurd (o.0 (sym e)))
      | inl at ↦ elim (cases_Bool (same id q)) [
        | inl is ↦ absurd (none≢some n (tree.get order new q)
            (leaves q ∙ ap (λ b. cond b None (tree.get order old q)) is) at.1)
        | inr other ↦ (
          was_here rank q n at.0 (sym (leaves q
              ∙ ap (λ b. cond b None (tree.get order old q)) other) ∙ at.1),
          λ e. other,
        )
      ]
    ]
