-- The plan of a chain of jobs: each reads the one before it and adds the one after it. Its solution
-- shows how a plan is shown to be
-- lawful. Plans of chains are fontc's own, for the tests.
use Rattle.std.proofs.Common.{◌≡◌, ℕ, zero, suc, ◌+◌, ◌<◌, ◌≤◌, nat_eq, nat_lt, Bool, true, false}
use Rattle.std.proofs.Common.{cond, ◌⊎◌, inl, inr, List, [], ◌∷◌, map, Option, Some, None, refl}
use Rattle.std.proofs.Common.{sym, ap, ◌∙◌, subst, arith}
use Rattle.std.specs.Prelude.{Contains}
use Rattle.std.proofs.lemmas.Bool.{eqb-true, eq-eqb, ltb-true, lt-ltb, false≢true, cases_Bool}
use Rattle.access_context.specs.declared.access.Spec.{Spec}
use Rattle.access_context.specs.Plain.{Plain, PlainOutcome, Done, is_done}
use Rattle.access_context.specs.Read.{all_done}
use Rattle.job_graph.specs.Meaning.{Meaning}
use Rattle.job_graph.specs.Rounds.{blocked, outcome_of}
use Rattle.job_graph.specs.Laws.{IsLawful}
use Rattle.job_graph.specs.Members.{In, In-from_Contains, Contains-from_In}
use Rattle.job_graph.specs.Solutions.{solved_outcome, Founded, opened, added, IsMade, IsSolution}
use Rattle.job_graph.specs.Solved.{solution_lawful}

-- the job before this one
abbrev pub before : ℕ → List ℕ
before zero = []
before (suc id) = id ∷ []

abbrev pub link : ℕ → Spec ℕ
link id = record { id = id; access = record { reads = before id; awaits = None } }

-- the link with this id, where the chain is so long
abbrev pub link_in : ℕ → ℕ → List (Spec ℕ)
link_in length id = cond (nat_lt id length) (link id ∷ []) []

-- the numbers below a number
abbrev pub below : ℕ → List ℕ
below zero = []
below (suc n) = n ∷ below n

-- the value of a job is its number
abbrev pub chain : ℕ → Meaning ℕ ℕ
chain length = record {
  opening = link_in length 0;
  stratum = λ id. 0;
  outcome = λ id reads. record { value = Done id; added = link_in length (id + 1) };
  universe = below length;
}

In-below : (n id : ℕ) → id < n → In id (below n)
In-below zero id lt = absurd (omega arith)
In-below (suc n) id lt =
    elim (cases_Bool (nat_eq n id)) [
      | inl here ↦ inl (eqb-true n id here)
      | inr there ↦ inr (In-below n id (let apart : n ≡ id
          → ⊥ = λ e. false≢true (sym there ∙ eq-eqb n id e) in omega arith))
    ]

In-link : (length id : ℕ) → id < length → In (link id) (link_in length id)
In-link length id lt = subst (λ b. In (link id) (cond b (link id ∷ []) []))
    (sym (lt-ltb id length lt)) (inl refl)

link-In : (length id : ℕ) (job : Spec ℕ) → In job (link_in length id)
    → (id < length) × (link id ≡ job)
link-In length id job =
    elim (nat_lt id length) as (λ b. nat_lt id length ≡ b → In job (cond b (link id ∷ []) [])
    → (id < length) × (link id ≡ job)) [
      | true ↦ λ e i. elim i [ inl is ↦ (ltb-true id length e, is) | inr none ↦ absurd none ]
      | false ↦ λ e i. absurd i
    ] refl

-- what comes of a link
link_outcome : (length id : ℕ) → solved_outcome nat_eq (chain length) link (λ id. id < length) Done
    id ≡ record { value = Done id; added = link_in length (id + 1) }
link_outcome length zero = refl
link_outcome length (suc id) = refl

no_wait : (k : ℕ) → ◌≡◌ {A = Option ℕ} None (Some k) → ⊥
no_wait k e = cc

module _ (length : ℕ) where
  adds_next : (id : ℕ) → id + 1 < length → Contains
      (solved_outcome nat_eq (chain length) link (λ id. id < length) Done id).added (link (suc id))
  adds_next id lt =
      let at : id + 1 ≡ suc id = omega arith in
      Contains-from_In _ (link (suc id)) (subst
      (λ (o : PlainOutcome ℕ ℕ). In (link (suc id)) o.added) (sym (link_outcome length id))
      (subst (λ k. In (link k) (link_in length (id + 1))) at (In-link length (id + 1) lt)))

  -- each link is founded, since the one before it is
  chain_founded : (id : ℕ) → id < length → Founded nat_eq (chain length) link (λ id. id < length)
      Done id
  chain_founded zero lt =
      opened 0 (Contains-from_In (link_in length 0) (link 0) (In-link length 0 lt))
      (λ read c. absurd (In-from_Contains [] read c))
      (λ k other e there low. absurd (no_wait k e))
  chain_founded (suc id) lt =
      let maker = chain_founded id (omega arith) in
      added (suc id) id maker (adds_next id (omega arith))
      (λ read c. elim (In-from_Contains (id ∷ []) read c) [
        | inl is ↦ subst (λ k. Founded nat_eq (chain length) link (λ id. id < length) Done k) is
            maker
        | inr none ↦ absurd none
      ])
      (λ k other e there low. absurd (no_wait k e))

  least : (id : ℕ) → id < length → Contains (link_in length 0) (link id)
      ⊎ IsMade nat_eq (chain length) link (λ id. id < length) Done id
  least zero lt = inl (Contains-from_In (link_in length 0) (link 0) (In-link length 0 lt))
  least (suc id) lt = inr (record {
    maker = id;
    founded = chain_founded id (omega arith);
    adds
        = adds_next id (omega arith);
  })

  made : (id : ℕ) (job : Spec ℕ) → Contains
      (solved_outcome nat_eq (chain length) link (λ id. id < length) Done id).added job
      → (job.id < length) × (job ≡ link job.id)
  made id job c =
      let i = link-In length (id + 1) job (subst (λ (o : PlainOutcome ℕ ℕ). In job o.added)
      (link_outcome length id) (In-from_Contains _ job c)) in
      (subst (λ (j : Spec ℕ). j.id < length) i.1 i.0, sym i.1 ∙ ap (λ (j : Spec ℕ). link j.id) i.1)

  pub chain_solution : IsSolution nat_eq (chain length) link (λ id. id < length) Done
  chain_solution = record {
    identity = λ x y. (eqb-true x y, eq-eqb x y);
    quiet = λ id reads e. absurd (false≢true (sym e));
    named = λ id. refl;
    opening = λ job c. (let i = link-In length 0 job (In-from_Contains (link_in length 0) job c)
        in (
          subst (λ (j : Spec ℕ). j.id < length) i.1 i.0,
          sym i.1
              ∙ ap (λ (j : Spec ℕ). link j.id) i.1,
        ));
    value = λ id f. ap (λ (o : PlainOutcome ℕ ℕ). o.value) (link_outcome length id);
    adds = λ id job f c. made id job c;
    least = least;
    in_universe = λ id there. Contains-from_In (below length) id (In-below length id there);
    above_maker = λ id job there reads c. omega arith;
    above_awaited = λ id k there e. absurd (no_wait k e);
    above_reads = λ id read there c. omega arith;
  }

  pub chain_lawful : IsLawful nat_eq (chain length)
  chain_lawful = solution_lawful nat_eq (chain length) link (λ id. id < length) Done chain_solution
