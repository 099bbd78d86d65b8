-- A plan that grows from one job keeps the laws of plans. fontc's own.
use Rattle.std.proofs.Common.{◌≡◌, ℕ, zero, suc, ◌+◌, ◌<◌, true, false, List, [], ◌∷◌, map}
use Rattle.std.proofs.Common.{inl, inr, Option, Some, None, refl, sym, ap, ◌∙◌, subst, cond}
use Rattle.std.proofs.Common.{arith}
use Rattle.std.specs.List.{filter, range_with_len}
use Rattle.std.proofs.lemmas.List.FromFn.{length-range_with_len, get_or-range_with_len}
use Rattle.std.proofs.lemmas.Bool.{ltb-true, false≢true}
use Rattle.access_context.specs.declared.access.Spec.{Spec}
use Rattle.access_context.specs.Read.{all_done}
use Rattle.job_graph.specs.Rounds.{State, blocked, is_ready, reads_in, outcome_in, rounds}
use Rattle.job_graph.specs.Laws.{IsLawful}
use Rattle.job_graph.specs.Members.{In, In-filter, In-append_cases, In-flat_map, flat_map-In}
use Rattle.job_graph.specs.Members.{In-from_Contains, Contains-from_In}
use Rattle.board_bench.specs.declared.job.Job.{Job}
use Rattle.board_bench.specs.declared.job.Job.TheVariants as job
use Rattle.board_bench.specs.Jobs.{number, same_job, identity}
use Rattle.board_bench.specs.Plans.{adds_of, spec_of, is_in, jobs_of, all_with, grown}

In-map : {X Y : Type 0} (f : X → Y) (xs : List X) (y : Y) → In y (map f xs)
    → (x : X) × In x xs × (f x ≡ y)
In-map f [] y h = absurd h
In-map f (x ∷ xs) y h =
    elim h [
      | inl e ↦ (x, inl refl, e)
      | inr i ↦ let m = In-map f xs y i in (m.0, inr m.1, m.2)
    ]

In-range : (size n : ℕ) → n < size → In n (range_with_len 0 size)
In-range size n lt =
    let count = length-range_with_len 0 size in
    let at : 0 + n ≡ n = omega arith in
    In-from_Contains (range_with_len 0 size) n
    (n, omega (arith, count, lt), get_or-range_with_len 0 size n n lt ∙ at)

in_all : (id : Job) → In id (all_with (number id))
in_all (job.Link n) = inl refl
in_all job.Spread = inr (inl refl)
in_all (job.Leaf n) = inr (inr (inl refl))
in_all job.Fan = inr (inr (inr (inl refl)))
in_all job.Index = inr (inr (inr (inr (inl refl))))
in_all (job.Raw n) = inr (inr (inr (inr (inr (inl refl)))))
in_all (job.Flat n) = inr (inr (inr (inr (inr (inr (inl refl))))))
in_all (job.Simple n) = inr (inr (inr (inr (inr (inr (inr (inl refl)))))))
in_all (job.Variations n) = inr (inr (inr (inr (inr (inr (inr (inr (inl refl))))))))
in_all (job.Advance n) = inr (inr (inr (inr (inr (inr (inr (inr (inr (inl refl)))))))))
in_all (job.Metrics n) = inr (inr (inr (inr (inr (inr (inr (inr (inr (inr (inl refl))))))))))

no_wait : (k : ℕ) → ◌≡◌ {A = Option ℕ} None (Some k) → ⊥
no_wait k e = cc

module _ (first : Job) (size : ℕ) where
  record Known (job : Spec Job) : Type 0 where
    is : job ≡ spec_of size job.id
    few : number job.id < size

  known_in : (ids : List Job) (job : Spec Job) → In job (jobs_of size ids) → Known job
  known_in ids job i =
      let m = In-map (spec_of size) (filter (is_in size) ids) job i in
      let f = In-filter (is_in size) ids m.0 m.1 in
      subst Known m.2 (record { is = refl; few = ltb-true (number m.0) size f.1 })

  -- what adds jobs adds those of its id
  added_in : (state : State Job ℕ) (maker job : Spec Job)
      → In job (outcome_in same_job (grown first size) state maker).added
      → In job (jobs_of size (adds_of size maker.id))
  added_in state maker job =
      elim (all_done (reads_in same_job state maker.access.reads)) as (λ b. In job
      (cond b ((grown first size).outcome maker.id (reads_in same_job state maker.access.reads))
      blocked).added → In job (jobs_of size (adds_of size maker.id))) [
        | true ↦ λ i. i
        | false ↦ λ i. absurd i
      ]

  known : (n : ℕ) (job : Spec Job) → In job (rounds same_job (grown first size) n).jobs → Known job
  known zero job i = known_in (first ∷ []) job i
  known (suc n) job i =
      let plan = grown first size in
      let state = rounds same_job plan n in
      elim (In-append_cases state.jobs _ job i) [
        | inl old ↦ known n job old
        | inr new ↦ (let f = In-flat_map (λ m. (outcome_in same_job plan state m).added)
            (filter (is_ready same_job plan state) state.jobs) job new in
            known_in (adds_of size (f.0).id) job (added_in state f.0 job f.2))
      ]

  pub grown_lawful : IsLawful same_job (grown first size)
  grown_lawful = record {
    identity = identity;
    quiet = λ id reads e. absurd (false≢true (sym e));
    above_maker = λ n maker job i j. omega arith;
    above_awaited = λ n job k i e. absurd (no_wait k
        (sym (ap (λ (t : Spec Job). t.access.awaits) (known n job (In-from_Contains _ job i)).is)
        ∙ e));
    above_reads = λ n job k i j. omega arith;
    one_spec = λ n job other i j e. (known n job (In-from_Contains _ job i)).is
        ∙ ap (spec_of size) e ∙ sym (known n other (In-from_Contains _ other j)).is;
    in_universe = λ n job i. (let k = known n job (In-from_Contains _ job i) in
        Contains-from_In _ job.id (flat_map-In all_with (range_with_len 0 size) (number job.id)
        job.id (In-range size (number job.id) k.few) (in_all job.id)));
  }
