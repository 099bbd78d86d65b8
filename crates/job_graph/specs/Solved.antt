-- A solved plan keeps the laws of plans, and its limit is what the solution says. Lemmas for the
-- plans of crates above.
use Rattle.std.proofs.Common.{◌≡◌, ℕ, ◌≤◌, Bool, true, false, not, ◌||◌, nat_le, inl, inr, List, []}
use Rattle.std.proofs.Common.{◌∷◌, map, Option, Some, None, is_some, unwrap_or, refl, sym, ap, ◌∙◌}
use Rattle.std.proofs.Common.{subst, cond, arith}
use Rattle.std.specs.Prelude.{Contains}
use Rattle.std.specs.List.{list_all}
use Rattle.std.proofs.lemmas.Bool.{and_parts, and_from, or_left, or_right, false≢true, cases_Bool}
use Rattle.std.proofs.lemmas.Bool.{not_from_false, leb-true}
use Rattle.access_context.specs.declared.access.Spec.{Spec}
use Rattle.access_context.specs.Plain.{Plain, Blocked, PlainOutcome, is_done}
use Rattle.access_context.specs.Read.{all_done}
use Rattle.job_graph.specs.Meaning.{Meaning}
use Rattle.job_graph.specs.Rounds.{State, value_in, is_settled, item_in, reads_in, is_done_up_to}
use Rattle.job_graph.specs.Rounds.{awaits_nothing, is_ready, blocked, outcome_of, outcome_in}
use Rattle.job_graph.specs.Rounds.{rounds, limit}
use Rattle.job_graph.specs.Laws.{IsLawful}
use Rattle.job_graph.specs.Solutions.{solved_outcome, Founded, opened, added, IsSolution, IsSolved}
use Rattle.job_graph.specs.Members.{In, In-append_cases, In-from_Contains, Contains-from_In}
use Rattle.job_graph.specs.Members.{list_all-In, list_all-from, map_agree}
use Rattle.job_graph.specs.Growth.{none≢some, some_of, read_of-push_cases, ready_reads}
use Rattle.job_graph.specs.Growth.{ready_awaits, Grown, begun, grown, opening_in}
use Rattle.job_graph.specs.Confluence.{nil_append, Comes, comes, settled_up_to}
use Rattle.job_graph.specs.Limit.{rounds_grown, limit_grown, limit_over, none_ready}

module _ {Id V : Type 0} (same : Id → Id → Bool) (plan : Meaning Id V) (spec_of : Id → Spec Id)
    (There : Id → Type 0) (value_of : Id → Plain V)
    (solution : IsSolution same plan spec_of There value_of) where
  IsFounded : Id → Type 0
  IsFounded id = Founded same plan spec_of There value_of id

  abbrev outcome : Id → PlainOutcome V Id
  outcome id = solved_outcome same plan spec_of There value_of id

  -- a founded job is there
  there_of : (id : Id) → Founded same plan spec_of There value_of id → There id
  there_of id (opened _ first reads awaited)
      = subst There (solution.named id) (solution.opening (spec_of id) first).0
  there_of id (added _ maker founded adds reads awaited)
      = subst There (solution.named id) (solution.adds maker (spec_of id) founded adds).0

  reads_of : (id : Id) → Founded same plan spec_of There value_of id → (read : Id)
      → Contains (spec_of id).access.reads read → Founded same plan spec_of There value_of read
  reads_of id (opened _ first reads awaited) = reads
  reads_of id (added _ maker founded adds reads awaited) = reads

  -- a state whose jobs are there and whose values are founded
  record Sound (a : State Id V) : Type 0 where
    jobs : (job : Spec Id) → In job a.jobs → There job.id × (job ≡ spec_of job.id)
    values : (id : Id) (x : Plain V) → value_in same a id ≡ Some x
        → Founded same plan spec_of There value_of id × (x ≡ value_of id)

  settled_founded : (a : State Id V) → Sound a → (id : Id) → is_settled same a id ≡ true
      → Founded same plan spec_of There value_of id × (value_in same a id ≡ Some (value_of id))
  settled_founded a s id e =
      let v = some_of (value_in same a id) e in
      let f = s.values id v.0 v.1 in
      (f.0, v.1 ∙ ap Some f.1)

  -- what comes of a job in such a state
  outcome_is : (a : State Id V) → Sound a → (id : Id)
      → list_all (is_settled same a) (spec_of id).access.reads ≡ true
      → outcome_in same plan a (spec_of id) ≡ outcome id
  outcome_is a s id settled =
      let items : reads_in same a (spec_of id).access.reads
      ≡ map (λ read. (read, value_of read)) (spec_of id).access.reads =
      map_agree (item_in same a) (λ read. (read, value_of read)) (spec_of id).access.reads
      (λ read i. ap (λ o. (read, unwrap_or o Blocked))
      (settled_founded a s read (list_all-In (is_settled same a) (spec_of id).access.reads read
      settled i)).1) in
      ap (λ k. outcome_of same plan k (reads_in same a (spec_of id).access.reads))
      (solution.named id) ∙ ap (outcome_of same plan id) items

  job_outcome_is : (a : State Id V) → Sound a → (job : Spec Id) → In job a.jobs
      → list_all (is_settled same a) job.access.reads ≡ true
      → outcome_in same plan a job ≡ outcome job.id
  job_outcome_is a s job here settled =
      let is : job ≡ spec_of job.id = (s.jobs job here).1 in
      ap (outcome_in same plan a) is ∙ outcome_is a s job.id
      (subst (λ (j : Spec Id). list_all (is_settled same a) j.access.reads ≡ true) is settled)

  -- what a settled job adds is there
  settled_adds : (a : State Id V) → Grown same plan a → Sound a → (id : Id)
      → is_settled same a id ≡ true → (job : Spec Id) → Contains (outcome id).added job
      → In job a.jobs
  settled_adds a ga s id e job c =
      let v = some_of (value_in same a id) e in
      let it : Comes same plan a id v.0 = comes same plan solution.identity a ga id v.0 v.1 in
      let is : outcome_in same plan a it.job
      ≡ outcome id = job_outcome_is a s it.job it.there it.reads ∙ ap outcome it.named in
      it.added job (subst (λ (o : PlainOutcome V Id). In job o.added) (sym is)
      (In-from_Contains (outcome id).added job c))

  -- all that is there and founded of the strata that are done has been added
  founded_in : (a : State Id V) → Grown same plan a → Sound a → (k : ℕ)
      → is_done_up_to same plan a k ≡ true → (id : Id) → Founded same plan spec_of There value_of id
      → plan.stratum id ≤ k → In (spec_of id) a.jobs
  founded_in a ga s k done id (opened _ first reads awaited) low
      = opening_in same plan a ga (spec_of id) (In-from_Contains plan.opening (spec_of id) first)
  founded_in a ga s k done id (added _ maker founded adds reads awaited) low =
      let above : plan.stratum maker ≤ plan.stratum id
      = subst (λ j. plan.stratum maker ≤ plan.stratum j) (solution.named id)
      (solution.above_maker maker (spec_of id) (there_of maker founded) (reads_of maker founded)
      adds) in
      let low_maker : plan.stratum maker ≤ k = omega arith in
      let here : In (spec_of maker) a.jobs = founded_in a ga s k done maker founded low_maker in
      let settled : is_settled same a maker
      ≡ true = subst (λ j. is_settled same a j ≡ true) (solution.named maker)
      (settled_up_to same plan solution.identity a k done (spec_of maker) here
      (subst (λ j. plan.stratum j ≤ k) (sym (solution.named maker)) low_maker)) in
      settled_adds a ga s maker settled (spec_of id) adds

  there_founded : (a : State Id V) → Grown same plan a → Sound a → (k : ℕ)
      → is_done_up_to same plan a k ≡ true → (id : Id) → There id → plan.stratum id ≤ k
      → Founded same plan spec_of There value_of id
  there_founded a ga s k done id there low =
      let here : In (spec_of id) a.jobs = elim (solution.least id there) [
        | inl first ↦ opening_in same plan a ga (spec_of id)
            (In-from_Contains plan.opening (spec_of id) first)
        | inr made ↦
            let above : plan.stratum made.maker ≤ plan.stratum id
            = subst (λ j. plan.stratum made.maker ≤ plan.stratum j) (solution.named id)
            (solution.above_maker made.maker (spec_of id) (there_of made.maker made.founded)
            (reads_of made.maker made.founded) made.adds) in
            let low_maker : plan.stratum made.maker ≤ k = omega arith in
            let at : In (spec_of made.maker) a.jobs
            = founded_in a ga s k done made.maker made.founded low_maker in
            let settled : is_settled same a made.maker
            ≡ true = subst (λ j. is_settled same a j ≡ true) (solution.named made.maker)
            (settled_up_to same plan solution.identity a k done (spec_of made.maker) at
            (subst (λ j. plan.stratum j ≤ k) (sym (solution.named made.maker)) low_maker)) in
            settled_adds a ga s made.maker settled (spec_of id) made.adds
      ] in
      (settled_founded a s id (subst (λ j. is_settled same a j ≡ true) (solution.named id)
      (settled_up_to same plan solution.identity a k done (spec_of id) here
      (subst (λ j. plan.stratum j ≤ k) (sym (solution.named id)) low)))).0

  -- a ready job is founded
  ready_founded : (by : State Id V) → Grown same plan by → Sound by → (job : Spec Id)
      → In job by.jobs → is_ready same plan by job ≡ true
      → Founded same plan spec_of There value_of job.id
  ready_founded by gb s job here ready =
      let known = s.jobs job here in
      let id = job.id in
      let reads : (read : Id) → Contains (spec_of job.id).access.reads read
      → Founded same plan spec_of There value_of read = λ read c.
      (settled_founded by s read (list_all-In (is_settled same by) job.access.reads read
      (ready_reads same plan by job ready)
      (subst (λ (j : Spec Id). In read j.access.reads) (sym known.1)
      (In-from_Contains (spec_of job.id).access.reads read c)))).0 in
      let awaited : (k : ℕ) (other : Id) → (spec_of job.id).access.awaits ≡ Some k → There other
      → plan.stratum other ≤ k → Founded same plan spec_of There value_of other
      = λ k other e there low.
      there_founded by gb s k (subst (λ o. awaits_nothing same plan by o ≡ true)
      (ap (λ (j : Spec Id). j.access.awaits) known.1 ∙ e) (ready_awaits same plan by job ready))
      other there low in
      elim (solution.least job.id known.0) [
        | inl first ↦ opened job.id first reads awaited
        | inr made ↦ added job.id made.maker made.founded made.adds reads awaited
      ]

  sound : (a : State Id V) → Grown same plan a → Sound a
  sound _ begun = record {
    jobs = λ job i. solution.opening job
        (Contains-from_In plan.opening job i);
    values = λ id x e. absurd (none≢some x None refl e);
  }
  sound _ (grown {a} {by} job ga gb w here ready) =
      let sa = sound a ga in
      let sb = sound by gb in
      let founded = ready_founded by gb sb job here ready in
      let is : outcome_in same plan by job ≡ outcome job.id
      = job_outcome_is by sb job here (ready_reads same plan by job ready) in
      record {
        jobs = λ t i. elim (In-append_cases a.jobs _ t i) [
          | inl old ↦ sa.jobs t old
          | inr new ↦ solution.adds job.id t founded
              (Contains-from_In (outcome job.id).added t
              (subst (λ (o : PlainOutcome V Id). In t o.added) is
              (subst (λ ts. In t ts) (nil_append _) new)))
        ];
        values = λ id x e. elim (read_of-push_cases same a.values job.id id
            (outcome_in same plan by job).value x e) [
              | inl old ↦ sa.values id x old
              | inr new ↦
                  let at : job.id ≡ id = (solution.identity job.id id).0 new.0 in (
                    subst (Founded same plan spec_of There value_of) at founded,
                    sym new.1
                        ∙ ap (λ (o : PlainOutcome V Id). o.value) is ∙ solution.value job.id founded
                        ∙ ap value_of at,
                  )
            ];
      }

  -- items that all have values are settled
  done_settled : (a : State Id V) (ids : List Id) → all_done (reads_in same a ids) ≡ true
      → list_all (is_settled same a) ids ≡ true
  done_settled a [] e = refl
  done_settled a (id ∷ ids) e =
      let p = and_parts _ _ e in
      and_from _ _ (has_value (value_in same a id) p.0) (done_settled a ids p.1)
    where
      has_value : (o : Option (Plain V)) → is_done (unwrap_or o Blocked) ≡ true → is_some o ≡ true
      has_value None e = absurd (false≢true e)
      has_value (Some x) e = refl

  added_settled : (a : State Id V) (maker job : Spec Id)
      → In job (outcome_in same plan a maker).added
      → list_all (is_settled same a) maker.access.reads ≡ true
  added_settled a maker job =
      let reads = reads_in same a maker.access.reads in
      elim (cases_Bool (all_done reads)) [
        | inl done ↦ λ i. done_settled a maker.access.reads done
        | inr not_done ↦ λ i. absurd (subst (λ (o : PlainOutcome V Id). In job o.added)
            (ap (λ b. cond b (plan.outcome maker.id reads) blocked) not_done) i)
      ]

  -- A SOLVED PLAN IS LAWFUL
  pub solution_lawful : IsLawful same plan
  solution_lawful = record {
    identity = solution.identity;
    quiet = solution.quiet;
    above_maker = λ n maker job i j.
        let a = rounds same plan n in
        let s = sound a (rounds_grown same plan n) in
        let here = In-from_Contains a.jobs maker i in
        let adds = In-from_Contains (outcome_in same plan a maker).added job j in
        let settled = added_settled a maker job adds in
        let known = s.jobs maker here in
        let is = job_outcome_is a s maker here settled in
        solution.above_maker maker.id job known.0
        (λ read c. (settled_founded a s read
        (list_all-In (is_settled same a) maker.access.reads read settled
        (subst (λ (t : Spec Id). In read t.access.reads) (sym known.1)
        (In-from_Contains (spec_of maker.id).access.reads read c)))).0)
        (Contains-from_In (outcome maker.id).added job
        (subst (λ (o : PlainOutcome V Id). In job o.added) is adds));
    above_awaited = λ n job k i e.
        let known = (sound (rounds same plan n) (rounds_grown same plan n)).jobs job
        (In-from_Contains _ job i) in
        solution.above_awaited job.id k known.0
        (sym (ap (λ (t : Spec Id). t.access.awaits) known.1) ∙ e);
    above_reads = λ n job read i j.
        let known = (sound (rounds same plan n) (rounds_grown same plan n)).jobs job
        (In-from_Contains _ job i) in
        solution.above_reads job.id read known.0
        (subst (λ (t : Spec Id). Contains t.access.reads read) known.1 j);
    one_spec = λ n job other i j e.
        let s = sound (rounds same plan n) (rounds_grown same plan n) in
        (s.jobs job (In-from_Contains _ job i)).1 ∙ ap spec_of e
        ∙ sym (s.jobs other (In-from_Contains _ other j)).1;
    in_universe = λ n job i. solution.in_universe job.id
        ((sound (rounds same plan n) (rounds_grown same plan n)).jobs job
        (In-from_Contains _ job i)).0;
  }

  last_sound : Sound (limit same plan)
  last_sound = sound (limit same plan) (limit_grown same plan solution_lawful)

  awaits_done : (awaits : Option ℕ) → ((k : ℕ) (other : Id) → awaits ≡ Some k → There other
      → plan.stratum other ≤ k → is_settled same (limit same plan) other ≡ true)
      → awaits_nothing same plan (limit same plan) awaits ≡ true
  awaits_done None all = refl
  awaits_done (Some k) all =
      list_all-from (λ job. not (nat_le (plan.stratum job.id) k)
      || is_settled same (limit same plan) job.id) (limit same plan).jobs (λ job i.
      elim (cases_Bool (nat_le (plan.stratum job.id) k)) [
        | inr high ↦ or_left _ _ (not_from_false _ high)
        | inl low ↦ or_right _ _ (all k job.id refl (last_sound.jobs job i).0 (leb-true _ _ low))
      ])

  settles : (id : Id) → In (spec_of id) (limit same plan).jobs
      → ((read : Id) → Contains (spec_of id).access.reads read
      → is_settled same (limit same plan) read ≡ true)
      → awaits_nothing same plan (limit same plan) (spec_of id).access.awaits ≡ true
      → is_settled same (limit same plan) id ≡ true
  settles id here reads awaits =
      let last = limit same plan in
      elim (cases_Bool (is_settled same last id)) [
        | inl s ↦ s
        | inr n ↦
            let unsettled : is_settled same last (spec_of id).id
            ≡ false = subst (λ k. is_settled same last k ≡ false) (sym (solution.named id)) n in
            let all : list_all (is_settled same last) (spec_of id).access.reads
            ≡ true = list_all-from (is_settled same last) (spec_of id).access.reads
            (λ read i. reads read (Contains-from_In (spec_of id).access.reads read i)) in
            absurd (false≢true (sym (none_ready same plan last
            (limit_over same plan solution_lawful) (spec_of id) here)
            ∙ and_from _ _ (not_from_false _ unsettled) (and_from _ _ all awaits)))
      ]

  -- a founded job has a value in the limit
  founded_settled : (id : Id) → Founded same plan spec_of There value_of id
      → is_settled same (limit same plan) id ≡ true
  founded_settled id (opened _ first reads awaited) =
      settles id
      (opening_in same plan (limit same plan) (limit_grown same plan solution_lawful) (spec_of id)
      (In-from_Contains plan.opening (spec_of id) first))
      (λ read c. founded_settled read (reads read c))
      (awaits_done (spec_of id).access.awaits
      (λ k other e there low. founded_settled other (awaited k other e there low)))
  founded_settled id (added _ maker founded adds reads awaited) =
      settles id
      (settled_adds (limit same plan) (limit_grown same plan solution_lawful) last_sound maker
      (founded_settled maker founded) (spec_of id) adds)
      (λ read c. founded_settled read (reads read c))
      (awaits_done (spec_of id).access.awaits
      (λ k other e there low. founded_settled other (awaited k other e there low)))

  -- AND ITS LIMIT IS THE SOLUTION
  pub solution_solved : IsSolved same plan spec_of There value_of
  solution_solved =
      let last = limit same plan in
      record {
        jobs = λ job c. last_sound.jobs job (In-from_Contains last.jobs job c);
        all_there = λ id there. Contains-from_In last.jobs (spec_of id)
            (elim (solution.least id there) [
              | inl first ↦ opening_in same plan last (limit_grown same plan solution_lawful)
                  (spec_of id) (In-from_Contains plan.opening (spec_of id) first)
              | inr made ↦ settled_adds last (limit_grown same plan solution_lawful) last_sound
                  made.maker (founded_settled made.maker made.founded) (spec_of id) made.adds
            ]);
        values = last_sound.values;
        founded = λ id f. (settled_founded last last_sound id (founded_settled id f)).1;
      }
