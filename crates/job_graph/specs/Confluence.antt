-- Two growths of one graph come to the same.
use Rattle.std.proofs.Common.{◌≡◌, ℕ, ◌≤◌, Bool, true, false, not, ◌||◌, nat_le, inl, inr, List, []}
use Rattle.std.proofs.Common.{◌∷◌, ◌++◌, Option, Some, None, refl, sym, ap, ◌∙◌, subst, arith}
use Rattle.std.specs.Prelude.{IsTrue, ◌↔◌}
use Rattle.std.specs.List.{list_all}
use Rattle.std.proofs.lemmas.Bool.{and_from, or_cases, or_left, or_right, false≢true, not-true}
use Rattle.std.proofs.lemmas.Bool.{not_from_false, leb-true, le-leb, cases_Bool}
use Rattle.access_context.specs.declared.access.Spec.{Spec}
use Rattle.access_context.specs.Plain.{Plain}
use Rattle.job_graph.specs.Meaning.{Meaning}
use Rattle.job_graph.specs.Rounds.{State, value_in, is_settled, is_done_up_to, awaits_nothing}
use Rattle.job_graph.specs.Rounds.{is_ready, outcome_of, outcome_in}
use Rattle.job_graph.specs.Members.{In, In-append_right, In-append_cases, list_all-In}
use Rattle.job_graph.specs.Members.{list_all-from}
use Rattle.job_graph.specs.Growth.{none≢some, some_of, read_of-push_cases, Within, within_itself}
use Rattle.job_graph.specs.Growth.{within_through, settled_within, all_settled_within, reads_agree}
use Rattle.job_graph.specs.Growth.{outcome_within, ready_reads, ready_awaits, settle, within_settle}
use Rattle.job_graph.specs.Growth.{Grown, begun, grown, opening_in}

pub nil_append : {X : Type 0} (xs : List X) → xs ++ [] ≡ xs
nil_append [] = refl
nil_append (x ∷ xs) = λ i. x ∷ nil_append xs i

module _ {Id V : Type 0} (same : Id → Id → Bool) (plan : Meaning Id V) where
  -- a value in a state is what came of a job there, by what the job reads there, and its jobs were
  -- added
  pub record Comes (a : State Id V) (id : Id) (x : Plain V) : Type 0 where
    pub job : Spec Id
    pub there : In job a.jobs
    pub named : job.id ≡ id
    pub reads : list_all (is_settled same a) job.access.reads ≡ true
    pub is : x ≡ (outcome_in same plan a job).value
    pub added : (t : Spec Id) → In t (outcome_in same plan a job).added → In t a.jobs

  comes_within : (a b : State Id V) → Within same plan a b → (id : Id) (x : Plain V) → Comes a id x
      → Comes b id x
  comes_within a b w id x c =
      let same_outcome = outcome_within same plan a b w c.job c.reads in
      record {
        job = c.job;
        there = w.jobs c.job c.there;
        named = c.named;
        reads = all_settled_within same plan a b w c.job.access.reads c.reads;
        is = c.is ∙ ap (λ o. o.value) same_outcome;
        added = λ t i. w.jobs t (c.added t (subst (λ o. In t o.added) (sym same_outcome) i));
      }

  module _ (identity : (x y : Id) → IsTrue (same x y) ↔ (x ≡ y)) where
    pub comes : (a : State Id V) → Grown same plan a → (id : Id) (x : Plain V)
        → value_in same a id ≡ Some x → Comes a id x
    comes _ begun id x e = absurd (none≢some x None refl e)
    comes _ (grown {a} {by} job ga gb w here ready) id x e =
        let after = settle same plan by a job in
        let up = within_settle same plan by a job in
        let from : Within same plan by after = within_through same plan by a after w up in
        elim (read_of-push_cases same a.values job.id id (outcome_in same plan by job).value x e) [
          | inl old ↦ comes_within a after up id x (comes a ga id x old)
          | inr new ↦
              let same_outcome = outcome_within same plan by after from job
              (ready_reads same plan by job ready) in
              record {
                job = job;
                there = from.jobs job here;
                named = (identity job.id id).0 new.0;
                reads = all_settled_within same plan by after from job.access.reads
                    (ready_reads same plan by job ready);
                is = sym new.1 ∙ ap (λ o. o.value) same_outcome;
                added = λ t i. In-append_right a.jobs _ t
                    (subst (λ ts. In t ts) (sym (nil_append _))
                    (subst (λ o. In t o.added) (sym same_outcome) i));
              }
        ]

    -- what the laws of a plan say of one state
    pub record IsOrderly (c : State Id V) : Type 0 where
      pub one : (job other : Spec Id) → In job c.jobs → In other c.jobs → job.id ≡ other.id
          → job ≡ other
      pub maker : (job added : Spec Id) → In job c.jobs
          → list_all (is_settled same c) job.access.reads ≡ true
          → In added (outcome_in same plan c job).added
          → plan.stratum job.id ≤ plan.stratum added.id
      pub reads : (job : Spec Id) (read : Id) → In job c.jobs → In read job.access.reads
          → plan.stratum read ≤ plan.stratum job.id

    pub orderly_within : (a c : State Id V) → Within same plan a c → IsOrderly c → IsOrderly a
    orderly_within a c w o = record {
      one = λ job other i j e. o.one job other (w.jobs job i) (w.jobs other j) e;
      maker = λ job added i r t. o.maker job added (w.jobs job i)
          (all_settled_within same plan a c w job.access.reads r)
          (subst (λ u. In added u.added) (outcome_within same plan a c w job r) t);
      reads = λ job read i j. o.reads job read (w.jobs job i) j;
    }

    -- up to a stratum, one state has no less than another
    pub record WithinUpTo (k : ℕ) (a b : State Id V) : Type 0 where
      pub jobs : (job : Spec Id) → In job a.jobs → plan.stratum job.id ≤ k → In job b.jobs
      pub values : (id : Id) (x : Plain V) → plan.stratum id ≤ k → value_in same a id ≡ Some x
          → value_in same b id ≡ Some x

    -- what a job of a low stratum makes is there already
    record Already (by a : State Id V) (job : Spec Id) : Type 0 where
      value : value_in same a job.id ≡ Some (outcome_in same plan by job).value
      added : (t : Spec Id) → In t (outcome_in same plan by job).added → In t a.jobs

    pub settled_up_to : (a : State Id V) (k : ℕ) → is_done_up_to same plan a k ≡ true
        → (job : Spec Id) → In job a.jobs → plan.stratum job.id ≤ k
        → is_settled same a job.id ≡ true
    settled_up_to a k done job i low =
        elim (or_cases _ _ (list_all-In (λ job. not (nat_le (plan.stratum job.id) k)
        || is_settled same a job.id) a.jobs job done i)) [
          | inl high ↦ absurd (false≢true (sym (not-true _ high) ∙ le-leb _ _ low))
          | inr s ↦ s
        ]

    module _ (c : State Id V) (orderly : IsOrderly c) (k : ℕ) (a : State Id V)
        (ga : Grown same plan a) (wa : Within same plan a c)
        (done : is_done_up_to same plan a k ≡ true) where
      already : (by : State Id V) → Within same plan by c → WithinUpTo k by a → (job : Spec Id)
          → In job by.jobs → list_all (is_settled same by) job.access.reads ≡ true
          → plan.stratum job.id ≤ k → Already by a job
      already by w up job here reads low =
          let there : In job a.jobs = up.jobs job here low in
          let s = some_of (value_in same a job.id) (settled_up_to a k done job there low) in
          let it : Comes a job.id s.0 = comes a ga job.id s.0 s.1 in
          let is_job : it.job ≡ job = orderly.one it.job job (wa.jobs it.job it.there)
          (w.jobs job here) it.named in
          let reads_low : (read : Id) → In read job.access.reads
          → plan.stratum read ≤ k = λ read i.
          (let h = orderly.reads job read (w.jobs job here) i in omega arith) in
          let agree = ap (outcome_of same plan job.id)
          (reads_agree same plan by a job.access.reads reads
          (λ id x i e. up.values id x (reads_low id i) e)) in
          record {
            value = s.1 ∙ ap Some (it.is ∙ ap (λ j. (outcome_in same plan a j).value) is_job
                ∙ ap (λ o. o.value) (sym agree));
            added = λ t i. it.added t (subst (λ j. In t (outcome_in same plan a j).added)
                (sym is_job) (subst (λ o. In t o.added) agree i));
          }

      -- THE CENTRAL STEP: once no job up to a stratum is without a value, no growth has more there
      pub central : (b : State Id V) → Grown same plan b → Within same plan b c → WithinUpTo k b a
      central _ begun w = record {
        jobs = λ job i low. opening_in same plan a ga job i;
        values
            = λ id x low e. absurd (none≢some x None refl e);
      }
      central _ (grown {a = old} {by} job gold gby win here ready) w =
          let up = within_settle same plan by old job in
          let w_old : Within same plan old c = within_through same plan old
          (settle same plan by old job) c up w in
          let w_by : Within same plan by c = within_through same plan by old c win w_old in
          let old_up : WithinUpTo k old a = central old gold w_old in
          let by_up : WithinUpTo k by a = central by gby w_by in
          let reads = ready_reads same plan by job ready in
          record {
            jobs = λ t i low. elim (In-append_cases old.jobs _ t i) [
              | inl o ↦ old_up.jobs t o low
              | inr n ↦
                  let new : In t (outcome_in same plan by job).added
                  = subst (λ ts. In t ts) (nil_append _) n in
                  let above = orderly.maker job t (w_by.jobs job here)
                  (all_settled_within same plan by c w_by job.access.reads reads)
                  (subst (λ o. In t o.added) (outcome_within same plan by c w_by job reads) new)
                  in
                  (already by w_by by_up job here reads (omega arith)).added t new
            ];
            values = λ id x low e. elim (read_of-push_cases same old.values job.id id
                (outcome_in same plan by job).value x e) [
                  | inl o ↦ old_up.values id x low o
                  | inr n ↦
                      let is_id : job.id ≡ id = (identity job.id id).0 n.0 in
                      let low' : plan.stratum job.id ≤ k
                      = subst (λ j. plan.stratum j ≤ k) (sym is_id) low in
                      subst (λ j. value_in same a j ≡ Some x) is_id
                      ((already by w_by by_up job here reads low').value ∙ ap Some n.1)
                ];
          }

    -- CONFLUENCE: a growth that cannot go on has all that any growth has
    pub below : (c : State Id V) → IsOrderly c → Grown same plan c
        → ((job : Spec Id) → In job c.jobs → is_ready same plan c job ≡ false) → (b : State Id V)
        → Grown same plan b → Within same plan b c
    below c orderly gc over _ begun = record {
      jobs = λ job i. opening_in same plan c gc job i;
      values
          = λ id x e. absurd (none≢some x None refl e);
    }
    below c orderly gc over _ (grown {a} {by} job ga gby win here ready) =
        let w_a : Within same plan a c = below c orderly gc over a ga in
        let w_by : Within same plan by c = below c orderly gc over by gby in
        let reads = ready_reads same plan by job ready in
        let reads_c = all_settled_within same plan by c w_by job.access.reads reads in
        let in_c : In job c.jobs = w_by.jobs job here in
        let settled : is_settled same c job.id ≡ true =
        elim (cases_Bool (is_settled same c job.id)) [
          | inl is_so ↦ is_so
          | inr is_not ↦ absurd (false≢true (sym (over job in_c)
              ∙ and_from _ _ (not_from_false _ is_not)
              (and_from _ _ reads_c (awaits_too c orderly gc by gby w_by job.access.awaits
              (ready_awaits same plan by job ready)))))
        ] in
        let s = some_of (value_in same c job.id) settled in
        let it : Comes c job.id s.0 = comes c gc job.id s.0 s.1 in
        let is_job : it.job ≡ job = orderly.one it.job job it.there in_c it.named in
        let agree = outcome_within same plan by c w_by job reads in
        let value : value_in same c job.id ≡ Some (outcome_in same plan by job).value =
        s.1 ∙ ap Some (it.is ∙ ap (λ j. (outcome_in same plan c j).value) is_job
        ∙ ap (λ o. o.value) (sym agree)) in
        record {
          jobs = λ t i. elim (In-append_cases a.jobs _ t i) [
            | inl o ↦ w_a.jobs t o
            | inr n ↦ it.added t (subst (λ j. In t (outcome_in same plan c j).added) (sym is_job)
                (subst (λ o. In t o.added) agree (subst (λ ts. In t ts) (nil_append _) n)))
          ];
          values = λ id x e. elim (read_of-push_cases same a.values job.id id
              (outcome_in same plan by job).value x e) [
                | inl o ↦ w_a.values id x o
                | inr n ↦ subst (λ j. value_in same c j ≡ Some x) ((identity job.id id).0 n.0)
                    (value ∙ ap Some n.1)
              ];
        }
      where
        awaits_too : (c : State Id V) → IsOrderly c → Grown same plan c → (by : State Id V)
            → Grown same plan by → Within same plan by c → (awaits : Option ℕ)
            → awaits_nothing same plan by awaits ≡ true → awaits_nothing same plan c awaits ≡ true
        awaits_too c orderly gc by gby w None e = refl
        awaits_too c orderly gc by gby w (Some k) e =
            list_all-from _ c.jobs (λ job i.
            elim (cases_Bool (nat_le (plan.stratum job.id) k)) [
              | inr high ↦ or_left _ _ (not_from_false _ high)
              | inl low ↦
                  let low' : plan.stratum job.id ≤ k = leb-true _ _ low in
                  let up = central c orderly k by gby w e c gc (within_itself same plan c) in
                  or_right _ _ (settled_within same plan by c w job.id
                  (settled_up_to by k e job (up.jobs job i low') low'))
            ])
