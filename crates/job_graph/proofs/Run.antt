-- Legal histories, one event after another.
use Rattle.std.proofs.Common.{◌≡◌, ℕ, zero, suc, Bool, true, false, not, ◌&&◌, nat_lt, ◌⊎◌, inl}
use Rattle.std.proofs.Common.{inr, List, [], ◌∷◌, ◌++◌, replicate, Option, Some, None, refl, sym}
use Rattle.std.proofs.Common.{ap, ◌∙◌, subst, arith, append_assoc}
use Rattle.std.specs.Prelude.{slice_get, slice_set}
use Rattle.std.specs.List.{find}
use Rattle.std.proofs.lemmas.Bool.{and_parts, and_from, false≢true, not-true, not_from_false}
use Rattle.std.proofs.lemmas.List.Sums.{fold-append}
use Rattle.access_context.specs.declared.access.Spec.{Spec}
use Rattle.job_graph.specs.declared.event.Event.{Event}
use Rattle.job_graph.specs.declared.event.Event.TheVariants as event
use Rattle.job_graph.specs.Meaning.{Meaning}
use Rattle.job_graph.specs.Rounds.{State, has_id, start, is_ready, limit}
use Rattle.job_graph.specs.Laws.{IsLawful}
use Rattle.job_graph.specs.Histories.{out_after, out_of, is_free, has_halted, was_claimed, has_out}
use Rattle.job_graph.specs.Histories.{finished, state_after, state_of, is_ready_id, is_allowed}
use Rattle.job_graph.specs.Histories.{goes_on, is_run}
use Rattle.job_graph.specs.Members.{In, find-some, find-In, list_any-found}
use Rattle.job_graph.specs.Growth.{none≢some, Within, within_itself, within_through, settle}
use Rattle.job_graph.specs.Growth.{within_settle, outcome_within, ready_reads, Grown, begun, grown}
use Rattle.job_graph.specs.Confluence.{nil_append, orderly_within}
use Rattle.job_graph.specs.Limit.{below_limit, limit_orderly}

-- an element after a write
pub get_set_cases : {X : Type 0} (xs : List X) (i j : ℕ) (v x : X)
    → slice_get (slice_set xs i v) j ≡ Some x
    → ((i ≡ j) × (v ≡ x)) ⊎ (((i ≡ j) → ⊥) × (slice_get xs j ≡ Some x))
get_set_cases [] i j v x e = absurd (none≢some x None refl e)
get_set_cases (y ∷ xs) zero zero v x e = let s : v ≡ x = cc in inl (refl, s)
get_set_cases (y ∷ xs) zero (suc j) v x e = inr ((λ e. absurd (omega arith)), e)
get_set_cases (y ∷ xs) (suc i) zero v x e = inr ((λ e. absurd (omega arith)), e)
get_set_cases (y ∷ xs) (suc i) (suc j) v x e =
    elim (get_set_cases xs i j v x e) [
      | inl h ↦ inl (ap suc h.0, h.1)
      | inr h ↦ inr ((λ s. h.0 (omega arith)), h.1)
    ]

pub get_set_same : {X : Type 0} (xs : List X) (i : ℕ) (v x : X) → slice_get xs i ≡ Some x
    → slice_get (slice_set xs i v) i ≡ Some v
get_set_same [] i v x e = absurd (none≢some x None refl e)
get_set_same (y ∷ xs) zero v x e = refl
get_set_same (y ∷ xs) (suc i) v x e = get_set_same xs i v x e

pub get_set_other : {X : Type 0} (xs : List X) (i j : ℕ) (v : X) → ((i ≡ j) → ⊥)
    → slice_get (slice_set xs i v) j ≡ slice_get xs j
get_set_other [] i j v h = refl
get_set_other (y ∷ xs) zero zero v h = absurd (h refl)
get_set_other (y ∷ xs) zero (suc j) v h = refl
get_set_other (y ∷ xs) (suc i) zero v h = refl
get_set_other (y ∷ xs) (suc i) (suc j) v h = get_set_other xs i j v (λ e. h (ap suc e))

-- a worker that has a job out, or none
pub free_is : {X : Type 0} (o : Option (Option X)) → is_free o ≡ true → o ≡ Some None
free_is None e = absurd (false≢true e)
free_is (Some None) e = refl
free_is (Some (Some x)) e = absurd (false≢true e)

pub has_out_is : {Id : Type 0} (same : Id → Id → Bool) (id : Id) (o : Option (Option Id))
    → has_out same id o ≡ true → (job : Id) × (o ≡ Some (Some job)) × (same job id ≡ true)
has_out_is same id None e = absurd (false≢true e)
has_out_is same id (Some None) e = absurd (false≢true e)
has_out_is same id (Some (Some job)) e = (job, refl, e)

module _ {Id V : Type 0} (same : Id → Id → Bool) (plan : Meaning Id V) (workers : ℕ) where
  -- what an allowed claim says
  pub record MayClaim (events : List (Event Id)) (w : ℕ) (id : Id) : Type 0 where
    pub below : nat_lt w workers ≡ true
    pub ready : is_ready_id same plan (state_of same plan events) id ≡ true
    pub new : was_claimed same events id ≡ false
    pub free : slice_get (out_of workers events) w ≡ Some None
    pub no_halt : has_halted events ≡ false

  pub may_claim : (events : List (Event Id)) (w : ℕ) (id : Id)
      → is_allowed same plan workers events (event.Claim w id) ≡ true → MayClaim events w id
  may_claim events w id a =
      let halted = not (has_halted events) in
      let free = is_free (slice_get (out_of workers events) w) in
      let new = not (was_claimed same events id) in
      let ready = is_ready_id same plan (state_of same plan events) id in
      let p = and_parts (nat_lt w workers) (ready && (new && (free && halted))) a in
      let q = and_parts ready (new && (free && halted)) p.1 in
      let r = and_parts new (free && halted) q.1 in
      let s = and_parts free halted r.1 in
      record {
        below = p.0;
        ready = q.0;
        new = not-true _ r.0;
        free = free_is _ s.0;
        no_halt
            = not-true _ s.1;
      }

  pub claim_allowed : (events : List (Event Id)) (w : ℕ) (id : Id) → MayClaim events w id
      → is_allowed same plan workers events (event.Claim w id) ≡ true
  claim_allowed events w id m =
      and_from _ _ m.below (and_from _ _ m.ready
      (and_from _ _ (not_from_false _ m.new)
      (and_from _ _ (ap is_free m.free) (not_from_false _ m.no_halt))))

  -- one more event at the end
  run_push : (before events : List (Event Id)) (e : Event Id)
      → goes_on same plan workers before events ≡ true
      → is_allowed same plan workers (before ++ events) e ≡ true
      → goes_on same plan workers before (events ++ e ∷ []) ≡ true
  run_push before [] e g a = and_from _ _
      (subst (λ b. is_allowed same plan workers b e ≡ true) (nil_append before) a) refl
  run_push before (f ∷ events) e g a =
      let p = and_parts _ _ g in
      and_from _ _ p.0 (run_push (before ++ f ∷ []) events e p.1
      (subst (λ b. is_allowed same plan workers b e ≡ true)
      (sym (append_assoc before (f ∷ []) events)) a))

  pub is_run-push : (events : List (Event Id)) (e : Event Id)
      → is_run same plan workers events ≡ true → is_allowed same plan workers events e ≡ true
      → is_run same plan workers (events ++ e ∷ []) ≡ true
  is_run-push events e r a = run_push [] events e r a

  -- the parts of a legal history
  run_parts : (before events after : List (Event Id)) (e : Event Id)
      → goes_on same plan workers before (events ++ e ∷ after) ≡ true
      → (goes_on same plan workers before events ≡ true)
      × (is_allowed same plan workers (before ++ events) e ≡ true)
  run_parts before [] after e g = (
    refl,
    subst (λ b. is_allowed same plan workers b e ≡ true)
        (sym (nil_append before)) (and_parts _ _ g).0,
  )
  run_parts before (f ∷ events) after e g =
      let p = and_parts _ _ g in
      let q = run_parts (before ++ f ∷ []) events after e p.1 in (
        and_from _ _ p.0 q.0,
        subst (λ b. is_allowed same plan workers b e ≡ true)
            (append_assoc before (f ∷ []) events) q.1,
      )

  pub is_run-parts : (events after : List (Event Id)) (e : Event Id)
      → is_run same plan workers (events ++ e ∷ after) ≡ true
      → (is_run same plan workers events ≡ true) × (is_allowed same plan workers events e ≡ true)
  is_run-parts events after e g = run_parts [] events after e g

  -- what holds at first and through each allowed event holds of every legal history
  through_run : (P : List (Event Id) → Type 0)
      → ((events : List (Event Id)) (e : Event Id) → is_run same plan workers events ≡ true
      → is_allowed same plan workers events e ≡ true → P events → P (events ++ e ∷ []))
      → (before events : List (Event Id)) → is_run same plan workers before ≡ true → P before
      → goes_on same plan workers before events ≡ true → P (before ++ events)
  through_run P step before [] r p g = subst P (sym (nil_append before)) p
  through_run P step before (e ∷ events) r p g =
      let a = and_parts _ _ g in
      subst P (append_assoc before (e ∷ []) events)
      (through_run P step (before ++ e ∷ []) events (is_run-push before e r a.0)
      (step before e r a.0 p) a.1)

  pub run_induction : (P : List (Event Id) → Type 0) → P []
      → ((events : List (Event Id)) (e : Event Id) → is_run same plan workers events ≡ true
      → is_allowed same plan workers events e ≡ true → P events → P (events ++ e ∷ []))
      → (events : List (Event Id)) → is_run same plan workers events ≡ true → P events
  run_induction P none step events r = through_run P step [] events refl none r

  pub state_of-push : (events : List (Event Id)) (e : Event Id)
      → state_of same plan (events ++ e ∷ []) ≡ state_after same plan (state_of same plan events) e
  state_of-push events e = fold-append (state_after same plan) (start same plan) events (e ∷ [])

  pub out_of-push : (events : List (Event Id)) (e : Event Id)
      → out_of workers (events ++ e ∷ []) ≡ out_after (out_of workers events) e
  out_of-push events e = fold-append out_after (replicate workers None) events (e ∷ [])

  module _ (lawful : IsLawful same plan) where
    -- a job that is out was ready in an earlier state
    pub record IsOut (state : State Id V) (id : Id) : Type 0 where
      pub by : State Id V
      pub by_grown : Grown same plan by
      pub within : Within same plan by state
      pub job : Spec Id
      pub there : In job by.jobs
      pub named : job.id ≡ id
      pub ready : is_ready same plan by job ≡ true

    out_within : (a b : State Id V) (id : Id) → Within same plan a b → IsOut a id → IsOut b id
    out_within a b id w o = record {
      by = o.by;
      by_grown = o.by_grown;
      within
          = within_through same plan o.by a b o.within w;
      job = o.job;
      there = o.there;
      named
          = o.named;
      ready = o.ready;
    }

    pub record Grows (state : State Id V) (outs : List (Option Id)) : Type 0 where
      pub grown_state : Grown same plan state
      pub out : (w : ℕ) (id : Id) → slice_get outs w ≡ Some (Some id) → IsOut state id

    -- the state that a finish leaves
    pub finish_is : (state : State Id V) → Grown same plan state → (id : Id) → (o : IsOut state id)
        → finished same plan state (find (has_id same id) state.jobs)
        ≡ settle same plan o.by state o.job
    finish_is state g id o =
        let in_state : In o.job state.jobs = o.within.jobs o.job o.there in
        let orderly = orderly_within same plan lawful.identity state (limit same plan)
        (below_limit same plan lawful state g) (limit_orderly same plan lawful) in
        let f = find-In (has_id same id) state.jobs o.job in_state
        ((lawful.identity o.job.id id).1 o.named) in
        let s = find-some (has_id same id) state.jobs f.0 f.1 in
        let is_job : f.0 ≡ o.job = orderly.one f.0 o.job s.0 in_state
        ((lawful.identity (f.0).id id).0 s.1 ∙ sym o.named) in
        let agree = outcome_within same plan o.by state o.within o.job
        (ready_reads same plan o.by o.job o.ready) in
        ap (finished same plan state) f.1 ∙ ap (λ j. settle same plan state state j) is_job
        ∙ (λ i. record {
          jobs = state.jobs ++ ((sym agree i).added ++ []);
          values = state.values
              ++ (o.job.id, (sym agree i).value) ∷ [];
        })

    grows_after : (events : List (Event Id)) (e : Event Id)
        → is_allowed same plan workers events e ≡ true
        → Grows (state_of same plan events) (out_of workers events)
        → Grows (state_after same plan (state_of same plan events) e)
        (out_after (out_of workers events) e)
    grows_after events (event.Claim w id) a g =
        let state = state_of same plan events in
        let outs = out_of workers events in
        record {
          grown_state = g.grown_state;
          out = λ v job e. elim (get_set_cases outs w v (Some id) (Some job) e) [
            | inr other ↦ g.out v job other.1
            | inl here ↦
                let is_id : id ≡ job = cc in
                let f = list_any-found _ state.jobs (may_claim events w id a).ready in
                let p = and_parts _ _ f.2 in
                record {
                  by = state;
                  by_grown = g.grown_state;
                  within = within_itself same plan state;
                  job = f.0;
                  there = f.1;
                  named = (lawful.identity (f.0).id id).0 p.0 ∙ is_id;
                  ready = p.1;
                }
          ];
        }
    grows_after events (event.Finish w id) a g =
        let state = state_of same plan events in
        let outs = out_of workers events in
        let h = has_out_is same id (slice_get outs w) a in
        let is_id : h.0 ≡ id = (lawful.identity h.0 id).0 h.2 in
        let o : IsOut state id = subst (IsOut state) is_id (g.out w h.0 h.1) in
        let e = finish_is state g.grown_state id o in
        let up = within_settle same plan o.by state o.job in
        record {
          grown_state = subst (Grown same plan) (sym e)
              (grown o.job g.grown_state o.by_grown o.within o.there o.ready);
          out = λ v job i. elim (get_set_cases outs w v None (Some job) i) [
            | inr other ↦ subst (λ s. IsOut s job) (sym e)
                (out_within state (settle same plan o.by state o.job) job up (g.out v job other.1))
            | inl here ↦ absurd (none≢some job None refl here.1)
          ];
        }
    grows_after events (event.Halt w) a g =
        record {
          grown_state = g.grown_state;
          out = λ v job i. elim (get_set_cases (out_of workers events) w v None (Some job) i) [
            | inr other ↦ g.out v job other.1
            | inl here ↦ absurd (none≢some job None refl here.1)
          ];
        }

    pub none_out : (n w : ℕ) (id : Id) → slice_get (replicate n None) w ≡ Some (Some id) → ⊥
    none_out zero w id e = none≢some (Some id) None refl e
    none_out (suc n) zero id e = cc
    none_out (suc n) (suc w) id e = none_out n w id e

    -- every legal history makes its state grow
    pub grows : (events : List (Event Id)) → is_run same plan workers events ≡ true
        → Grows (state_of same plan events) (out_of workers events)
    grows =
        run_induction (λ events. Grows (state_of same plan events) (out_of workers events))
        (record { grown_state = begun; out = λ w id e. absurd (none_out workers w id e) })
        (λ events e r a g. subst (λ s. Grows s (out_of workers (events ++ e ∷ [])))
        (sym (state_of-push events e)) (subst
        (Grows (state_after same plan (state_of same plan events) e))
        (sym (out_of-push events e)) (grows_after events e a g)))
