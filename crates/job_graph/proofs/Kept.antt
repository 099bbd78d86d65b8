-- What legal histories keep, and what they come to.
use Rattle.std.proofs.Common.{◌≡◌, ℕ, ◌<◌, ◌≤◌, Bool, true, false, not, ◌&&◌, inl, inr, List, []}
use Rattle.std.proofs.Common.{◌∷◌, ◌++◌, length, Option, Some, is_some, refl, sym, ap, ◌∙◌, subst}
use Rattle.std.proofs.Common.{cond, arith, nat_eq}
use Rattle.std.specs.Prelude.{Contains, slice_get, count_by}
use Rattle.std.specs.List.{list_any, filter}
use Rattle.std.proofs.lemmas.Bool.{and_parts, and_from, false≢true, cases_Bool, eqb-true}
use Rattle.std.proofs.lemmas.Bool.{false_from_ne_true}
use Rattle.std.proofs.lemmas.List.Sums.{length-filter}
use Rattle.access_context.specs.declared.access.Spec.{Spec}
use Rattle.job_graph.specs.declared.event.Event.{Event}
use Rattle.job_graph.specs.declared.event.Event.TheVariants as event
use Rattle.job_graph.specs.declared.event.End.TheVariants.{Running, Ended, Halted}
use Rattle.job_graph.specs.Meaning.{Meaning}
use Rattle.job_graph.specs.Rounds.{State, value_in, is_settled, has_id, is_ready, awaits_nothing}
use Rattle.job_graph.specs.Rounds.{is_done_up_to, limit}
use Rattle.job_graph.specs.Laws.{IsLawful}
use Rattle.job_graph.specs.Histories.{has_halted, out_of, running, was_claimed, state_of}
use Rattle.job_graph.specs.Histories.{is_allowed, goes_on, is_run, some_ready, end_of}
use Rattle.job_graph.specs.Promises.{IsReadSettled, IsHistory, IsComplete, AddsNoneBelow}
use Rattle.job_graph.specs.Promises.{IsFirstOver}
use Rattle.job_graph.specs.Members.{In, slice_get-In, list_all-In, In-from_Contains}
use Rattle.job_graph.specs.Members.{Contains-from_In, list_any-In, list_any-found}
use Rattle.job_graph.specs.Growth.{none_of, some_of, Within, settled_within, ready_reads}
use Rattle.job_graph.specs.Growth.{ready_awaits}
use Rattle.job_graph.specs.Confluence.{central, settled_up_to}
use Rattle.job_graph.specs.Limit.{filter-from, below_limit, limit_below, limit_orderly, limit_over}
use Rattle.job_graph.specs.Limit.{limit_first}
use Rattle.job_graph.proofs.Run.{is_run-parts, may_claim, grows}
use Rattle.job_graph.proofs.Owned.{Owned, owned}
use Rattle.job_graph.proofs.Short.{short_of}

In-length : {X : Type 0} (xs : List X) (x : X) → In x xs → 0 < length xs
In-length [] x i = absurd i
In-length (y ∷ xs) x i = omega arith

-- a worker has a job out, so one is running
pub one_runs : {X : Type 0} (outs : List (Option X)) (w : ℕ) (x : X)
    → slice_get outs w ≡ Some (Some x) → 0 < count_by is_some outs
one_runs outs w x e =
    let i = In-length (filter is_some outs) (Some x)
    (filter-from is_some outs (Some x) (slice_get-In outs w (Some x) e) refl) in
    subst (λ n. 0 < n) (length-filter is_some outs) i

module _ {Id V : Type 0} (same : Id → Id → Bool) (plan : Meaning Id V) (workers : ℕ) where
  prefix_goes_on : (before events more : List (Event Id))
      → goes_on same plan workers before (events ++ more) ≡ true
      → goes_on same plan workers before events ≡ true
  prefix_goes_on before [] more g = refl
  prefix_goes_on before (e ∷ events) more g =
      let p = and_parts (is_allowed same plan workers before e)
      (goes_on same plan workers (before ++ e ∷ []) (events ++ more)) g in
      and_from _ _ p.0 (prefix_goes_on (before ++ e ∷ []) events more p.1)

  module _ (lawful : IsLawful same plan) where
    pub within_limit : (events : List (Event Id)) → is_run same plan workers events ≡ true
        → Within same plan (state_of same plan events) (limit same plan)
    within_limit events r = below_limit same plan lawful (state_of same plan events)
        (grows same plan workers lawful events r).grown_state

    none_added : (events more : List (Event Id)) → is_run same plan workers events ≡ true
        → is_run same plan workers more ≡ true → (stratum : ℕ)
        → is_done_up_to same plan (state_of same plan events) stratum ≡ true → (other : Spec Id)
        → In other (state_of same plan more).jobs → plan.stratum other.id ≤ stratum
        → In other (state_of same plan events).jobs
    none_added events more r m k done other i low =
        (central same plan lawful.identity (limit same plan) (limit_orderly same plan lawful) k
        (state_of same plan events) (grows same plan workers lawful events r).grown_state
        (within_limit events r) done (state_of same plan more)
        (grows same plan workers lawful more m).grown_state (within_limit more m)).jobs other i
        low

    awaited_done : (state : State Id V) (awaits : Option ℕ) (k : ℕ)
        → awaits_nothing same plan state awaits ≡ true → awaits ≡ Some k
        → is_done_up_to same plan state k ≡ true
    awaited_done state awaits k e is = subst (λ a. awaits_nothing same plan state a ≡ true) is e

    pub adds_none_below : (events more : List (Event Id))
        → AddsNoneBelow same plan workers events more
    adds_none_below events more = record {
      none_below = λ r job other k i ready is j low.
          let state = state_of same plan events in
          let before = prefix_goes_on [] events more r in
          Contains-from_In state.jobs other (none_added events (events ++ more) before r k
          (awaited_done state job.access.awaits k (ready_awaits same plan state job ready) is)
          other (In-from_Contains _ other j) low);
    }

    at_most : (n : ℕ) (b : Bool) → n ≡ cond b 1 0 → n ≤ 1
    at_most n true e = omega arith
    at_most n false e = omega arith

    read_settled : (events : List (Event Id)) → is_run same plan workers events ≡ true
        → (before after : List (Event Id)) (w : ℕ) (job : Spec Id)
        → events ≡ before ++ event.Claim w job.id ∷ after
        → Contains (state_of same plan before).jobs job → IsReadSettled same plan before events job
    read_settled events r before after w job e i =
        let state = state_of same plan before in
        let parts = is_run-parts same plan workers before after (event.Claim w job.id)
        (subst (λ es. is_run same plan workers es ≡ true) e r) in
        let o : Owned same plan workers lawful state (out_of workers before) before
        = owned same plan workers lawful before parts.0 in
        let f = list_any-found (λ j. has_id same job.id j && is_ready same plan state j) state.jobs
        (may_claim same plan workers before w job.id parts.1).ready in
        let p = and_parts (has_id same job.id f.0) (is_ready same plan state f.0) f.2 in
        let w_limit = within_limit before parts.0 in
        let is_job : f.0 ≡ job = (limit_orderly same plan lawful).one f.0 job (w_limit.jobs f.0 f.1)
        (w_limit.jobs job (In-from_Contains state.jobs job i))
        ((lawful.identity (f.0).id job.id).0 p.0) in
        let ready : is_ready same plan state job
        ≡ true = subst (λ j. is_ready same plan state j ≡ true) is_job p.1 in
        record {
          reads = λ read c. sym (o.finished read)
              ∙ list_all-In (is_settled same state) job.access.reads read
              (ready_reads same plan state job ready) (In-from_Contains job.access.reads read c);
          awaited = λ k other is c low.
              let done = awaited_done state job.access.awaits k
              (ready_awaits same plan state job ready) is in
              let there = none_added before events parts.0 r k done other
              (In-from_Contains _ other c) low in
              sym (o.finished other.id) ∙ settled_up_to same plan lawful.identity state k done other
              there low;
        }

    -- EVERY HISTORY: what is settled is settled so in the limit, once, and read only then
    pub history_of : (events : List (Event Id)) → is_run same plan workers events ≡ true
        → IsHistory same plan workers events
    history_of events r =
        let w = within_limit events r in
        let o = owned same plan workers lawful events r in
        record {
          legal = r;
          values = w.values;
          jobs = λ job c. Contains-from_In _ job (w.jobs job (In-from_Contains _ job c));
          claimed_once = λ id. at_most _ _ (o.claims id);
          short = short_of same plan workers lawful events r;
          written_once = λ id. at_most _ _ (o.finishes id);
          read_settled = read_settled events r;
        }

    -- two states with no less than each other
    same_values : (a b : State Id V) → Within same plan a b → Within same plan b a → (id : Id)
        → value_in same a id ≡ value_in same b id
    same_values a b f g id =
        elim (cases_Bool (is_some (value_in same a id))) [
          | inl there ↦ (let s = some_of (value_in same a id) there
              in s.1 ∙ sym (f.values id s.0 s.1))
          | inr none ↦ none_of (value_in same a id) none
              ∙ sym (none_of (value_in same b id)
              (false_from_ne_true _ (λ t. false≢true
              (sym none ∙ settled_within same plan b a g id t))))
        ]

    has_job : (a b : State Id V) → Within same plan a b → (id : Id)
        → list_any (has_id same id) a.jobs ≡ true → list_any (has_id same id) b.jobs ≡ true
    has_job a b w id e = let f = list_any-found (has_id same id) a.jobs e
        in list_any-In (has_id same id) b.jobs f.0 (w.jobs f.0 f.1) f.2

    same_test : (x y : Bool) → (x ≡ true → y ≡ true) → (y ≡ true → x ≡ true) → x ≡ y
    same_test true y f g = sym (f refl)
    same_test false true f g = g refl
    same_test false false f g = refl

    -- EVERY ENDED HISTORY has come to the limit
    pub complete_of : (events : List (Event Id)) → is_run same plan workers events ≡ true
        → has_halted events ≡ false → some_ready same plan (state_of same plan events) ≡ false
        → running workers events ≡ 0 → IsComplete same plan events
    complete_of events r no_halt over none =
        let state = state_of same plan events in
        let last = limit same plan in
        let f : Within same plan state last = within_limit events r in
        let g : Within same plan last state = limit_below same plan lawful state
        (grows same plan workers lawful events r).grown_state over in
        let o : Owned same plan workers lawful state (out_of workers events) events
        = owned same plan workers lawful events r in
        let values = same_values state last f g in
        let settled : (id : Id) → is_settled same state id
        ≡ is_settled same last id = λ id. ap is_some (values id) in
        let claimed : (id : Id) → was_claimed same events id ≡ is_settled same last id = λ id.
        same_test _ _
        (λ c. elim (o.live no_halt id c) [
          | inl s ↦ sym (settled id) ∙ s
          | inr w ↦ (let n = one_runs (out_of workers events) w.0 id w.1 in absurd (omega arith))
        ])
        (λ s. o.settled_claimed id (settled id ∙ s)) in
        record {
          values = values;
          jobs = λ job. (
            λ c. Contains-from_In last.jobs job
                (f.jobs job (In-from_Contains state.jobs job c)),
            λ c. Contains-from_In state.jobs job
                (g.jobs job (In-from_Contains last.jobs job c)),
          );
          stuck = λ id. λ i. (same_test _ _ (has_job state last f id) (has_job last state g id) i)
              && not (settled id i);
          claims = λ id. o.claims id ∙ ap (λ b. cond b 1 0) (claimed id);
          finishes = λ id. o.finishes id ∙ ap (λ b. cond b 1 0) (sym (o.finished id) ∙ settled id);
          no_halt = no_halt;
        }

    pub first_over : IsFirstOver same plan
    first_over = record { over = limit_over same plan lawful; first = limit_first same plan lawful }

    -- a job that wasn't claimed, or one that runs or is settled
    pub claimed_runs : (events : List (Event Id)) → is_run same plan workers events ≡ true
        → has_halted events ≡ false → running workers events ≡ 0 → (id : Id)
        → was_claimed same events id ≡ true → is_settled same (state_of same plan events) id ≡ true
    claimed_runs events r no_halt none id c =
        elim ((owned same plan workers lawful events r).live no_halt id c) [
          | inl s ↦ s
          | inr w ↦ (let n = one_runs (out_of workers events) w.0 id w.1 in absurd (omega arith))
        ]

  ended_parts : (halted ready none : Bool)
      → (cond halted Halted (cond ready Running (cond none Ended Running))) ≡ Ended
      → (halted ≡ false) × (ready ≡ false) × (none ≡ true)
  ended_parts true ready none e = cc
  ended_parts false true none e = cc
  ended_parts false false true e = (refl, refl, refl)
  ended_parts false false false e = cc

  pub complete_of_end : (lawful : IsLawful same plan) (events : List (Event Id))
      → is_run same plan workers events ≡ true → end_of same plan workers events ≡ Ended
      → IsComplete same plan events
  complete_of_end lawful events r e =
      let p = ended_parts (has_halted events) (some_ready same plan (state_of same plan events))
      (nat_eq (running workers events) 0) e in
      complete_of lawful events r p.0 p.1 (eqb-true _ _ p.2)
