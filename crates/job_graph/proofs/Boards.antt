-- The parts of a board follow its events.
use Rattle.std.proofs.Common.{◌≡◌, ℕ, ◌+◌, ◌<◌, ◌≤◌, Bool, true, false, not, ◌&&◌, inl, inr, List}
use Rattle.std.proofs.Common.{[], ◌∷◌, ◌++◌, length, replicate, get_or, Option, Some, None, is_some}
use Rattle.std.proofs.Common.{refl, sym, ap, ◌∙◌, subst, cond, arith}
use Rattle.std.specs.Prelude.{IfSome, slice_get, slice_set, count_by, option_map}
use Rattle.std.specs.List.{list_any}
use Rattle.std.specs.Cmp.{IsTotalOrder}
use Rattle.std.specs.Ordering.{is_lt}
use Rattle.std.specs.declared.cmp.Ordering.{Ordering}
use Rattle.std.specs.Vec.{vec_len, vec_capacity}
use Rattle.std.specs.declared.vec.Vec.{Vec}
use Rattle.std.specs.declared.alloc.Global.{Global}
use Rattle.std.proofs.lemmas.Bool.{and_parts, and_from, or_left, or_right, or_cases, false≢true}
use Rattle.std.proofs.lemmas.Bool.{cases_Bool, false_from_ne_true, lt-ltb, eqb-true, eq-eqb}
use Rattle.std.proofs.lemmas.Bool.{not_from_false, not-true}
use Rattle.std.proofs.lemmas.List.{length-replicate}
use Rattle.std.proofs.lemmas.List.Sums.{count_by-le-length}
use Rattle.std.proofs.lemmas.Option.{slice_get_within, slice_get-get_or}
use Rattle.access_context.specs.declared.access.Spec.{Spec}
use Rattle.access_context.specs.Plain.{Plain, PlainOutcome}
use Rattle.job_graph.specs.declared.event.Event.{Event}
use Rattle.job_graph.specs.declared.event.Event.TheVariants as event
use Rattle.job_graph.specs.declared.event.End.TheVariants.{Running, Ended, Halted}
use Rattle.job_graph.specs.Meaning.{Meaning}
use Rattle.job_graph.specs.Rounds.{State, state_from, value_in, is_settled, is_unsettled_job}
use Rattle.job_graph.specs.Rounds.{is_ready, reads_in, outcome_in, limit, IsOutcomeOf}
use Rattle.job_graph.specs.Laws.{IsLawful}
use Rattle.job_graph.specs.Histories.{is_halt, is_halt_of, has_halted, out_of, running, was_claimed}
use Rattle.job_graph.specs.Histories.{has_out, state_of, is_ready_id, is_allowed, is_run}
use Rattle.job_graph.specs.Histories.{some_ready, is_claimable, end_of}
use Rattle.job_graph.specs.Promises.{IsHistory}
use Rattle.job_graph.specs.BoardView.{BoardView}
use Rattle.job_graph.specs.BoardBody.{IsBoard, halted_of}
use Rattle.job_graph.specs.Answers.{HandsOut, some_claimable, IsLeast}
use Rattle.job_graph.specs.Members.{In, In-from_Contains, Contains-from_In, slice_get-In}
use Rattle.job_graph.specs.Members.{list_any-In, list_any-found}
use Rattle.job_graph.specs.Agenda.{is_out_of, is_taken, IsNoneLeft, IsLeastLeft}
use Rattle.job_graph.specs.Growth.{Within, reads_agree, all_settled_within, outcome_within}
use Rattle.job_graph.specs.Growth.{ready_reads, ready_unsettled, settle}
use Rattle.job_graph.specs.Confluence.{nil_append}
use Rattle.job_graph.specs.Limit.{limit_orderly, below_limit}
use Rattle.job_graph.proofs.Run.{is_run-push, state_of-push, out_of-push, claim_allowed, IsOut}
use Rattle.job_graph.proofs.Run.{Grows, grows, finish_is}
use Rattle.job_graph.proofs.Owned.{or_false, list_any-push, owned}
use Rattle.job_graph.proofs.Agendas.{any_at, get_of_In}
use Rattle.job_graph.proofs.Passing.{not_below_back}
use Rattle.job_graph.proofs.Halts.{length-out_of, halts-set, halted_of-push, halted_flag}
use Rattle.job_graph.proofs.Kept.{claimed_runs, within_limit, history_of, complete_of_end}

same_flag : (x y : Bool) → Some x ≡ Some y → x ≡ y
same_flag x y e = cc

end_is : (halted ready none : Bool) → halted ≡ false → ready ≡ false → none ≡ true
    → cond halted Halted (cond ready Running (cond none Ended Running)) ≡ Ended
end_is halted ready none h r n = ap (λ b. cond b Halted
    (cond ready Running (cond none Ended Running))) h
    ∙ ap (λ b. cond b Running (cond none Ended Running)) r ∙ ap (λ b. cond b Ended Running) n

out_is : (halted ready none : Bool) → halted ≡ false → none ≡ false
    → cond halted Halted (cond ready Running (cond none Ended Running)) ≡ Running
out_is halted true none h n = ap (λ b. cond b Halted Running) h
out_is halted false none h n = ap (λ b. cond b Halted (cond none Ended Running)) h
    ∙ ap (λ b. cond b Ended Running) n

runs_is : (halted ready none : Bool) → halted ≡ false → ready ≡ true
    → cond halted Halted (cond ready Running (cond none Ended Running)) ≡ Running
runs_is halted ready none h r = ap (λ b. cond b Halted
    (cond ready Running (cond none Ended Running))) h
    ∙ ap (λ b. cond b Running (cond none Ended Running)) r

module _ {Id V : Type 0} (same : Id → Id → Bool) (plan : Meaning Id V) (workers : ℕ) where
  pub board_new : (events : Vec (Event Id) Global) (jobs : List (Spec Id)) (outs : List (Option Id))
      (halted : List Bool) → events.items ≡ [] → vec_len events ≡ 0 → workers ≤ vec_capacity events
      → jobs ≡ plan.opening → outs ≡ replicate workers None → halted ≡ replicate workers false
      → IsBoard same plan workers events (record { jobs = jobs; values = [] }) outs halted false
  board_new events jobs outs halted none len room js os hs = record {
    legal = ap (is_run same plan workers) none;
    state_is = (λ i. record { jobs = js i; values = [] }) ∙ sym (ap (state_of same plan) none);
    outs_are = os ∙ sym (ap (out_of workers) none);
    halted_are = hs ∙ sym (ap (halted_of workers) none);
    any_is = sym (ap has_halted none);
    room = (let c = count_by-le-length not halted
        in let n : length halted ≡ workers = ap length hs ∙ length-replicate workers false
        in omega arith);
  }

  -- the same board with more room
  pub board_same : (events after : Vec (Event Id) Global) (state : State Id V)
      (outs : List (Option Id)) (halted : List Bool) (any : Bool)
      → IsBoard same plan workers events state outs halted any → after.items ≡ events.items
      → vec_len after + count_by not halted ≤ vec_capacity after
      → IsBoard same plan workers after state outs halted any
  board_same events after state outs halted any b e room = record {
    legal = ap (is_run same plan workers) e ∙ b.legal;
    state_is = b.state_is ∙ sym (ap (state_of same plan) e);
    outs_are = b.outs_are ∙ sym (ap (out_of workers) e);
    halted_are = b.halted_are ∙ sym (ap (halted_of workers) e);
    any_is = b.any_is ∙ sym (ap has_halted e);
    room = room;
  }

  module _ (lawful : IsLawful same plan) (events : Vec (Event Id) Global) (state : State Id V)
      (outs : List (Option Id)) (halted : List Bool) (any : Bool)
      (b : IsBoard same plan workers events state outs halted any) where
    next_is : (job : Spec Id) → In job state.jobs
        → is_claimable same plan state events.items job ≡ true
        → In job (state_of same plan events.items).jobs
        × (is_ready same plan (state_of same plan events.items) job ≡ true)
        × (was_claimed same events.items job.id ≡ false)
    next_is job here ok =
        let p = and_parts (is_ready same plan (state_of same plan events.items) job)
        (not (was_claimed same events.items job.id))
        (subst (λ s. is_claimable same plan s events.items job ≡ true) b.state_is ok) in
        (subst (λ s. In job s.jobs) b.state_is here, p.0, not-true _ p.1)

    pub board_claim : (w : ℕ) (id : Id) → w < workers
        → slice_get (out_of workers events.items) w ≡ Some None → any ≡ false → (job : Spec Id)
        → In job state.jobs → is_claimable same plan state events.items job ≡ true → job.id ≡ id
        → (after : Vec (Event Id) Global) → after.items ≡ events.items ++ event.Claim w id ∷ []
        → vec_len after + count_by not halted ≤ vec_capacity after
        → IsBoard same plan workers after state (slice_set outs w (Some id)) halted any
    board_claim w id lt free no_halt job here ok named after items room =
        let n = next_is job here ok in
        let now = state_of same plan events.items in
        let ready : is_ready_id same plan now id
        ≡ true = list_any-In _ now.jobs job n.0
        (and_from _ _ ((lawful.identity job.id id).1 named) n.1) in
        let allowed = claim_allowed same plan workers events.items w id
        (record {
          below = lt-ltb w workers lt;
          ready = ready;
          new
              = subst (λ k. was_claimed same events.items k ≡ false) named n.2;
          free = free;
          no_halt
              = sym b.any_is ∙ no_halt;
        }) in
        record {
          legal = ap (is_run same plan workers) items
              ∙ is_run-push same plan workers events.items (event.Claim w id) b.legal allowed;
          state_is = b.state_is ∙ sym (ap (state_of same plan) items
              ∙ state_of-push same plan workers events.items (event.Claim w id));
          outs_are = ap (λ os. slice_set os w (Some id)) b.outs_are
              ∙ sym (ap (out_of workers) items ∙ out_of-push same plan workers events.items
              (event.Claim w id));
          halted_are = b.halted_are ∙ sym (ap (halted_of workers) items
              ∙ halted_of-push same plan workers events.items (event.Claim w id));
          any_is = b.any_is ∙ sym (ap has_halted items
              ∙ list_any-push is_halt events.items (event.Claim w id) ∙ or_false _);
          room = room;
        }

    pub board_finish : (w : ℕ) (id : Id) → slice_get (out_of workers events.items) w
        ≡ Some (Some id) → (value : Plain V) (added : List (Spec Id))
        → IsOutcomeOf same plan id (record { value = value; added = added })
        → (after : Vec (Event Id) Global) → after.items ≡ events.items ++ event.Finish w id ∷ []
        → vec_len after + count_by not halted ≤ vec_capacity after
        → IsBoard same plan workers after (record
        { jobs = state.jobs ++ added; values = state.values ++ (id, value) ∷ [] })
        (slice_set outs w None) halted any
    board_finish w id out value added o after items room =
        let now = state_of same plan events.items in
        let g : Grows same plan workers lawful now (out_of workers events.items)
        = grows same plan workers lawful events.items b.legal in
        let it : IsOut same plan workers lawful now id = g.out w id out in
        let last = limit same plan in
        let w_by : Within same plan it.by last = below_limit same plan lawful it.by it.by_grown in
        let is_job : o.job ≡ it.job = (limit_orderly same plan lawful).one o.job it.job
        (In-from_Contains last.jobs o.job o.added) (w_by.jobs it.job it.there)
        (o.named ∙ sym it.named) in
        let agree : ◌≡◌ {A = PlainOutcome V Id} (record { value = value; added = added })
        (outcome_in same plan it.by it.job) = o.is ∙ ap (outcome_in same plan last) is_job
        ∙ sym (outcome_within same plan it.by last w_by it.job
        (ready_reads same plan it.by it.job it.ready)) in
        let jobs : state.jobs ++ added ≡ now.jobs
        ++ ((outcome_in same plan it.by it.job).added ++ []) = λ i. (b.state_is i).jobs
        ++ (ap (λ u. u.added) agree ∙ sym (nil_append _)) i in
        let values : state.values ++ (id, value) ∷ []
        ≡ now.values ++ (it.job.id, (outcome_in same plan it.by it.job).value)
        ∷ [] = λ i. (b.state_is i).values ++ (sym it.named i, (agree i).value) ∷ [] in
        let settled : ◌≡◌ {A = State Id V} (record
        { jobs = state.jobs ++ added; values = state.values ++ (id, value) ∷ [] })
        (settle same plan it.by now it.job) = λ i. record { jobs = jobs i; values = values i }
        in
        let allowed : is_allowed same plan workers events.items (event.Finish w id)
        ≡ true = ap (has_out same id) out ∙ (lawful.identity id id).1 refl in
        record {
          legal = ap (is_run same plan workers) items
              ∙ is_run-push same plan workers events.items (event.Finish w id) b.legal allowed;
          state_is = settled ∙ sym (ap (state_of same plan) items
              ∙ state_of-push same plan workers events.items (event.Finish w id)
              ∙ finish_is same plan workers lawful now g.grown_state id it);
          outs_are = ap (λ os. slice_set os w None) b.outs_are
              ∙ sym (ap (out_of workers) items ∙ out_of-push same plan workers events.items
              (event.Finish w id));
          halted_are = b.halted_are ∙ sym (ap (halted_of workers) items
              ∙ halted_of-push same plan workers events.items (event.Finish w id));
          any_is = b.any_is ∙ sym (ap has_halted items
              ∙ list_any-push is_halt events.items (event.Finish w id) ∙ or_false _);
          room = room;
        }

    pub flag_is : (w : ℕ) → w < workers → slice_get halted w
        ≡ Some (list_any (is_halt_of w) events.items)
    flag_is w lt = ap (λ hs. slice_get hs w) b.halted_are
        ∙ halted_flag same plan workers w lt events.items b.legal

    pub length_outs : length outs ≡ workers
    length_outs = ap length b.outs_are ∙ length-out_of workers events.items

    pub flag_index : (w : ℕ) → w < workers → w < length halted
    flag_index w lt = slice_get_within halted w _ (flag_is w lt)

    pub out_index : (w : ℕ) → w < workers → w < length outs
    out_index w lt = omega (arith, length_outs)

    pub out_within : (w : ℕ) (x : Option Id) → slice_get (out_of workers events.items) w ≡ Some x
        → w < length outs
    out_within w x e = subst (λ os. w < length os) (sym b.outs_are)
        (slice_get_within (out_of workers events.items) w x e)

    pub flag_says : (w : ℕ) → w < workers → (x y : Bool) → x ≡ get_or halted w x → x ≡ y
        → slice_get halted w ≡ Some y
    flag_says w lt x y e is = slice_get-get_or halted w x
        (slice_get_within halted w _ (flag_is w lt)) ∙ ap Some (sym e ∙ is)

    pub halted_before : (w : ℕ) → w < workers → (x y : Bool) → x ≡ get_or halted w x → x ≡ y
        → list_any (is_halt_of w) events.items ≡ y
    halted_before w lt x y e is = same_flag _ _ (sym (flag_is w lt) ∙ flag_says w lt x y e is)

    pub ends_ready : any ≡ false → some_ready same plan state ≡ true
        → end_of same plan workers events.items ≡ Running
    ends_ready no_halt more = runs_is _ _ _ (sym b.any_is ∙ no_halt)
        (sym (ap (some_ready same plan) b.state_is) ∙ more)

    pub ends_out : any ≡ false → 0 < count_by is_some outs
        → end_of same plan workers events.items ≡ Running
    ends_out no_halt some = out_is _ _ _ (sym b.any_is ∙ no_halt) (false_from_ne_true _ (λ t.
        let n : running workers events.items ≡ 0 = eqb-true _ _ t in
        let m = ap (count_by is_some) b.outs_are in absurd (omega arith)))

    pub ends_over : any ≡ false → some_ready same plan state ≡ false → count_by is_some outs ≡ 0
        → end_of same plan workers events.items ≡ Ended
    ends_over no_halt over none = end_is _ _ _ (sym b.any_is ∙ no_halt)
        (sym (ap (some_ready same plan) b.state_is) ∙ over)
        (eq-eqb (running workers events.items) 0 (sym (ap (count_by is_some) b.outs_are) ∙ none))

    pub room_for_halt : (w : ℕ) → slice_get halted w ≡ Some false
        → vec_len events < vec_capacity events
    room_for_halt w e = let s = halts-set halted w e in let r = b.room in omega arith

    pub board_halt : (w : ℕ) → w < workers → slice_get halted w ≡ Some false
        → (after : Vec (Event Id) Global) → after.items ≡ events.items ++ event.Halt w ∷ []
        → vec_len after ≡ vec_len events + 1 → vec_capacity after ≡ vec_capacity events
        → IsBoard same plan workers after state (slice_set outs w None) (slice_set halted w true)
        true
    board_halt w lt e after items len cap =
        let flag : list_any (is_halt_of w) events.items
        ≡ false = same_flag _ _ (sym (flag_is w lt) ∙ e) in
        record {
          legal = ap (is_run same plan workers) items
              ∙ is_run-push same plan workers events.items (event.Halt w) b.legal
              (and_from _ _ (lt-ltb w workers lt) (not_from_false _ flag));
          state_is = b.state_is ∙ sym (ap (state_of same plan) items
              ∙ state_of-push same plan workers events.items (event.Halt w));
          outs_are = ap (λ os. slice_set os w None) b.outs_are
              ∙ sym (ap (out_of workers) items ∙ out_of-push same plan workers events.items
              (event.Halt w));
          halted_are = ap (λ hs. slice_set hs w true) b.halted_are
              ∙ sym (ap (halted_of workers) items
              ∙ halted_of-push same plan workers events.items (event.Halt w));
          any_is = sym (ap has_halted items ∙ list_any-push is_halt events.items (event.Halt w)
              ∙ or_right _ _ refl);
          room = (let s = halts-set halted w e in let r = b.room in omega arith);
        }

    -- what a claim hands out
    pub hands_out : (id : Id) (job : Spec Id) → In job state.jobs
        → is_claimable same plan state events.items job ≡ true → job.id ≡ id
        → (reads : List (Id × Plain V)) → reads ≡ reads_in same state job.access.reads
        → HandsOut same plan events.items id reads
    hands_out id job there ok named reads is =
        let n = next_is job there ok in
        let now = state_of same plan events.items in
        let last = limit same plan in
        let w : Within same plan now last = within_limit same plan workers lawful events.items
        b.legal in
        let settled = ready_reads same plan now job n.1 in
        let here : reads ≡ reads_in same now job.access.reads = is
        ∙ ap (λ s. reads_in same s job.access.reads) b.state_is in
        record {
          job = job;
          added = Contains-from_In now.jobs job n.0;
          named = named;
          ready = n.1;
          new = subst (λ k. was_claimed same events.items k ≡ false) named n.2;
          reads_are = here;
          due = record {
            job = job;
            added = Contains-from_In last.jobs job (w.jobs job n.0);
            named = named;
            settled = all_settled_within same plan now last w job.access.reads settled;
            reads_are = here ∙ reads_agree same plan now last job.access.reads settled
                (λ k x i v. w.values k x v);
          };
        }

    pub none_claimable : list_any (is_claimable same plan state events.items) state.jobs ≡ false
        → some_claimable same plan events.items ≡ false
    none_claimable e = subst (λ s. list_any (is_claimable same plan s events.items) s.jobs ≡ false)
        b.state_is e

    -- while nobody halted, a job was claimed exactly where it is settled or out
    claimed_taken : any ≡ false → (id : Id) → was_claimed same events.items id ≡ true
        → is_taken same state outs id ≡ true
    claimed_taken no_halt id c =
        elim ((owned same plan workers lawful events.items b.legal).live
        (sym b.any_is ∙ no_halt) id c) [
          | inl s ↦ or_left _ _ (ap (λ t. is_settled same t id) b.state_is ∙ s)
          | inr w ↦ or_right (is_settled same state id) _
              (any_at (is_out_of same id) outs w.0 (Some id)
              (ap (λ os. slice_get os w.0) b.outs_are ∙ w.1) ((lawful.identity id id).1 refl))
        ]

    out_claimed : (out : Option Id) (id : Id) → In out outs → is_out_of same id out ≡ true
        → was_claimed same events.items id ≡ true
    out_claimed None id here is = absurd (false≢true is)
    out_claimed (Some job) id here is =
        let at = get_of_In outs (Some job) here in
        subst (λ k. was_claimed same events.items k ≡ true) ((lawful.identity job id).0 is)
        ((owned same plan workers lawful events.items b.legal).claimed at.0 job
        (sym (ap (λ os. slice_get os at.0) b.outs_are) ∙ at.2))

    taken_claimed : (id : Id) → is_taken same state outs id ≡ true
        → was_claimed same events.items id ≡ true
    taken_claimed id t =
        elim (or_cases _ _ t) [
          | inl s ↦ (owned same plan workers lawful events.items b.legal).settled_claimed id
              (sym (ap (λ t. is_settled same t id) b.state_is) ∙ s)
          | inr o ↦ (let f = list_any-found (is_out_of same id) outs o
              in out_claimed f.0 id f.1 f.2)
        ]

    -- an id has one job
    pub one_job : (i j : ℕ) (job other : Spec Id) → slice_get state.jobs i ≡ Some job
        → slice_get state.jobs j ≡ Some other → job.id ≡ other.id → job ≡ other
    one_job i j job other at there e =
        let w = within_limit same plan workers lawful events.items b.legal in
        (limit_orderly same plan lawful).one job other
        (w.jobs job (subst (λ s. In job s.jobs) b.state_is (slice_get-In state.jobs i job at)))
        (w.jobs other (subst (λ s. In other s.jobs) b.state_is
        (slice_get-In state.jobs j other there))) e

    -- a job that is ready and not taken can be claimed
    pub claimable : any ≡ false → (job : Spec Id) → is_ready same plan state job ≡ true
        → is_taken same state outs job.id ≡ false
        → is_claimable same plan state events.items job ≡ true
    claimable no_halt job ready free = and_from _ _ ready (not_from_false _ (false_from_ne_true _
        (λ c. false≢true (sym free ∙ claimed_taken no_halt job.id c))))

    -- where no such job is left, none can be claimed
    pub left_none : IsNoneLeft same plan state outs
        → list_any (is_claimable same plan state events.items) state.jobs ≡ false
    left_none none = false_from_ne_true _ (λ t.
        let f = list_any-found (is_claimable same plan state events.items) state.jobs t in
        let p = and_parts (is_ready same plan state f.0) _ f.2 in
        none f.0 f.1 p.0 (false_from_ne_true _
        (λ u. false≢true (sym (not-true _ p.1) ∙ taken_claimed (f.0).id u))))

    -- the least of the jobs that are ready and not taken is the least that can be claimed
    pub least_claimable : (order : Id → Id → Ordering) → IsTotalOrder order → (id : Id)
        → IsLeastLeft same order plan state outs id → IsLeast same plan order events.items id
    least_claimable order total id least job there ok =
        let now = state_of same plan events.items in
        let p = and_parts (is_ready same plan now job) (not (was_claimed same events.items job.id))
        ok in
        let here : In job state.jobs = subst (λ s. In job s.jobs) (sym b.state_is)
        (In-from_Contains now.jobs job there) in
        let ready : is_ready same plan state job
        ≡ true = subst (λ s. is_ready same plan s job ≡ true) (sym b.state_is) p.0 in
        let free : is_taken same state outs job.id ≡ false = false_from_ne_true _
        (λ u. false≢true (sym (not-true _ p.1) ∙ taken_claimed job.id u)) in
        ap is_lt (total.antisymm job.id id)
        ∙ not_below_back (order id job.id) (least job here ready free)

    -- where nothing is left to claim and nothing runs, all is over
    pub has_ended : any ≡ false
        → list_any (is_claimable same plan state events.items) state.jobs ≡ false
        → count_by is_some outs ≡ 0 → end_of same plan workers events.items ≡ Ended
    has_ended no_halt e none =
        let now = state_of same plan events.items in
        let nobody : has_halted events.items ≡ false = sym b.any_is ∙ no_halt in
        let stands : running workers events.items ≡ 0 = sym (ap (count_by is_some) b.outs_are)
        ∙ none in
        let over : some_ready same plan now ≡ false = false_from_ne_true _ (λ t.
        let f = list_any-found (is_ready same plan now) now.jobs t in
        let unclaimed = none_claimable e in
        elim (cases_Bool (was_claimed same events.items (f.0).id)) [
          | inl c ↦ false≢true (sym (ready_unsettled same plan now f.0 f.2)
              ∙ claimed_runs same plan workers lawful events.items b.legal nobody stands (f.0).id c)
          | inr c ↦ false≢true (sym unclaimed ∙ list_any-In
              (is_claimable same plan now events.items) now.jobs f.0 f.1
              (and_from _ _ f.2 (not_from_false _ c)))
        ]) in
        end_is _ _ _ nobody over (eq-eqb (running workers events.items) 0 stands)

    -- what is settled is settled so in the limit
    pub settled_is : (id : Id) (x : Plain V) → value_in same state id ≡ Some x
        → value_in same (limit same plan) id ≡ Some x
    settled_is id x e = (history_of same plan workers lawful events.items b.legal).values id x
        (sym (ap (λ s. value_in same s id) b.state_is) ∙ e)

    -- a board that has ended tells the limit's values and stuck jobs
    pub ended_values : end_of same plan workers events.items ≡ Ended → (id : Id)
        → value_in same state id ≡ value_in same (limit same plan) id
    ended_values e id = ap (λ s. value_in same s id) b.state_is
        ∙ (complete_of_end same plan workers lawful events.items b.legal e).values id

    pub ended_stuck : end_of same plan workers events.items ≡ Ended → (id : Id)
        → is_unsettled_job same state id ≡ is_unsettled_job same (limit same plan) id
    ended_stuck e id = ap (λ s. is_unsettled_job same s id) b.state_is
        ∙ (complete_of_end same plan workers lawful events.items b.legal e).stuck id

  pub new_history : IsLawful same plan → (events : List (Event Id)) → events ≡ []
      → IsHistory same plan workers events
  new_history lawful events e = history_of same plan workers lawful events
      (ap (is_run same plan workers) e)

  pub board_history : IsLawful same plan → (events : Vec (Event Id) Global) (state : State Id V)
      (outs : List (Option Id)) (halted : List Bool) (any : Bool)
      → IsBoard same plan workers events state outs halted any
      → IsHistory same plan workers events.items
  board_history lawful events state outs halted any b
      = history_of same plan workers lawful events.items b.legal

-- the board after a finish, by its lists
pub board_finish_lists : {Id V : Type 0} (same : Id → Id → Bool) (plan : Meaning Id V) (workers : ℕ)
    (lawful : IsLawful same plan) (events : Vec (Event Id) Global) (jobs : List (Spec Id))
    (values : List (Id × Plain V)) (outs : List (Option Id)) (halted : List Bool) (any : Bool)
    → IsBoard same plan workers events (state_from jobs values) outs halted any → (w : ℕ) (id : Id)
    → slice_get (out_of workers events.items) w ≡ Some (Some id)
    → (value : Plain V) (added : List (Spec Id))
    → IsOutcomeOf same plan id (record { value = value; added = added }) → (k : Id) → k ≡ id
    → (after : Vec (Event Id) Global) → after.items ≡ events.items ++ event.Finish w k ∷ []
    → vec_len after + count_by not halted ≤ vec_capacity after
    → (jobs' : List (Spec Id)) (values' : List (Id × Plain V)) → jobs' ≡ jobs ++ added
    → values' ≡ values ++ (k, value) ∷ [] → IsBoard same plan workers after
    (state_from jobs' values') (slice_set outs w None) halted any
board_finish_lists {Id} {V} same plan workers lawful events jobs values outs halted any b w id out
    value added o k named after items room jobs' values' js vs =
    let now : values' ≡ values ++ (id, value) ∷ [] = vs
    ∙ ap (λ (j : Id). values ++ (j, value) ∷ []) named in
    let is : ◌≡◌ {A = State Id V} (record {
      jobs = jobs ++ added;
      values = values ++ (id, value)
          ∷ [];
    }) (state_from jobs' values') = λ i. record { jobs = sym js i; values = sym now i } in
    subst (λ s. IsBoard same plan workers after s (slice_set outs w None) halted any) is
    (board_finish same plan workers lawful events (state_from jobs values) outs halted any b w id
    out value added o after (items ∙ ap (λ (j : Id). events.items ++ event.Finish w j ∷ [])
    named) room)

-- a job that is out isn't settled
pub out_unsettled : {Id V : Type 0} (same : Id → Id → Bool) (plan : Meaning Id V) (workers : ℕ)
    (lawful : IsLawful same plan) (events : Vec (Event Id) Global) (jobs : List (Spec Id))
    (values : List (Id × Plain V)) (outs : List (Option Id)) (halted : List Bool) (any : Bool)
    → IsBoard same plan workers events (state_from jobs values) outs halted any → (w : ℕ) (id : Id)
    → slice_get (out_of workers events.items) w ≡ Some (Some id) → (k : Id) → k ≡ id
    → is_settled same (state_from jobs values) k ≡ false
out_unsettled same plan workers lawful events jobs values outs halted any b w id out k named =
    subst (λ s. is_settled same s k ≡ false) (sym b.state_is)
    (subst (λ j. is_settled same (state_of same plan events.items) j ≡ false) (sym named)
    ((owned same plan workers lawful events.items b.legal).unsettled w id out))

-- the same board, by its lists
pub board_kept : {Id V : Type 0} (same : Id → Id → Bool) (plan : Meaning Id V) (workers : ℕ)
    (events : Vec (Event Id) Global) (jobs : List (Spec Id)) (values : List (Id × Plain V))
    (outs : List (Option Id)) (halted : List Bool) (any : Bool)
    → IsBoard same plan workers events (state_from jobs values) outs halted any
    → (after : Vec (Event Id) Global) → after.items ≡ events.items
    → vec_len after + count_by not halted ≤ vec_capacity after
    → (jobs' : List (Spec Id)) (values' : List (Id × Plain V)) → jobs' ≡ jobs → values' ≡ values
    → IsBoard same plan workers after (state_from jobs' values') outs halted any
board_kept {Id} {V} same plan workers events jobs values outs halted any b after items room jobs'
    values' js vs =
    let is : ◌≡◌ {A = State Id V} (state_from jobs values) (state_from jobs' values')
    = λ i. state_from (sym js i) (sym vs i) in
    board_same same plan workers events after (state_from jobs' values') outs halted any
    (subst (λ s. IsBoard same plan workers events s outs halted any) is b) items room

-- views of one board
pub same_workers : {P Id : Type 0} (x y : BoardView P Id) → x ≡ y → x.workers ≡ y.workers
same_workers {P} {Id} x y e = ap (λ (v : BoardView P Id). v.workers) e

pub same_events : {P Id : Type 0} (x y : BoardView P Id) → x ≡ y → x.events ≡ y.events
same_events {P} {Id} x y e = ap (λ (v : BoardView P Id). v.events) e

-- one more event
pub view_push : {P Id : Type 0} (x v : BoardView P Id) (e : Event Id) (new : List (Event Id))
    → x ≡ v → new ≡ x.events ++ e ∷ [] → ◌≡◌ {A = BoardView P Id}
    (record { plan = x.plan; workers = x.workers; events = new })
    (record { plan = v.plan; workers = v.workers; events = v.events ++ e ∷ [] })
view_push {P} {Id} x v e new is n =
    let events : new ≡ v.events ++ e ∷ [] = n ∙ ap (λ (u : BoardView P Id). u.events ++ e ∷ []) is
    in
    λ i. record { plan = (is i).plan; workers = (is i).workers; events = events i }

pub view_same : {P Id : Type 0} (x v : BoardView P Id) (new : List (Event Id)) → x ≡ v
    → new ≡ x.events → ◌≡◌ {A = BoardView P Id}
    (record { plan = x.plan; workers = x.workers; events = new }) v
view_same {P} {Id} x v new is n =
    let events : new ≡ v.events = n ∙ ap (λ (u : BoardView P Id). u.events) is in
    λ i. record { plan = (is i).plan; workers = (is i).workers; events = events i }

pub chosen_first : {X : Type 0} (b : Bool) (x y z : X) → b ≡ true → z ≡ x → z ≡ cond b x y
chosen_first b x y z e is = is ∙ sym (ap (λ c. cond c x y) e)

pub chosen_second : {X : Type 0} (b : Bool) (x y z : X) → b ≡ false → z ≡ y → z ≡ cond b x y
chosen_second b x y z e is = is ∙ sym (ap (λ c. cond c x y) e)

-- what a flag that was read says
pub flag_read : (flags : List Bool) (w : ℕ) (x y : Bool) → w < length flags → x ≡ get_or flags w x
    → x ≡ y → slice_get flags w ≡ Some y
flag_read flags w x y lt e is = slice_get-get_or flags w x lt ∙ ap Some (sym e ∙ is)

pub some_same : (x y : Bool) (o : Option Bool) → o ≡ Some x → o ≡ Some y → x ≡ y
some_same x y o e f = same_flag x y (sym e ∙ f)

-- what is said of the value that a search may find
pub if_some : {X Y : Type 0} (o : Option X) (f : X → Y) (P : Y → Type 0) (v : Option Y)
    → option_map f o ≡ v → ((y : Y) → v ≡ Some y → P y) → IfSome o (λ x. P (f x))
if_some None f P v e h = tt
if_some (Some x) f P v e h = h (f x) (sym e)

-- what `&&` answers of a job that is there, and of one that isn't
pub stuck_there : (there settled found : Bool) → there ≡ true → settled ≡ found
    → not settled ≡ (there && not found)
stuck_there true settled found e is = ap not is
stuck_there false settled found e is = absurd (false≢true e)

pub stuck_absent : (answer there found : Bool) → answer ≡ false → answer ≡ there
    → answer ≡ (there && not found)
stuck_absent answer true found e is = absurd (false≢true (sym e ∙ is))
stuck_absent answer false found e is = e
