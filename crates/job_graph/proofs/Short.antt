-- A history is short: at most a claim and a finish for each id of the universe, and a halt for each
-- worker.
use Rattle.std.proofs.Common.{◌≡◌, ℕ, ◌+◌, ◌*◌, ◌<◌, ◌≤◌, Bool, true, false, not, List, [], ◌∷◌}
use Rattle.std.proofs.Common.{◌++◌, length, replicate, Some, refl, sym, ap, ◌∙◌, subst, arith}
use Rattle.std.specs.Prelude.{slice_get, slice_set, count_by}
use Rattle.std.specs.List.{list_any}
use Rattle.std.proofs.lemmas.Bool.{and_parts, or_left, or_right, not-true, ltb-true}
use Rattle.std.proofs.lemmas.List.{length-append, length-replicate}
use Rattle.std.proofs.lemmas.List.Sums.{count_by-le-length}
use Rattle.access_context.specs.declared.access.Spec.{Spec}
use Rattle.job_graph.specs.declared.event.Event.{Event}
use Rattle.job_graph.specs.declared.event.Event.TheVariants as event
use Rattle.job_graph.specs.Meaning.{Meaning}
use Rattle.job_graph.specs.Rounds.{limit}
use Rattle.job_graph.specs.Laws.{IsLawful}
use Rattle.job_graph.specs.Histories.{is_claim_of, is_finish_of, was_claimed, was_finished, out_of}
use Rattle.job_graph.specs.Histories.{state_of, is_allowed, is_run}
use Rattle.job_graph.specs.BoardBody.{halted_of}
use Rattle.job_graph.specs.Members.{In, In-from_Contains, Contains-from_In, list_any-found}
use Rattle.job_graph.specs.Limit.{counted, count_more, count_one_more, count_all, below_limit}
use Rattle.job_graph.proofs.Run.{may_claim, has_out_is, run_induction, IsOut, Grows, grows}
use Rattle.job_graph.proofs.Owned.{list_any-push, Owned, owned}
use Rattle.job_graph.proofs.Halts.{halts-set, halted_of-push, halted_flag}

module _ {Id V : Type 0} (same : Id → Id → Bool) (plan : Meaning Id V) (workers : ℕ)
    (lawful : IsLawful same plan) where
  -- the ids of the limit's jobs are in the universe
  in_universe : (job : Spec Id) → In job (limit same plan).jobs → In job.id plan.universe
  unfolding limit
  in_universe job i = In-from_Contains plan.universe job.id
      (lawful.in_universe (length plan.universe) job
      (Contains-from_In (limit same plan).jobs job i))

  -- what an event adds to a test of ids
  still : (p : Id → Event Id → Bool) (events : List (Event Id)) (e : Event Id) (id : Id)
      → list_any (p id) events ≡ true → list_any (p id) (events ++ e ∷ []) ≡ true
  still p events e id h = list_any-push (p id) events e ∙ or_left _ _ h

  now : (p : Id → Event Id → Bool) (events : List (Event Id)) (e : Event Id) (id : Id)
      → p id e ≡ true → list_any (p id) (events ++ e ∷ []) ≡ true
  now p events e id h = list_any-push (p id) events e ∙ or_right _ _ h

  -- how many ids have been claimed, and finished, and how many workers haven't halted
  abbrev claims : List (Event Id) → ℕ
  claims events = counted (λ id. was_claimed same events id) plan.universe

  abbrev finishes : List (Event Id) → ℕ
  finishes events = counted (λ id. was_finished same events id) plan.universe

  abbrev left : List (Event Id) → ℕ
  left events = count_by not (halted_of workers events)

  claims_grow : (events : List (Event Id)) (e : Event Id)
      → claims events ≤ claims (events ++ e ∷ [])
  claims_grow events e = count_more (λ id. was_claimed same events id)
      (λ id. was_claimed same (events ++ e ∷ []) id) plan.universe
      (λ id h. still (is_claim_of same) events e id h)

  finishes_grow : (events : List (Event Id)) (e : Event Id)
      → finishes events ≤ finishes (events ++ e ∷ [])
  finishes_grow events e = count_more (λ id. was_finished same events id)
      (λ id. was_finished same (events ++ e ∷ []) id) plan.universe
      (λ id h. still (is_finish_of same) events e id h)

  IsShort : List (Event Id) → Type 0
  IsShort events = length events + left events ≤ claims events + (finishes events + workers)

  one_longer : (events : List (Event Id)) (e : Event Id)
      → length (events ++ e ∷ []) ≡ length events + 1
  one_longer events e = length-append events (e ∷ [])

  short_after : (events : List (Event Id)) (e : Event Id) → is_run same plan workers events ≡ true
      → is_allowed same plan workers events e ≡ true → IsShort events → IsShort (events ++ e ∷ [])
  unfolding IsShort
  short_after events (event.Claim w id) r a old =
      let e = event.Claim w id in
      let state = state_of same plan events in
      let m = may_claim same plan workers events w id a in
      let f = list_any-found _ state.jobs m.ready in
      let named : (f.0).id ≡ id = (lawful.identity (f.0).id id).0 (and_parts _ _ f.2).0 in
      let g : Grows same plan workers lawful state (out_of workers events)
      = grows same plan workers lawful events r in
      let known : In id plan.universe = subst (λ k. In k plan.universe) named
      (in_universe f.0 ((below_limit same plan lawful state g.grown_state).jobs f.0 f.1)) in
      let more : claims events < claims (events ++ e ∷ [])
      = count_one_more (λ k. was_claimed same events k)
      (λ k. was_claimed same (events ++ e ∷ []) k) plan.universe
      (λ k h. still (is_claim_of same) events e k h) id known m.new
      (now (is_claim_of same) events e id ((lawful.identity id id).1 refl)) in
      let no_less = finishes_grow events e in
      let halts : left (events ++ e ∷ []) ≡ left events
      = ap (count_by not) (halted_of-push same plan workers events e) in
      let longer = one_longer events e in
      omega arith
  short_after events (event.Finish w id) r a old =
      let e = event.Finish w id in
      let state = state_of same plan events in
      let outs = out_of workers events in
      let h = has_out_is same id (slice_get outs w) a in
      let is_id : h.0 ≡ id = (lawful.identity h.0 id).0 h.2 in
      let out : slice_get outs w ≡ Some (Some id) = h.1 ∙ ap (λ k. Some (Some k)) is_id in
      let g : Grows same plan workers lawful state outs = grows same plan workers lawful events r in
      let o : Owned same plan workers lawful state outs events
      = owned same plan workers lawful events r in
      let it : IsOut same plan workers lawful state id = g.out w id out in
      let known : In id plan.universe = subst (λ k. In k plan.universe) it.named
      (in_universe it.job ((below_limit same plan lawful it.by it.by_grown).jobs it.job
      it.there)) in
      let new : was_finished same events id ≡ false = sym (o.finished id) ∙ o.unsettled w id out in
      let more : finishes events < finishes (events ++ e ∷ [])
      = count_one_more (λ k. was_finished same events k)
      (λ k. was_finished same (events ++ e ∷ []) k) plan.universe
      (λ k h. still (is_finish_of same) events e k h) id known new
      (now (is_finish_of same) events e id ((lawful.identity id id).1 refl)) in
      let no_less = claims_grow events e in
      let halts : left (events ++ e ∷ []) ≡ left events
      = ap (count_by not) (halted_of-push same plan workers events e) in
      let longer = one_longer events e in
      omega arith
  short_after events (event.Halt w) r a old =
      let e = event.Halt w in
      let p = and_parts _ _ a in
      let flag : slice_get (halted_of workers events) w
      ≡ Some false = halted_flag same plan workers w (ltb-true _ _ p.0) events r
      ∙ ap Some (not-true _ p.1) in
      let halts : left (events ++ e ∷ []) ≡ count_by not
      (slice_set (halted_of workers events) w true)
      = ap (count_by not) (halted_of-push same plan workers events e) in
      let fewer = halts-set (halted_of workers events) w flag in
      let claimed = claims_grow events e in
      let finished = finishes_grow events e in
      let longer = one_longer events e in
      omega arith

  short_first : IsShort []
  unfolding IsShort
  short_first =
      let few = count_by-le-length not (replicate workers false) in
      let n = length-replicate workers false in
      omega arith

  pub short_of : (events : List (Event Id)) → is_run same plan workers events ≡ true
      → length events ≤ 2 * length plan.universe + workers
  unfolding IsShort
  short_of events r =
      let s : length events + left events ≤ claims events
      + (finishes events + workers) = run_induction same plan workers IsShort short_first
      short_after events r in
      let c = count_all (λ id. was_claimed same events id) plan.universe in
      let f = count_all (λ id. was_finished same events id) plan.universe in
      omega arith
