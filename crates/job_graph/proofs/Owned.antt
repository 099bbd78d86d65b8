-- Who has which job in a legal history: each job is claimed once and finished once.
use Rattle.std.proofs.Common.{◌≡◌, ℕ, ◌+◌, Bool, true, false, ◌||◌, ◌⊎◌, inl, inr, List, [], ◌∷◌}
use Rattle.std.proofs.Common.{◌++◌, Option, Some, None, is_some, refl, sym, ap, ◌∙◌, subst, cond}
use Rattle.std.proofs.Common.{arith}
use Rattle.std.specs.Prelude.{slice_get, slice_set, count_by}
use Rattle.std.specs.List.{list_any}
use Rattle.std.proofs.lemmas.Bool.{or_cases, or_left, or_right, or_from, false≢true, cases_Bool}
use Rattle.std.proofs.lemmas.Bool.{false_from_ne_true}
use Rattle.std.proofs.lemmas.List.Sums.{fold-append}
use Rattle.access_context.specs.declared.access.Spec.{Spec}
use Rattle.access_context.specs.Read.{read_of}
use Rattle.job_graph.specs.declared.event.Event.{Event}
use Rattle.job_graph.specs.declared.event.Event.TheVariants as event
use Rattle.job_graph.specs.Meaning.{Meaning}
use Rattle.job_graph.specs.Rounds.{State, is_settled, outcome_in}
use Rattle.job_graph.specs.Laws.{IsLawful}
use Rattle.job_graph.specs.Histories.{is_halt, has_halted, out_after, out_of, is_claim_of}
use Rattle.job_graph.specs.Histories.{is_finish_of, was_claimed, was_finished, state_after}
use Rattle.job_graph.specs.Histories.{state_of, is_allowed, is_run}
use Rattle.job_graph.specs.Growth.{none≢some, settle}
use Rattle.job_graph.proofs.Run.{get_set_cases, get_set_same, get_set_other, may_claim, has_out_is}
use Rattle.job_graph.proofs.Run.{run_induction, state_of-push, out_of-push, IsOut, Grows, grows}
use Rattle.job_graph.proofs.Run.{finish_is, none_out}

pub or_false : (b : Bool) → (b || false) ≡ b
or_false true = refl
or_false false = refl

pub list_any-push : {X : Type 0} (p : X → Bool) (xs : List X) (x : X)
    → list_any p (xs ++ x ∷ []) ≡ (list_any p xs || p x)
list_any-push p [] x = or_false (p x)
list_any-push p (y ∷ xs) x =
    elim (p y) as (λ b. (b || list_any p (xs ++ x ∷ [])) ≡ ((b || list_any p xs) || p x)) [
      | true ↦ refl
      | false ↦ list_any-push p xs x
    ]

pub count_by-push : {X : Type 0} (p : X → Bool) (xs : List X) (x : X)
    → count_by p (xs ++ x ∷ []) ≡ count_by p xs + cond (p x) 1 0
count_by-push p xs x = fold-append (λ a y. a + cond (p y) 1 0) 0 xs (x ∷ [])

settled-push : {Id X : Type 0} (same : Id → Id → Bool) (xs : List (Id × X)) (k : Id) (v : X)
    (id : Id) → is_some (read_of same (xs ++ (k, v) ∷ []) id)
    ≡ (is_some (read_of same xs id) || same k id)
settled-push same [] k v id = elim (same k id) as (λ b. is_some (cond b (Some v) None) ≡ b)
    [ true ↦ refl | false ↦ refl ]
settled-push same (x ∷ xs) k v id =
    elim (same x.0 id) as (λ b. is_some (cond b (Some x.1) (read_of same (xs ++ (k, v) ∷ []) id))
    ≡ (is_some (cond b (Some x.1) (read_of same xs id)) || same k id)) [
      | true ↦ refl
      | false ↦ settled-push same xs k v id
    ]

some_none : {X : Type 0} (x : X) → ◌≡◌ {A = Option (Option X)} (Some None) (Some (Some x)) → ⊥
some_none x e = cc

free_not_out : {X : Type 0} (outs : List (Option X)) (v w : ℕ) (x : X)
    → slice_get outs v ≡ Some None → slice_get outs w ≡ Some (Some x) → v ≡ w → ⊥
free_not_out outs v w x free out at = some_none x (sym free ∙ ap (slice_get outs) at ∙ out)

same_some : {X : Type 0} (x y : X) → ◌≡◌ {A = Option (Option X)} (Some (Some x)) (Some (Some y))
    → x ≡ y
same_some x y e = cc

same_out : {X : Type 0} (outs : List (Option X)) (v w : ℕ) (x y : X)
    → slice_get outs v ≡ Some (Some x) → slice_get outs w ≡ Some (Some y) → v ≡ w → x ≡ y
same_out outs v w x y out out' at = same_some x y (sym out ∙ ap (slice_get outs) at ∙ out')

-- a count of one thing that happened, or of none
once : (n : ℕ) (was is : Bool) → n ≡ cond was 1 0 → (is ≡ true → was ≡ false)
    → n + cond is 1 0 ≡ cond (was || is) 1 0
once n true true e new = absurd (false≢true (sym (new refl)))
once n true false e new = omega arith
once n false true e new = omega arith
once n false false e new = omega arith

module _ {Id V : Type 0} (same : Id → Id → Bool) (plan : Meaning Id V) (workers : ℕ)
    (lawful : IsLawful same plan) where
  pub record Owned (state : State Id V) (outs : List (Option Id)) (events : List (Event Id))
      : Type 0 where
    -- a job that is out isn't settled, is out once, and was claimed
    pub unsettled : (w : ℕ) (id : Id) → slice_get outs w ≡ Some (Some id)
        → is_settled same state id ≡ false
    pub one : (v w : ℕ) (id : Id) → slice_get outs v ≡ Some (Some id)
        → slice_get outs w ≡ Some (Some id) → v ≡ w
    pub claimed : (w : ℕ) (id : Id) → slice_get outs w ≡ Some (Some id)
        → was_claimed same events id ≡ true
    pub settled_claimed : (id : Id) → is_settled same state id ≡ true
        → was_claimed same events id ≡ true
    -- what is settled was finished
    pub finished : (id : Id) → is_settled same state id ≡ was_finished same events id
    pub claims : (id : Id) → count_by (is_claim_of same id) events
        ≡ cond (was_claimed same events id) 1 0
    pub finishes : (id : Id) → count_by (is_finish_of same id) events
        ≡ cond (was_finished same events id) 1 0
    -- while nobody halted, a claimed job is out or settled
    pub live : has_halted events ≡ false → (id : Id) → was_claimed same events id ≡ true
        → (is_settled same state id ≡ true) ⊎ ((w : ℕ) × (slice_get outs w ≡ Some (Some id)))

  module _ (events : List (Event Id)) where
    claimed-push : (e : Event Id) (id : Id)
        → was_claimed same (events ++ e ∷ []) id
        ≡ (was_claimed same events id || is_claim_of same id e)
    claimed-push e id = list_any-push (is_claim_of same id) events e

    finished-push : (e : Event Id) (id : Id)
        → was_finished same (events ++ e ∷ []) id
        ≡ (was_finished same events id || is_finish_of same id e)
    finished-push e id = list_any-push (is_finish_of same id) events e

    claimed_still : (e : Event Id) (id : Id) → was_claimed same events id ≡ true
        → was_claimed same (events ++ e ∷ []) id ≡ true
    claimed_still e id h = claimed-push e id ∙ or_left _ _ h

    halted_not : (e : Event Id) → has_halted (events ++ e ∷ []) ≡ false → has_halted events ≡ false
    halted_not e h = false_from_ne_true _ (λ t. false≢true
        (sym h ∙ list_any-push is_halt events e ∙ or_left _ _ t))

    claims-push : (e : Event Id) (id : Id)
        → count_by (is_claim_of same id) events ≡ cond (was_claimed same events id) 1 0
        → (is_claim_of same id e ≡ true → was_claimed same events id ≡ false)
        → count_by (is_claim_of same id) (events ++ e ∷ [])
        ≡ cond (was_claimed same (events ++ e ∷ []) id) 1 0
    claims-push e id c new = count_by-push (is_claim_of same id) events e ∙ once _ _ _ c new
        ∙ ap (λ b. cond b 1 0) (sym (claimed-push e id))

    finishes-push : (e : Event Id) (id : Id)
        → count_by (is_finish_of same id) events ≡ cond (was_finished same events id) 1 0
        → (is_finish_of same id e ≡ true → was_finished same events id ≡ false)
        → count_by (is_finish_of same id) (events ++ e ∷ [])
        ≡ cond (was_finished same (events ++ e ∷ []) id) 1 0
    finishes-push e id c new = count_by-push (is_finish_of same id) events e ∙ once _ _ _ c new
        ∙ ap (λ b. cond b 1 0) (sym (finished-push e id))

  is_id : (x y : Id) → same x y ≡ true → x ≡ y
  is_id x y e = (lawful.identity x y).0 e

  owned_claim : (events : List (Event Id)) (w : ℕ) (id : Id)
      → is_allowed same plan workers events (event.Claim w id) ≡ true
      → (state : State Id V) (outs : List (Option Id)) → slice_get outs w ≡ Some None
      → Owned state outs events → Owned state (slice_set outs w (Some id))
      (events ++ event.Claim w id ∷ [])
  owned_claim events w id a state outs free o =
      let e = event.Claim w id in
      let new : was_claimed same events id ≡ false = (may_claim same plan workers events w id a).new
      in
      let not_claimed : (j : Id) → id ≡ j → was_claimed same events j ≡ true
      → ⊥ = λ j same_id c. false≢true (sym new
      ∙ subst (λ k. was_claimed same events k ≡ true) (sym same_id) c) in
      record {
        unsettled = λ v j i. elim (get_set_cases outs w v (Some id) (Some j) i) [
          | inr other ↦ o.unsettled v j other.1
          | inl here ↦ (let s : id ≡ j = cc in false_from_ne_true _
              (λ t. not_claimed j s (o.settled_claimed j t)))
        ];
        one = λ u v j i k. elim (get_set_cases outs w u (Some id) (Some j) i) [
          | inr other ↦ elim (get_set_cases outs w v (Some id) (Some j) k) [
            | inr too ↦ o.one u v j other.1 too.1
            | inl here ↦ (let s : id ≡ j = cc in absurd (not_claimed j s (o.claimed u j other.1)))
          ]
          | inl here ↦ elim (get_set_cases outs w v (Some id) (Some j) k) [
            | inr too ↦ (let s : id ≡ j = cc in absurd (not_claimed j s (o.claimed v j too.1)))
            | inl also ↦ sym here.0 ∙ also.0
          ]
        ];
        claimed = λ v j i. elim (get_set_cases outs w v (Some id) (Some j) i) [
          | inr other ↦ claimed_still events e j (o.claimed v j other.1)
          | inl here ↦ (let s : id ≡ j = cc in claimed-push events e j
              ∙ or_right _ _ ((lawful.identity id j).1 s))
        ];
        settled_claimed = λ j s. claimed_still events e j (o.settled_claimed j s);
        finished = λ j. o.finished j ∙ sym (finished-push events e j ∙ or_false _);
        claims = λ j. claims-push events e j (o.claims j)
            (λ s. false_from_ne_true _ (λ c. not_claimed j (is_id id j s) c));
        finishes = λ j. finishes-push events e j (o.finishes j) (λ s. absurd (false≢true s));
        live = λ h j c. elim (or_cases _ _ (sym (claimed-push events e j) ∙ c)) [
          | inr now ↦ inr (
            w,
            subst (λ k. slice_get (slice_set outs w (Some id)) w ≡ Some (Some k))
                (is_id id j now) (get_set_same outs w (Some id) None free),
          )
          | inl old ↦ elim (o.live (halted_not events e h) j old) [
            | inl s ↦ inl s
            | inr r ↦ inr (
              r.0,
              get_set_other outs w r.0 (Some id)
                  (λ at. free_not_out outs w r.0 j free r.1 at) ∙ r.1,
            )
          ]
        ];
      }

  owned_finish : (events : List (Event Id)) (w : ℕ) (id : Id)
      → (state : State Id V) (outs : List (Option Id)) → slice_get outs w ≡ Some (Some id)
      → (by : State Id V) (job : Spec Id) → job.id ≡ id → Owned state outs events
      → Owned (settle same plan by state job) (slice_set outs w None)
      (events ++ event.Finish w id ∷ [])
  owned_finish events w id state outs out by job named o =
      let e = event.Finish w id in
      let after = settle same plan by state job in
      let settled-after : (j : Id) → is_settled same after j
      ≡ (is_settled same state j || same id j)
      = λ j. settled-push same state.values job.id (outcome_in same plan by job).value j
      ∙ ap (λ k. is_settled same state j || same k j) named in
      let only_w : (v : ℕ) (j : Id) → slice_get outs v ≡ Some (Some j) → same id j ≡ true
      → w ≡ v = λ v j i s. o.one w v j (out ∙ ap (λ k. Some (Some k)) (is_id id j s)) i in
      record {
        unsettled = λ v j i. elim (get_set_cases outs w v None (Some j) i) [
          | inr other ↦ settled-after j ∙ or_from _ _ (o.unsettled v j other.1)
              (false_from_ne_true _ (λ s. other.0 (only_w v j other.1 s)))
          | inl here ↦ absurd (none≢some j None refl here.1)
        ];
        one = λ u v j i k. elim (get_set_cases outs w u None (Some j) i) [
          | inr other ↦ elim (get_set_cases outs w v None (Some j) k) [
            | inr too ↦ o.one u v j other.1 too.1
            | inl here ↦ absurd (none≢some j None refl here.1)
          ]
          | inl here ↦ absurd (none≢some j None refl here.1)
        ];
        claimed = λ v j i. elim (get_set_cases outs w v None (Some j) i) [
          | inr other ↦ claimed_still events e j (o.claimed v j other.1)
          | inl here ↦ absurd (none≢some j None refl here.1)
        ];
        settled_claimed = λ j s. elim (or_cases _ _ (sym (settled-after j) ∙ s)) [
          | inl old ↦ claimed_still events e j (o.settled_claimed j old)
          | inr now ↦ claimed_still events e j
              (o.claimed w j (out ∙ ap (λ k. Some (Some k)) (is_id id j now)))
        ];
        finished = λ j. settled-after j ∙ ap (λ b. b || same id j) (o.finished j)
            ∙ sym (finished-push events e j);
        claims = λ j. claims-push events e j (o.claims j) (λ s. absurd (false≢true s));
        finishes = λ j. finishes-push events e j (o.finishes j)
            (λ s. sym (o.finished j) ∙ o.unsettled w j
            (out ∙ ap (λ k. Some (Some k)) (is_id id j s)));
        live = λ h j c. elim (o.live (halted_not events e h) j
            (sym (or_false _) ∙ sym (claimed-push events e j) ∙ c)) [
              | inl s ↦ inl (settled-after j ∙ or_left _ _ s)
              | inr r ↦ elim (cases_Bool (same id j)) [
                | inl now ↦ inl (settled-after j ∙ or_right _ _ now)
                | inr other ↦ inr (
                  r.0,
                  get_set_other outs w r.0 None
                      (λ at. false≢true (sym other ∙ (lawful.identity id j).1
                      (same_out outs w r.0 id j out r.1 at))) ∙ r.1,
                )
              ]
            ];
      }

  owned_halt : (events : List (Event Id)) (w : ℕ) (state : State Id V) (outs : List (Option Id))
      → Owned state outs events → Owned state (slice_set outs w None) (events ++ event.Halt w ∷ [])
  owned_halt events w state outs o =
      let e = event.Halt w in
      record {
        unsettled = λ v j i. elim (get_set_cases outs w v None (Some j) i) [
          | inr other ↦ o.unsettled v j other.1
          | inl here ↦ absurd (none≢some j None refl here.1)
        ];
        one = λ u v j i k. elim (get_set_cases outs w u None (Some j) i) [
          | inr other ↦ elim (get_set_cases outs w v None (Some j) k) [
            | inr too ↦ o.one u v j other.1 too.1
            | inl here ↦ absurd (none≢some j None refl here.1)
          ]
          | inl here ↦ absurd (none≢some j None refl here.1)
        ];
        claimed = λ v j i. elim (get_set_cases outs w v None (Some j) i) [
          | inr other ↦ claimed_still events e j (o.claimed v j other.1)
          | inl here ↦ absurd (none≢some j None refl here.1)
        ];
        settled_claimed = λ j s. claimed_still events e j (o.settled_claimed j s);
        finished = λ j. o.finished j ∙ sym (finished-push events e j ∙ or_false _);
        claims = λ j. claims-push events e j (o.claims j) (λ s. absurd (false≢true s));
        finishes = λ j. finishes-push events e j (o.finishes j) (λ s. absurd (false≢true s));
        live = λ h j c. absurd (false≢true (sym h ∙ list_any-push is_halt events e
            ∙ or_right _ _ refl));
      }

  owned_after : (events : List (Event Id)) (e : Event Id) → is_run same plan workers events ≡ true
      → is_allowed same plan workers events e ≡ true
      → Owned (state_of same plan events) (out_of workers events) events
      → Owned (state_after same plan (state_of same plan events) e)
      (out_after (out_of workers events) e) (events ++ e ∷ [])
  owned_after events (event.Claim w id) r a o =
      owned_claim events w id a (state_of same plan events) (out_of workers events)
      (may_claim same plan workers events w id a).free o
  owned_after events (event.Finish w id) r a o =
      let state = state_of same plan events in
      let outs = out_of workers events in
      let g : Grows same plan workers lawful state outs = grows same plan workers lawful events r in
      let h = has_out_is same id (slice_get outs w) a in
      let out : slice_get outs w ≡ Some (Some id) = h.1 ∙ ap (λ k. Some (Some k)) (is_id h.0 id h.2)
      in
      let it : IsOut same plan workers lawful state id = g.out w id out in
      let e = finish_is same plan workers lawful state g.grown_state id it in
      subst (λ s. Owned s (slice_set outs w None) (events ++ event.Finish w id ∷ [])) (sym e)
      (owned_finish events w id state outs out it.by it.job it.named o)
  owned_after events (event.Halt w) r a o
      = owned_halt events w (state_of same plan events) (out_of workers events) o

  -- of every legal history
  pub owned : (events : List (Event Id)) → is_run same plan workers events ≡ true
      → Owned (state_of same plan events) (out_of workers events) events
  owned =
      run_induction same plan workers (λ events. Owned (state_of same plan events)
      (out_of workers events) events)
      record {
        unsettled = λ w id e. absurd (none_out same plan workers lawful workers w id e);
        one = λ v w id e f. absurd (none_out same plan workers lawful workers v id e);
        claimed = λ w id e. absurd (none_out same plan workers lawful workers w id e);
        settled_claimed = λ id e. absurd (false≢true e);
        finished = λ id. refl;
        claims = λ id. refl;
        finishes = λ id. refl;
        live = λ h id e. absurd (false≢true e);
      }
      (λ events e r a o. subst (λ s. Owned s (out_of workers (events ++ e ∷ [])) (events ++ e ∷ []))
      (sym (state_of-push same plan workers events e))
      (subst (λ outs. Owned (state_after same plan (state_of same plan events) e) outs
      (events ++ e ∷ [])) (sym (out_of-push same plan workers events e))
      (owned_after events e r a o)))
