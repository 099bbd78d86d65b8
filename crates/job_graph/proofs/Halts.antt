-- Which workers halted, and what each has out, one event after another.
use Rattle.std.proofs.Common.{◌≡◌, ◌≢◌, ℕ, zero, suc, ◌+◌, ◌<◌, Bool, true, false, not, ◌||◌, ◌⊎◌}
use Rattle.std.proofs.Common.{nat_eq, inl, inr, List, [], ◌∷◌, ◌++◌, length, replicate, get_or}
use Rattle.std.proofs.Common.{Option, Some, None, refl, sym, ap, ◌∙◌, subst, cond, arith}
use Rattle.std.specs.Prelude.{slice_get, slice_set, count_by, fold}
use Rattle.std.specs.List.{list_any}
use Rattle.std.proofs.lemmas.Bool.{or_cases, or_right, false≢true, cases_Bool, eqb-true, eq-eqb}
use Rattle.std.proofs.lemmas.List.{length-set, length-replicate}
use Rattle.std.proofs.lemmas.List.Sums.{fold-append, sum_by-set}
use Rattle.std.proofs.lemmas.Option.{slice_get_within, get_or_from_slice_get, slice_get-get_or}
use Rattle.job_graph.specs.declared.event.Event.{Event}
use Rattle.job_graph.specs.declared.event.Event.TheVariants as event
use Rattle.job_graph.specs.Meaning.{Meaning}
use Rattle.job_graph.specs.Histories.{is_halt, is_halt_of, has_halted, out_after, out_of, out_at}
use Rattle.job_graph.specs.Histories.{worker_of, events_of, is_allowed, is_run}
use Rattle.job_graph.specs.BoardView.{BoardView, NowHas}
use Rattle.job_graph.specs.BoardBody.{halted_after, halted_of}
use Rattle.job_graph.specs.Members.{list_any-In, list_any-found}
use Rattle.job_graph.proofs.Run.{get_set_same, get_set_other, run_induction, may_claim}
use Rattle.job_graph.proofs.Owned.{or_false, list_any-push}

pub slice_get-replicate : {X : Type 0} (n i : ℕ) (x : X) → i < n
    → slice_get (replicate n x) i ≡ Some x
slice_get-replicate zero i x lt = absurd (omega arith)
slice_get-replicate (suc n) zero x lt = refl
slice_get-replicate (suc n) (suc i) x lt = slice_get-replicate n i x (omega arith)

length_fold-out : {Id : Type 0} (outs : List (Option Id)) (events : List (Event Id))
    → length (fold out_after outs events) ≡ length outs
length_fold-out outs [] = refl
length_fold-out outs (event.Claim w id ∷ events)
    = length_fold-out (slice_set outs w (Some id)) events ∙ length-set outs w (Some id)
length_fold-out outs (event.Finish w id ∷ events) = length_fold-out (slice_set outs w None) events
    ∙ length-set outs w None
length_fold-out outs (event.Halt w ∷ events) = length_fold-out (slice_set outs w None) events
    ∙ length-set outs w None

pub length-out_of : {Id : Type 0} (workers : ℕ) (events : List (Event Id))
    → length (out_of workers events) ≡ workers
length-out_of {Id} workers events = length_fold-out (replicate workers None) events
    ∙ length-replicate {A = Option Id} workers None

-- a halt leaves one place less for halts
pub halts-set : (halted : List Bool) (w : ℕ) → slice_get halted w ≡ Some false
    → count_by not (slice_set halted w true) + 1 ≡ count_by not halted
halts-set halted w e =
    let s = sum_by-set (λ b. cond (not b) 1 0) halted w true false
    (slice_get_within halted w false e) in
    let g : get_or halted w false ≡ false = get_or_from_slice_get halted w false false e in
    let t : count_by not (slice_set halted w true) + 1
    ≡ count_by not halted + 0 = subst (λ b. count_by not (slice_set halted w true)
    + cond (not b) 1 0 ≡ count_by not halted + 0) g s in
    omega arith

pub outs-push : {Id : Type 0} (workers : ℕ) (events : List (Event Id)) (e : Event Id)
    → out_of workers (events ++ e ∷ []) ≡ out_after (out_of workers events) e
outs-push workers events e = fold-append out_after (replicate workers None) events (e ∷ [])

-- the board after one more event, by which a worker has this out
pub now_has : {P Id : Type 0} (old new : BoardView P Id) (e : Event Id) (w : ℕ) (out : Option Id)
    → new ≡ record old { events = old.events ++ e ∷ [] }
    → ((outs : List (Option Id)) → out_after outs e ≡ slice_set outs w out) → (had : Option Id)
    → out_at old.workers old.events w ≡ Some had → NowHas old new w out
now_has {P} {Id} old new e w out is sets had at =
    let after : out_of old.workers (old.events ++ e ∷ [])
    ≡ slice_set (out_of old.workers old.events) w out = outs-push old.workers old.events e
    ∙ sets (out_of old.workers old.events) in
    subst (λ (v : BoardView P Id). NowHas old v w out) (sym is) (record {
      here = ap (λ os. slice_get os w) after
          ∙ get_set_same (out_of old.workers old.events) w out had at;
      others = λ v apart. ap (λ os. slice_get os v) after
          ∙ get_set_other (out_of old.workers old.events) w v out (λ s. apart (sym s));
    })

-- the same board
pub still_has : {P Id : Type 0} (old : BoardView P Id) (w : ℕ) (out : Option Id)
    → out_at old.workers old.events w ≡ Some out → NowHas old old w out
still_has old w out at = record { here = at; others = λ v apart. refl }

pub none_at_first : {Id : Type 0} (workers w : ℕ) → w < workers → (events : List (Event Id))
    → events ≡ [] → out_at workers events w ≡ Some None
none_at_first {Id} workers w lt events e = ap (λ es. out_at workers es w) e
    ∙ slice_get-replicate {X = Option Id} workers w None lt

pub some_out : {Id : Type 0} (workers w : ℕ) → w < workers → (events : List (Event Id))
    → (x : Option Id) × (out_at workers events w ≡ Some x)
some_out workers w lt events = (
  get_or (out_of workers events) w None,
  slice_get-get_or
      (out_of workers events) w None (let n = length-out_of workers events in omega arith),
)

-- what an event leaves its worker with, and it leaves every other as before
abbrev own_event : {Id : Type 0} → Event Id → Option Id
own_event (event.Claim w id) = Some id
own_event (event.Finish w id) = None
own_event (event.Halt w) = None

own_after : {Id : Type 0} (w : ℕ) (e : Event Id) → worker_of e ≡ w
    → (outs : List (Option Id)) (x : Option Id) → slice_get outs w ≡ Some x
    → slice_get (out_after outs e) w ≡ Some (own_event e)
own_after w (event.Claim v id) s outs x at
    = subst (λ k. slice_get (slice_set outs v (Some id)) k ≡ Some (Some id)) s
    (get_set_same outs v (Some id) x (ap (slice_get outs) s ∙ at))
own_after w (event.Finish v id) s outs x at
    = subst (λ k. slice_get (slice_set outs v None) k ≡ Some None) s
    (get_set_same outs v None x (ap (slice_get outs) s ∙ at))
own_after w (event.Halt v) s outs x at = subst
    (λ k. slice_get (slice_set outs v None) k ≡ Some None) s
    (get_set_same outs v None x (ap (slice_get outs) s ∙ at))

other_after : {Id : Type 0} (w : ℕ) (e : Event Id) → worker_of e ≢ w → (outs : List (Option Id))
    → slice_get (out_after outs e) w ≡ slice_get outs w
other_after w (event.Claim v id) apart outs = get_set_other outs v w (Some id) apart
other_after w (event.Finish v id) apart outs = get_set_other outs v w None apart
other_after w (event.Halt v) apart outs = get_set_other outs v w None apart

own_alone : {Id : Type 0} (w : ℕ) (events : List (Event Id)) (outs alone : List (Option Id))
    (x : Option Id) → slice_get outs w ≡ Some x → slice_get alone w ≡ Some x
    → slice_get (fold out_after outs events) w
    ≡ slice_get (fold out_after alone (events_of w events)) w
own_alone w [] outs alone x at alike = at ∙ sym alike
own_alone {Id} w (e ∷ events) outs alone x at alike =
    let P : Bool → Type 0 = λ b. slice_get (fold out_after (out_after outs e) events) w
    ≡ slice_get (fold out_after alone (cond b (e ∷ events_of w events) (events_of w events))) w
    in
    elim (cases_Bool (nat_eq (worker_of e) w)) [
      | inl own ↦ (let s = eqb-true (worker_of e) w own
          in subst P (sym own) (own_alone w events (out_after outs e) (out_after alone e)
          (own_event e) (own_after w e s outs x at) (own_after w e s alone x alike)))
      | inr other ↦ subst P (sym other) (own_alone w events (out_after outs e) alone x
          (other_after w e (λ s. false≢true (sym other ∙ eq-eqb (worker_of e) w s)) outs ∙ at)
          alike)
    ]

-- what a worker has out follows from its own events
pub own_events : {Id : Type 0} (workers w : ℕ) → w < workers → (events : List (Event Id))
    → out_at workers events w ≡ out_at workers (events_of w events) w
own_events {Id} workers w lt events =
    let none = slice_get-replicate {X = Option Id} workers w None lt in
    own_alone w events (replicate workers None) (replicate workers None) None none none

module _ {Id V : Type 0} (same : Id → Id → Bool) (plan : Meaning Id V) (workers : ℕ) where
  pub halted_of-push : (events : List (Event Id)) (e : Event Id)
      → halted_of workers (events ++ e ∷ []) ≡ halted_after (halted_of workers events) e
  halted_of-push events e = fold-append halted_after (replicate workers false) events (e ∷ [])

  flag_after : (w : ℕ) (halted : List Bool) (events : List (Event Id)) (e : Event Id)
      → slice_get halted w ≡ Some (list_any (is_halt_of w) events)
      → slice_get (halted_after halted e) w
      ≡ Some (list_any (is_halt_of w) events || is_halt_of w e)
  flag_after w halted events (event.Claim v id) h = h ∙ ap Some (sym (or_false _))
  flag_after w halted events (event.Finish v id) h = h ∙ ap Some (sym (or_false _))
  flag_after w halted events (event.Halt v) h =
      elim (cases_Bool (nat_eq v w)) [
        | inl at ↦ subst (λ k. slice_get (slice_set halted v true) k ≡ Some true) (eqb-true v w at)
            (get_set_same halted v true (list_any (is_halt_of w) events)
            (ap (slice_get halted) (eqb-true v w at) ∙ h)) ∙ ap Some (sym (or_right _ _ at))
        | inr away ↦ get_set_other halted v w true (λ e. false≢true (sym away ∙ eq-eqb v w e)) ∙ h
            ∙ ap Some (sym (ap (λ b. list_any (is_halt_of w) events || b) away ∙ or_false _))
      ]

  -- the flag of a worker
  pub halted_flag : (w : ℕ) → w < workers → (events : List (Event Id))
      → is_run same plan workers events ≡ true
      → slice_get (halted_of workers events) w ≡ Some (list_any (is_halt_of w) events)
  halted_flag w lt =
      run_induction same plan workers (λ events. slice_get (halted_of workers events) w
      ≡ Some (list_any (is_halt_of w) events))
      (slice_get-replicate workers w false lt)
      (λ events e r a h. ap (λ hs. slice_get hs w) (halted_of-push events e)
      ∙ flag_after w (halted_of workers events) events e h
      ∙ ap Some (sym (list_any-push (is_halt_of w) events e)))

  halt_is : (w : ℕ) (e : Event Id) → is_halt_of w e ≡ true → is_halt e ≡ true
  halt_is w (event.Claim v id) h = absurd (false≢true h)
  halt_is w (event.Finish v id) h = absurd (false≢true h)
  halt_is w (event.Halt v) h = refl

  -- a worker that halted is among those that did
  halted_among : (w : ℕ) (events : List (Event Id)) → list_any (is_halt_of w) events ≡ true
      → has_halted events ≡ true
  halted_among w events h = let f = list_any-found (is_halt_of w) events h
      in list_any-In is_halt events f.0 f.1 (halt_is w f.0 f.2)

  -- an emptied place, and every other
  emptied : (w v : ℕ) (outs : List (Option Id)) (x : Option Id) → slice_get outs w ≡ Some x
      → (v ≢ w → x ≡ None) → slice_get (slice_set outs v None) w ≡ Some None
  emptied w v outs x e else_none =
      elim (cases_Bool (nat_eq v w)) [
        | inl at ↦ subst (λ k. slice_get (slice_set outs v None) k ≡ Some None) (eqb-true v w at)
            (get_set_same outs v None x (ap (slice_get outs) (eqb-true v w at) ∙ e))
        | inr away ↦ (let apart : v ≢ w = λ s. false≢true (sym away ∙ eq-eqb v w s)
            in get_set_other outs v w None apart ∙ e ∙ ap Some (else_none apart))
      ]

  halted_step : (w : ℕ) → w < workers → (events : List (Event Id)) (e : Event Id)
      → is_allowed same plan workers events e ≡ true
      → (list_any (is_halt_of w) events ≡ true → slice_get (out_of workers events) w ≡ Some None)
      → (list_any (is_halt_of w) events ≡ true) ⊎ (is_halt_of w e ≡ true)
      → slice_get (out_after (out_of workers events) e) w ≡ Some None
  halted_step w lt events (event.Claim v id) a old h =
      elim h [
        | inl before ↦ absurd (false≢true (sym (may_claim same plan workers events v id a).no_halt
            ∙ halted_among w events before))
        | inr now ↦ absurd (false≢true now)
      ]
  halted_step w lt events (event.Finish v id) a old h =
      elim h [
        | inl before ↦ emptied w v (out_of workers events) None (old before) (λ apart. refl)
        | inr now ↦ absurd (false≢true now)
      ]
  halted_step w lt events (event.Halt v) a old h =
      elim h [
        | inl before ↦ emptied w v (out_of workers events) None (old before) (λ apart. refl)
        | inr now ↦ (let s = some_out workers w lt events
            in emptied w v (out_of workers events) s.0 s.1
            (λ apart. absurd (apart (eqb-true v w now))))
      ]

  -- a worker that halted has none out
  pub out_halted : (w : ℕ) → w < workers → (events : List (Event Id))
      → is_run same plan workers events ≡ true → list_any (is_halt_of w) events ≡ true
      → slice_get (out_of workers events) w ≡ Some None
  out_halted w lt =
      run_induction same plan workers (λ events. list_any (is_halt_of w) events ≡ true
      → slice_get (out_of workers events) w ≡ Some None)
      (λ h. absurd (false≢true h))
      (λ events e r a old h. ap (λ os. slice_get os w) (outs-push workers events e)
      ∙ halted_step w lt events e a old (or_cases _ _
      (sym (list_any-push (is_halt_of w) events e) ∙ h)))
