-- Which queues are held up, and which job comes first.
use Rattle.std.proofs.Common.{◌≡◌, ℕ, zero, suc, ◌+◌, ◌-◌, ◌<◌, ◌≤◌, Bool, true, false, ◌&&◌, inl}
use Rattle.std.proofs.Common.{inr, List, [], ◌∷◌, length, take, Option, Some, None, get_or, refl}
use Rattle.std.proofs.Common.{sym, ap, ◌∙◌, subst, arith, replicate, nat_le, is_some}
use Rattle.std.specs.Prelude.{slice_get, slice_set}
use Rattle.std.specs.List.{list_all}
use Rattle.std.specs.BTreeMap as tree
use Rattle.std.specs.BTreeMap.{BTreeMap, IsLowerBound}
use Rattle.std.specs.Cmp.{IsTotalOrder}
use Rattle.std.specs.Ordering.{is_gt, is_lt, is_some_and, ordering_reverse}
use Rattle.std.specs.declared.cmp.Ordering.{Ordering}
use Rattle.std.specs.declared.cmp.Ordering.TheVariants.{Less, Equal, Greater}
use Rattle.std.proofs.Math.Seq.{take-length}
use Rattle.std.proofs.lemmas.Bool.{false_from_ne_true, cases_lt, leb-true, le-leb, false≢true}
use Rattle.std.proofs.lemmas.Cmp.{upto, tied_itself}
use Rattle.std.proofs.lemmas.List.Folds.{list_all_at, list_all_more}
use Rattle.std.proofs.lemmas.Option.{slice_get-get_or, get_or_from_slice_get, same_Some}
use Rattle.access_context.specs.declared.access.Spec.{Spec}
use Rattle.job_graph.specs.Meaning.{Meaning}
use Rattle.job_graph.specs.Rounds.{State, awaits_nothing}
use Rattle.job_graph.specs.declared.queues.Turn.{Turn}
use Rattle.job_graph.specs.Growth.{none≢some}
use Rattle.job_graph.specs.Agenda.{awaited_by, lets_pass, IsPassed, ArePassed, IsQueued, IsBest}
use Rattle.job_graph.specs.Agenda.{IsBestOf, IsEither, IsLesser, IsFirst}
use Rattle.job_graph.proofs.Run.{get_set_cases}

-- the first id of a queue is a bound of the ids that stand in it
pub bound_of_queue : {Id : Type 0} (order : Id → Id → Ordering) (queues : List (BTreeMap Id ℕ))
    (rank : ℕ) (queue : BTreeMap Id ℕ) → slice_get queues rank ≡ Some queue → (first : Id)
    → IsLowerBound order queue first → (id : Id) (number : ℕ) → IsQueued order queues rank id number
    → is_gt (order first id) ≡ false
bound_of_queue order queues rank queue there first bound id number q =
    let is : q.queue ≡ queue = same_Some _ _ (sym q.there ∙ there) in
    bound id (ap is_some (ap (λ m. tree.get order m id) (sym is) ∙ q.found))

-- what two orders say of two ids
not_above : (r : Ordering) → is_lt r ≡ true → is_gt r ≡ false
not_above Less e = refl
not_above Equal e = refl
not_above Greater e = absurd (false≢true e)

not_above_back : (r : Ordering) → is_lt r ≡ false → is_gt (ordering_reverse r) ≡ false
not_above_back Less e = absurd (false≢true (sym e))
not_above_back Equal e = refl
not_above_back Greater e = refl

pub not_below_back : (r : Ordering) → is_gt r ≡ false → is_lt (ordering_reverse r) ≡ false
not_below_back Less e = refl
not_below_back Equal e = refl
not_below_back Greater e = absurd (false≢true (sym e))

module _ {Id V : Type 0} (same : Id → Id → Bool) (plan : Meaning Id V) (state : State Id V) where
  pub open_first : (queue : ℕ) → queue ≡ 0
      → true ≡ awaits_nothing same plan state (awaited_by queue)
  open_first queue e = sym (ap (λ q. awaits_nothing same plan state (awaited_by q)) e)

  -- all jobs pass, so nothing is held up
  pub open_later : (queue stratum count : ℕ) → queue ≡ suc stratum
      → IsPassed same plan state stratum count → length state.jobs ≤ count
      → true ≡ awaits_nothing same plan state (awaited_by queue)
  open_later queue stratum count e p all =
      let n : count ≡ length state.jobs = omega (arith, p.0) in
      sym (ap (λ q. awaits_nothing same plan state (awaited_by q)) e
      ∙ ap (list_all (lets_pass same plan state stratum)) (sym (ap (λ k. take k state.jobs) n
      ∙ take-length state.jobs)) ∙ p.1)

  -- one job doesn't
  pub held_up : (queue stratum count : ℕ) → queue ≡ suc stratum → count < length state.jobs
      → ((job : Spec Id) → slice_get state.jobs count ≡ Some job
      → lets_pass same plan state stratum job ≡ false)
      → false ≡ awaits_nothing same plan state (awaited_by queue)
  held_up queue stratum count e lt stops =
      let there = some_at state.jobs count lt in
      sym (ap (λ q. awaits_nothing same plan state (awaited_by q)) e
      ∙ list_all_at (lets_pass same plan state stratum) state.jobs count there.0 lt
      (ap (lets_pass same plan state stratum)
      (get_or_from_slice_get state.jobs count there.0 there.0 there.1)
      ∙ stops there.0 there.1))
    where
      some_at : {X : Type 0} (xs : List X) (i : ℕ) → i < length xs
          → (x : X) × (slice_get xs i ≡ Some x)
      some_at [] i lt = absurd (omega arith)
      some_at (x ∷ xs) zero lt = (x, refl)
      some_at (x ∷ xs) (suc i) lt = some_at xs i (omega arith)

  -- what the first job tells that isn't known to pass
  pub open_is : (queue stratum count : ℕ) → queue ≡ suc stratum
      → IsPassed same plan state stratum count
      → ((job : Spec Id) → slice_get state.jobs count ≡ Some job
      → lets_pass same plan state stratum job ≡ false)
      → nat_le (length state.jobs) count ≡ awaits_nothing same plan state (awaited_by queue)
  open_is queue stratum count e p stops = elim (cases_lt count (length state.jobs)) [
    | inl less ↦ false_from_ne_true (nat_le (length state.jobs) count)
        (λ t. (let n = leb-true _ _ t in absurd (omega arith)))
        ∙ held_up queue stratum count e less stops
    | inr more ↦ le-leb _ _ more ∙ open_later queue stratum count e p more
  ]

  -- one more job passes
  pub passed_more : (stratum count : ℕ) (job : Spec Id) → IsPassed same plan state stratum count
      → count < length state.jobs → job ≡ get_or state.jobs count job
      → true ≡ lets_pass same plan state stratum job
      → IsPassed same plan state stratum (count + 1)
  passed_more stratum count job p lt at passes = (
    omega arith,
    list_all_more (lets_pass same plan state stratum) state.jobs count job lt
        ∙ ap (λ b. b && lets_pass same plan state stratum (get_or state.jobs count job)) p.1
        ∙ ap (lets_pass same plan state stratum) (sym at) ∙ sym passes,
  )

  -- what is known of one queue
  pub passed_at : (passed : List ℕ) → ArePassed same plan state passed → (queue d : ℕ) → 0 < queue
      → queue < length passed → IsPassed same plan state (queue - 1) (get_or passed queue d)
  passed_at passed all queue d pos lt =
      let e : suc (queue - 1) ≡ queue = omega arith in
      all (queue - 1) (get_or passed queue d)
      (ap (slice_get passed) e ∙ slice_get-get_or passed queue d lt)

  pub passed_set : (passed : List ℕ) → ArePassed same plan state passed → (queue count : ℕ)
      → IsPassed same plan state (queue - 1) count → ArePassed same plan state
      (slice_set passed queue count)
  passed_set passed all queue count p = λ stratum n at.
      elim (get_set_cases passed queue (suc stratum) count n at) [
        | inl e ↦
            let s : queue - 1 ≡ stratum = omega (arith, e.0) in
            subst (λ k. IsPassed same plan state k n) s
            (subst (λ k. IsPassed same plan state (queue - 1) k) e.1 p)
        | inr o ↦ all stratum n o.1
      ]

  pub none_passed : (n : ℕ) (passed : List ℕ) → passed ≡ replicate n 0
      → ArePassed same plan state passed
  none_passed n passed e = λ stratum count at.
      let z : count ≡ 0 = zero_there n (suc stratum) count
      (ap (λ xs. slice_get xs (suc stratum)) (sym e) ∙ at) in
      (omega arith, ap (λ k. list_all (lets_pass same plan state stratum) (take k state.jobs)) z)
    where
      zero_there : (n i count : ℕ) → slice_get (replicate n 0) i ≡ Some count → count ≡ 0
      zero_there zero i count at = absurd (none≢some count None refl at)
      zero_there (suc n) zero count at = sym (same_Some _ _ at)
      zero_there (suc n) (suc i) count at = zero_there n i count at

  module _ (order : Id → Id → Ordering) (queues : List (BTreeMap Id ℕ)) where
    -- a job that stands in a queue which isn't held up
    abbrev Stands : Turn Id → Type 0
    Stands turn = IsQueued order queues turn.queue turn.id turn.number
        × (awaits_nothing same plan state (awaited_by turn.queue) ≡ true)

    stands_of_best : (below : ℕ) (turn : Turn Id)
        → IsBest same order plan state queues below (Some turn) → Stands turn
    stands_of_best below turn b = (b.0, b.1)

    stands_of_other : (below : ℕ) (turn : Turn Id)
        → IsBestOf same order plan state queues below (Some turn) → Stands turn
    stands_of_other below turn b = (b.0, b.1)

    -- one more queue
    pub best_more : (below : ℕ) (best other answer : Option (Turn Id))
        → IsBest same order plan state queues below best
        → IsBestOf same order plan state queues below other → IsEither best other answer
        → IsTotalOrder order → IsLesser order best other answer
        → IsBest same order plan state queues (below + 1) answer
    best_more below best other None b o e total least =
        let n = e.1 refl in
        none_more (subst (IsBest same order plan state queues below) n.0 b)
        (subst (IsBestOf same order plan state queues below) n.1 o)
      where
        none_more : IsBest same order plan state queues below None
            → IsBestOf same order plan state queues below None
            → IsBest same order plan state queues (below + 1) None
        none_more b o rank id number lt q = elim (cases_lt rank below) [
          | inl less ↦ b rank id number less q
          | inr more ↦
              let at : below ≡ rank = omega arith in
              ap (λ k. awaits_nothing same plan state (awaited_by k)) (sym at)
              ∙ o id number (subst (λ k. IsQueued order queues k id number) (sym at) q)
        ]
    best_more below best other (Some turn) b o e total least =
        let stands : Stands turn = elim (e.0) [
          | inl one ↦ stands_of_best below turn
              (subst (IsBest same order plan state queues below) (sym one) b)
          | inr two ↦ stands_of_other below turn
              (subst (IsBestOf same order plan state queues below) (sym two) o)
        ] in (
          stands.0,
          stands.1,
          λ rank id number lt q free. elim (cases_lt rank below) [
            | inl less ↦ upto_best best b (λ t is. least turn t refl (inl is)) rank id number less q
                free
            | inr more ↦
                let at : rank ≡ below = omega arith in
                upto_other other o (λ t is. least turn t refl (inr is)) id number
                (subst (λ k. IsQueued order queues k id number) at q)
                (subst (λ k. awaits_nothing same plan state (awaited_by k) ≡ true) at free)
          ],
        )
      where
        upto_best : (best : Option (Turn Id)) → IsBest same order plan state queues below best
            → ((t : Turn Id) → best ≡ Some t → is_gt (order turn.id t.id) ≡ false)
            → IsFirst same order plan state queues below turn.id
        upto_best None b up rank id number less q free
            = absurd (false≢true (sym (b rank id number less q) ∙ free))
        upto_best (Some t) b up rank id number less q free
            = upto total turn.id t.id id (up t refl) (b.2 rank id number less q free)

        upto_other : (other : Option (Turn Id))
            → IsBestOf same order plan state queues below other
            → ((t : Turn Id) → other ≡ Some t → is_gt (order turn.id t.id) ≡ false)
            → (id : Id) (number : ℕ) → IsQueued order queues below id number
            → awaits_nothing same plan state (awaited_by below) ≡ true
            → is_gt (order turn.id id) ≡ false
        upto_other None o up id number q free
            = absurd (false≢true (sym (o id number q) ∙ free))
        upto_other (Some t) o up id number q free
            = upto total turn.id t.id id (up t refl) (o.2 id number q)
