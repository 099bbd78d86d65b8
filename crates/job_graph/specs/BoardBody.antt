-- What a board keeps beside its view. It serves the body of a board, and no contract of a public
-- call. fontc's own.
use Rattle.std.specs.Prelude.{◌≡◌, ℕ, ◌+◌, ◌≤◌, not, true, false, Bool, List, Option, fold}
use Rattle.std.specs.Prelude.{replicate, count_by, slice_get, slice_set, slice_range, length, Some}
use Rattle.std.specs.Vec.{vec_len, vec_capacity}
use Rattle.std.specs.declared.vec.Vec.{Vec}
use Rattle.std.specs.declared.alloc.Global.{Global}
use Rattle.std.specs.declared.cmp.Ordering.{Ordering}
use Rattle.access_context.specs.declared.access.Spec.{Spec}
use Rattle.access_context.specs.Plain.{Plain}
use Rattle.job_graph.specs.declared.event.Event.{Event}
use Rattle.job_graph.specs.declared.event.Event.TheVariants as event
use Rattle.job_graph.specs.declared.agenda.Agenda.{Agenda}
use Rattle.job_graph.specs.declared.numbers.Numbers.{Numbers}
use Rattle.job_graph.specs.Numbered.{IsNumbered}
use Rattle.job_graph.specs.Meaning.{Meaning}
use Rattle.job_graph.specs.Rounds.{State, IsAddedOf}
use Rattle.job_graph.specs.Histories.{has_halted, out_of, state_of, is_run}
use Rattle.job_graph.specs.Agenda.{IsAgenda, ArePassed}

-- which workers halted
abbrev pub halted_after : {Id : Type 0} → List Bool → Event Id → List Bool
halted_after halted (event.Claim w id) = halted
halted_after halted (event.Finish w id) = halted
halted_after halted (event.Halt w) = slice_set halted w true

abbrev pub halted_of : {Id : Type 0} → ℕ → List (Event Id) → List Bool
halted_of workers events = fold halted_after (replicate workers false) events

-- what a board keeps: the parts are those of its events, and there is room for each halt that may
-- still come
pub record IsBoard {Id V : Type 0} (same : Id → Id → Bool) (plan : Meaning Id V) (workers : ℕ)
    (events : Vec (Event Id) Global) (state : State Id V) (outs : List (Option Id))
    (halted : List Bool) (any_halted : Bool) : Type 0 where
  pub legal : is_run same plan workers events.items ≡ true
  pub state_is : state ≡ state_of same plan events.items
  pub outs_are : outs ≡ out_of workers events.items
  pub halted_are : halted ≡ halted_of workers events.items
  pub any_is : any_halted ≡ has_halted events.items
  pub room : vec_len events + count_by not halted ≤ vec_capacity events

-- the jobs that come of this id stand from one place up to another
pub record IsRange {Id V : Type 0} (same : Id → Id → Bool) (plan : Meaning Id V)
    (jobs : List (Spec Id)) (id : Id) (range : ℕ × ℕ) : Type 0 where
  pub order : range.0 ≤ range.1
  pub within : range.1 ≤ length jobs
  pub is : IsAddedOf same plan id (slice_range jobs range.0 range.1)

-- each value has the range of the jobs that it added
pub record AreRanges {Id V : Type 0} (same : Id → Id → Bool) (plan : Meaning Id V)
    (state : State Id V) (ranges : List (ℕ × ℕ)) : Type 0 where
  pub count : length ranges ≡ length state.values
  pub added :
      (place : ℕ) (value : Id × Plain V) (range : ℕ × ℕ)
      → slice_get state.values place ≡ Some value
      → slice_get ranges place ≡ Some range
      → IsRange same plan state.jobs value.0 range

-- all that a board keeps
pub record IsKept {Id V : Type 0} (same : Id → Id → Bool) (order : Id → Id → Ordering)
    (plan : Meaning Id V) (workers : ℕ) (events : Vec (Event Id) Global) (state : State Id V)
    (outs : List (Option Id)) (halted : List Bool) (any_halted : Bool) (ranges : List (ℕ × ℕ))
    (numbers : Numbers Id) (agenda : Agenda Id) (passed : List ℕ) : Type 0 where
  pub board : IsBoard same plan workers events state outs halted any_halted
  pub rows : AreRanges same plan state ranges
  pub numbered : IsNumbered same order state.jobs numbers
  -- while nobody halted, the agenda says what is to be done
  pub tasks : any_halted ≡ false → IsAgenda same order state outs agenda
  pub strata : ArePassed same plan state passed
  pub count : length passed ≡ 257
