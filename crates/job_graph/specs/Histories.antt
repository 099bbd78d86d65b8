-- Histories of workers that claim jobs, finish them and halt: which are legal, and what each comes
-- to. fontc's own.
use Rattle.std.specs.Prelude.{ℕ, nat_eq, nat_lt, Bool, true, false, not, ◌&&◌, List, [], ◌∷◌, ◌++◌}
use Rattle.std.specs.Prelude.{fold, filter, find, count_by, replicate, Option, Some, None, is_some}
use Rattle.std.specs.Prelude.{slice_get, slice_set, if◌then◌else◌}
use Rattle.std.specs.List.{list_any}
use Rattle.access_context.specs.declared.access.Spec.{Spec}
use Rattle.job_graph.specs.Meaning.{Meaning}
use Rattle.job_graph.specs.Rounds.{State, start, has_id, is_ready, with_outcomes}
use Rattle.job_graph.specs.declared.event.Event.{Event}
use Rattle.job_graph.specs.declared.event.Event.TheVariants as event
use Rattle.job_graph.specs.declared.event.End.{End}
use Rattle.job_graph.specs.declared.event.End.TheVariants.{Running, Ended, Halted}

abbrev pub is_halt : {Id : Type 0} → Event Id → Bool
is_halt (event.Claim w id) = false
is_halt (event.Finish w id) = false
is_halt (event.Halt w) = true

abbrev pub is_halt_of : {Id : Type 0} → ℕ → Event Id → Bool
is_halt_of worker (event.Claim w id) = false
is_halt_of worker (event.Finish w id) = false
is_halt_of worker (event.Halt w) = nat_eq w worker

abbrev pub has_halted : {Id : Type 0} → List (Event Id) → Bool
has_halted events = list_any is_halt events

-- the job that each worker has out
abbrev pub out_after : {Id : Type 0} → List (Option Id) → Event Id → List (Option Id)
out_after outs (event.Claim w id) = slice_set outs w (Some id)
out_after outs (event.Finish w id) = slice_set outs w None
out_after outs (event.Halt w) = slice_set outs w None

abbrev pub out_of : {Id : Type 0} → ℕ → List (Event Id) → List (Option Id)
out_of workers events = fold out_after (replicate workers None) events

-- what one worker has out: a job or none, where there is such a worker
abbrev pub out_at : {Id : Type 0} → ℕ → List (Event Id) → ℕ → Option (Option Id)
out_at workers events worker = slice_get (out_of workers events) worker

-- whose event this is
abbrev pub worker_of : {Id : Type 0} → Event Id → ℕ
worker_of (event.Claim w id) = w
worker_of (event.Finish w id) = w
worker_of (event.Halt w) = w

-- the events of one worker
abbrev pub events_of : {Id : Type 0} → ℕ → List (Event Id) → List (Event Id)
events_of worker events = filter (λ e. nat_eq (worker_of e) worker) events

-- how many jobs are running
abbrev pub running : {Id : Type 0} → ℕ → List (Event Id) → ℕ
running workers events = count_by is_some (out_of workers events)

abbrev pub is_free : {Id : Type 0} → Option (Option Id) → Bool
is_free None = false
is_free (Some None) = true
is_free (Some (Some id)) = false

-- same tells whether two ids are one
module _ {Id : Type 0} (same : Id → Id → Bool) where
  abbrev pub is_claim_of : Id → Event Id → Bool
  is_claim_of id (event.Claim w job) = same job id
  is_claim_of id (event.Finish w job) = false
  is_claim_of id (event.Halt w) = false

  abbrev pub is_finish_of : Id → Event Id → Bool
  is_finish_of id (event.Claim w job) = false
  is_finish_of id (event.Finish w job) = same job id
  is_finish_of id (event.Halt w) = false

  abbrev pub was_claimed : List (Event Id) → Id → Bool
  was_claimed events id = list_any (is_claim_of id) events

  abbrev pub was_finished : List (Event Id) → Id → Bool
  was_finished events id = list_any (is_finish_of id) events

  abbrev pub has_out : Id → Option (Option Id) → Bool
  has_out id None = false
  has_out id (Some None) = false
  has_out id (Some (Some job)) = same job id

module _ {Id V : Type 0} (same : Id → Id → Bool) (plan : Meaning Id V) where
  -- the state once a job finished, by what it reads then
  abbrev pub finished : State Id V → Option (Spec Id) → State Id V
  finished state None = state
  finished state (Some job) = with_outcomes same plan state state (job ∷ [])

  abbrev pub state_after : State Id V → Event Id → State Id V
  state_after state (event.Claim w id) = state
  state_after state (event.Finish w id) = finished state (find (has_id same id) state.jobs)
  state_after state (event.Halt w) = state

  -- the state that a history reaches
  abbrev pub state_of : List (Event Id) → State Id V
  state_of events = fold state_after (start same plan) events

  -- a job with this id is ready
  abbrev pub is_ready_id : State Id V → Id → Bool
  is_ready_id state id = list_any (λ job. has_id same id job && is_ready same plan state job)
      state.jobs

  -- what may come next. A claim: of a ready job that wasn't claimed, by a worker with none out,
  -- while nobody halted.
  -- A finish: by the worker that has the job out. A halt: a worker's first.
  abbrev pub is_allowed : ℕ → List (Event Id) → Event Id → Bool
  is_allowed workers events (event.Claim w id) =
      nat_lt w workers
      && (is_ready_id (state_of events) id
      && (not (was_claimed same events id)
      && (is_free (slice_get (out_of workers events) w)
      && not (has_halted events))))
  is_allowed workers events (event.Finish w id)
      = has_out same id (slice_get (out_of workers events) w)
  is_allowed workers events (event.Halt w) = nat_lt w workers
      && not (list_any (is_halt_of w) events)

  -- each of the later events is allowed after those before it
  abbrev pub goes_on : ℕ → List (Event Id) → List (Event Id) → Bool
  goes_on workers before [] = true
  goes_on workers before (e ∷ after) = is_allowed workers before e
      && goes_on workers (before ++ e ∷ []) after

  -- a legal history
  abbrev pub is_run : ℕ → List (Event Id) → Bool
  is_run workers events = goes_on workers [] events

  abbrev pub some_ready : State Id V → Bool
  some_ready state = list_any (is_ready same plan state) state.jobs

  -- where a history stands: it has ended where no job is ready, none is running and nobody halted
  abbrev pub end_of : ℕ → List (Event Id) → End
  end_of workers events =
      if has_halted events
      then Halted
      else (if some_ready (state_of events) then Running else
      (if nat_eq (running workers events) 0 then Ended else Running))

  -- a job is ready and wasn't claimed
  abbrev pub is_claimable : State Id V → List (Event Id) → Spec Id → Bool
  is_claimable state events job = is_ready same plan state job
      && not (was_claimed same events job.id)
