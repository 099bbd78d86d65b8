-- What holds of every legal history, and of one that has ended. fontc's own.
use Rattle.std.specs.Prelude.{◌≡◌, ◌↔◌, ℕ, ◌+◌, ◌*◌, ◌≤◌, ◌⊎◌, Bool, true, false, List, ◌∷◌, ◌++◌}
use Rattle.std.specs.Prelude.{length, count_by, Some, Contains, if◌then◌else◌}
use Rattle.std.specs.List.{list_all}
use Rattle.access_context.specs.declared.access.Spec.{Spec}
use Rattle.access_context.specs.Plain.{Plain, is_done}
use Rattle.job_graph.specs.declared.event.Event.{Event}
use Rattle.job_graph.specs.declared.event.Event.TheVariants as event
use Rattle.job_graph.specs.Meaning.{Meaning}
use Rattle.job_graph.specs.Rounds.{value_in, is_settled, is_unsettled_job, awaits_nothing, is_ready}
use Rattle.job_graph.specs.Rounds.{outcome_in, rounds, limit}
use Rattle.job_graph.specs.Histories.{has_halted, is_claim_of, is_finish_of, was_finished, state_of}
use Rattle.job_graph.specs.Histories.{is_run, some_ready}

module _ {Id V : Type 0} (same : Id → Id → Bool) (plan : Meaning Id V) where
  -- before a job was claimed, all that it reads was finished, and every job that it awaits of all
  -- that are ever added
  pub record IsReadSettled (before events : List (Event Id)) (job : Spec Id) : Type 0 where
    pub reads : (read : Id) → Contains job.access.reads read → was_finished same before read ≡ true
    pub awaited :
        (stratum : ℕ) (other : Spec Id)
        → job.access.awaits ≡ Some stratum
        → Contains (state_of same plan events).jobs other
        → plan.stratum other.id ≤ stratum
        → was_finished same before other.id ≡ true

  pub record IsHistory (workers : ℕ) (events : List (Event Id)) : Type 0 where
    -- each event was allowed when it came
    pub legal : is_run same plan workers events ≡ true
    -- what is settled is settled so in the limit
    pub values : (id : Id) (x : Plain V) → value_in same (state_of same plan events) id ≡ Some x
        → value_in same (limit same plan) id ≡ Some x
    -- each job that was added is one of the limit's
    pub jobs : (job : Spec Id) → Contains (state_of same plan events).jobs job
        → Contains (limit same plan).jobs job
    -- each job is claimed at most once
    pub claimed_once : (id : Id) → count_by (is_claim_of same id) events ≤ 1
    -- a history is short: a claim and a finish for each id, and a halt for each worker
    pub short : length events ≤ 2 * length plan.universe + workers
    -- each item is written at most once
    pub written_once : (id : Id) → count_by (is_finish_of same id) events ≤ 1
    -- and read only when it is settled
    pub read_settled :
        (before after : List (Event Id)) (worker : ℕ) (job : Spec Id)
        → events ≡ before ++ event.Claim worker job.id ∷ after
        → Contains (state_of same plan before).jobs job
        → IsReadSettled before events job

  -- what a history has come to that has ended: the limit, by two events for each job that has a
  -- value there, and no others
  pub record IsComplete (events : List (Event Id)) : Type 0 where
    pub values : (id : Id) → value_in same (state_of same plan events) id
        ≡ value_in same (limit same plan) id
    pub jobs : (job : Spec Id) → Contains (state_of same plan events).jobs job ↔ Contains
        (limit same plan).jobs job
    pub stuck : (id : Id) → is_unsettled_job same (state_of same plan events) id
        ≡ is_unsettled_job same (limit same plan) id
    pub claims : (id : Id) → count_by (is_claim_of same id) events
        ≡ (if is_settled same (limit same plan) id then 1 else 0)
    pub finishes : (id : Id) → count_by (is_finish_of same id) events
        ≡ (if is_settled same (limit same plan) id then 1 else 0)
    pub no_halt : has_halted events ≡ false

  -- once a job that awaits a stratum is ready, no job of that stratum or a lower one is ever added
  pub record AddsNoneBelow (workers : ℕ) (events more : List (Event Id)) : Type 0 where
    pub none_below :
        is_run same plan workers (events ++ more) ≡ true
        → (job other : Spec Id) (stratum : ℕ)
        → Contains (state_of same plan events).jobs job
        → is_ready same plan (state_of same plan events) job ≡ true
        → job.access.awaits ≡ Some stratum
        → Contains (state_of same plan (events ++ more)).jobs other
        → plan.stratum other.id ≤ stratum
        → Contains (state_of same plan events).jobs other

  -- the limit is the first state of the rounds in which no job is ready
  pub record IsFirstOver : Type 0 where
    pub over : some_ready same plan (limit same plan) ≡ false
    pub first : (n : ℕ) → some_ready same plan (rounds same plan n) ≡ false
        → limit same plan ≡ rounds same plan n

  -- a value is what comes of a job of the limit by what the job reads there, all of it settled
  pub record IsValueOf (id : Id) (x : Plain V) : Type 0 where
    pub job : Spec Id
    pub there : Contains (limit same plan).jobs job
    pub named : job.id ≡ id
    pub settled : list_all (is_settled same (limit same plan)) job.access.reads ≡ true
    pub is : x ≡ (outcome_in same plan (limit same plan) job).value

  -- a job of the limit that has a value added this one
  pub record IsAdded (job : Spec Id) : Type 0 where
    pub maker : Spec Id
    pub there : Contains (limit same plan).jobs maker
    pub value : value_in same (limit same plan) maker.id
        ≡ Some (outcome_in same plan (limit same plan) maker).value
    pub done : is_done (outcome_in same plan (limit same plan) maker).value ≡ true
    pub adds : Contains (outcome_in same plan (limit same plan) maker).added job

  -- what the limit is, without a word on rounds
  pub record IsLimit : Type 0 where
    -- each value is what comes of a job by what it reads in the limit
    pub values : (id : Id) (x : Plain V) → value_in same (limit same plan) id ≡ Some x
        → IsValueOf id x
    -- each job is an opening one, or one with a value added it
    pub jobs : (job : Spec Id) → Contains (limit same plan).jobs job
        → Contains plan.opening job ⊎ IsAdded job
    -- a job has a value once all that it reads has one and no job is unfinished that it awaits
    pub settles :
        (job : Spec Id)
        → Contains (limit same plan).jobs job
        → list_all (is_settled same (limit same plan)) job.access.reads ≡ true
        → awaits_nothing same plan (limit same plan) job.access.awaits ≡ true
        → is_settled same (limit same plan) job.id ≡ true
