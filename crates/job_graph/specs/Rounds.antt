-- The growth of a graph of jobs in rounds, up to its limit. No worker, no order and no count is in
-- it. fontc's own.
use Rattle.std.specs.Prelude.{◌≡◌, Contains, ℕ, zero, suc, Bool, true, not, ◌&&◌, ◌||◌, nat_le}
use Rattle.std.specs.Prelude.{List, [], ◌++◌, map, filter, length, Option, Some, None, is_some}
use Rattle.std.specs.Prelude.{unwrap_or, option_map, find, if◌then◌else◌}
use Rattle.std.specs.List.{list_all, list_any, flat_map}
use Rattle.access_context.specs.declared.access.Access.{Access}
use Rattle.access_context.specs.declared.access.Spec.{Spec}
use Rattle.access_context.specs.Plain.{Plain, Blocked, PlainOutcome}
use Rattle.access_context.specs.Read.{read_of, all_done}
use Rattle.job_graph.specs.Meaning.{Meaning}

-- the jobs that have been added, and what came of those that are settled. A list stands for the set
-- of its jobs.
pub record State (Id V : Type 0) : Type 0 where
  pub jobs : List (Spec Id)
  pub values : List (Id × Plain V)

-- nothing comes of a job with a read that has no value
abbrev pub blocked : {Id V : Type 0} → PlainOutcome V Id
blocked = record { value = Blocked; added = [] }

-- same tells whether two ids are one
abbrev pub has_id : {Id : Type 0} → (Id → Id → Bool) → Id → Spec Id → Bool
has_id same id job = same job.id id

module _ {Id V : Type 0} (same : Id → Id → Bool) where
  -- what came of a job, where it is settled
  abbrev pub value_in : State Id V → Id → Option (Plain V)
  value_in state id = read_of same state.values id

  abbrev pub is_settled : State Id V → Id → Bool
  is_settled state id = is_some (value_in state id)

  -- what a job reads; an item that isn't settled counts as blocked
  abbrev pub item_of : List (Id × Plain V) → Id → Id × Plain V
  item_of values id = (id, unwrap_or (read_of same values id) Blocked)

  abbrev pub item_in : State Id V → Id → Id × Plain V
  item_in state id = item_of state.values id

  abbrev pub reads_in : State Id V → List Id → List (Id × Plain V)
  reads_in state ids = map (item_in state) ids

  -- a job that isn't settled, and that no longer can be once no job is ready
  abbrev pub is_unsettled_job : State Id V → Id → Bool
  is_unsettled_job state id = list_any (has_id same id) state.jobs && not (is_settled state id)

  -- with what a job was added, where there is one with this id
  abbrev pub access_in : State Id V → Id → Option (Access Id)
  access_in state id = option_map (λ (job : Spec Id). job.access)
      (find (has_id same id) state.jobs)

  module _ (plan : Meaning Id V) where
    abbrev pub start : State Id V
    start = record { jobs = plan.opening; values = [] }

    -- no job of this stratum or a lower one is without a value
    abbrev pub is_done_up_to : State Id V → ℕ → Bool
    is_done_up_to state stratum = list_all
        (λ job. not (nat_le (plan.stratum job.id) stratum) || is_settled state job.id) state.jobs

    abbrev pub awaits_nothing : State Id V → Option ℕ → Bool
    awaits_nothing state None = true
    awaits_nothing state (Some stratum) = is_done_up_to state stratum

    -- a job is ready where it has no value, each item that it reads has one, and no job is
    -- unfinished that it awaits
    abbrev pub is_ready : State Id V → Spec Id → Bool
    is_ready state job = not (is_settled state job.id)
        && (list_all (is_settled state) job.access.reads && awaits_nothing state job.access.awaits)

    -- what comes of a job by what it reads in a state
    abbrev pub outcome_of : Id → List (Id × Plain V) → PlainOutcome V Id
    outcome_of id reads = if all_done reads then plan.outcome id reads else blocked

    abbrev pub outcome_in : State Id V → Spec Id → PlainOutcome V Id
    outcome_in state job = outcome_of job.id (reads_in state job.access.reads)

    -- the state once these jobs got their values, as the first state tells them, and added their
    -- jobs
    abbrev pub with_outcomes : State Id V → State Id V → List (Spec Id) → State Id V
    with_outcomes by state jobs = record {
      jobs = state.jobs ++ flat_map (λ job. (outcome_in by job).added) jobs;
      values = state.values ++ map (λ job. (job.id, (outcome_in by job).value)) jobs;
    }

    -- one round: every ready job at once
    abbrev pub round : State Id V → State Id V
    round state = with_outcomes state state (filter (is_ready state) state.jobs)

    -- the state after so many rounds
    abbrev pub rounds : ℕ → State Id V
    rounds zero = start
    rounds (suc n) = round (rounds n)

    -- the state in which no job is ready. Each round but the last settles a job, so there are no
    -- more rounds than ids.
    unfoldable pub limit : State Id V
    limit = rounds (length plan.universe)

-- a job of the limit, with what it reads there
pub record IsDue {Id V : Type 0} (same : Id → Id → Bool) (plan : Meaning Id V) (id : Id)
    (reads : List (Id × Plain V)) : Type 0 where
  pub job : Spec Id
  pub added : Contains (limit same plan).jobs job
  pub named : job.id ≡ id
  pub settled : list_all (is_settled same (limit same plan)) job.access.reads ≡ true
  pub reads_are : reads ≡ reads_in same (limit same plan) job.access.reads

-- the state of these jobs and of what came of them
abbrev pub state_from : {Id V : Type 0} → List (Spec Id) → List (Id × Plain V) → State Id V
state_from jobs values = record { jobs = jobs; values = values }

-- what came of a job is what comes of it in the limit
pub record IsOutcomeOf {Id V : Type 0} (same : Id → Id → Bool) (plan : Meaning Id V) (id : Id)
    (outcome : PlainOutcome V Id) : Type 0 where
  pub job : Spec Id
  pub added : Contains (limit same plan).jobs job
  pub named : job.id ≡ id
  pub is : outcome ≡ outcome_in same plan (limit same plan) job

-- the jobs that a job adds by what it reads in the limit
pub record IsAddedOf {Id V : Type 0} (same : Id → Id → Bool) (plan : Meaning Id V) (id : Id)
    (added : List (Spec Id)) : Type 0 where
  pub job : Spec Id
  pub there : Contains (limit same plan).jobs job
  pub named : job.id ≡ id
  pub is : added ≡ (outcome_in same plan (limit same plan) job).added
