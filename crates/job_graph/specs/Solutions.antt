-- A plan that is solved: what each of its jobs is, which of them are ever added and what comes of
-- each, all told by their ids alone,
-- with no word on rounds, workers or an order. fontc's own.
use Rattle.std.specs.Prelude.{◌≡◌, ◌↔◌, ◌⊎◌, ℕ, ◌<◌, ◌≤◌, Bool, false, IsTrue, List, [], map, Some}
use Rattle.std.specs.Prelude.{Contains}
use Rattle.access_context.specs.declared.access.Spec.{Spec}
use Rattle.access_context.specs.Plain.{Plain, PlainOutcome, is_done}
use Rattle.job_graph.specs.Meaning.{Meaning}
use Rattle.job_graph.specs.Rounds.{value_in, outcome_of, limit}

-- same tells whether two ids are one. There says of an id that its job is added at some time.
module _ {Id V : Type 0} (same : Id → Id → Bool) (plan : Meaning Id V) (spec_of : Id → Spec Id)
    (There : Id → Type 0) (value_of : Id → Plain V) where
  -- what comes of a job by the values of what it reads
  abbrev pub solved_outcome : Id → PlainOutcome V Id
  solved_outcome id = outcome_of same plan id
      (map (λ read. (read, value_of read)) (spec_of id).access.reads)

  -- the job is an opening one or a founded one adds it, each item that it reads is founded, and so
  -- is each job that is there and that
  -- it awaits. A cycle of jobs that read one another is not founded.
  pub data Founded : Id → Type 0 where
    opened :
        (id : Id)
        → Contains plan.opening (spec_of id)
        → ((read : Id) → Contains (spec_of id).access.reads read → Founded read)
        → ((stratum : ℕ) (other : Id) → (spec_of id).access.awaits ≡ Some stratum → There other
        → plan.stratum other ≤ stratum → Founded other)
        → Founded id
    added :
        (id maker : Id)
        → Founded maker
        → Contains (solved_outcome maker).added (spec_of id)
        → ((read : Id) → Contains (spec_of id).access.reads read → Founded read)
        → ((stratum : ℕ) (other : Id) → (spec_of id).access.awaits ≡ Some stratum → There other
        → plan.stratum other ≤ stratum → Founded other)
        → Founded id

  -- a founded job adds this one
  pub record IsMade (id : Id) : Type 0 where
    pub maker : Id
    pub founded : Founded maker
    pub adds : Contains (solved_outcome maker).added (spec_of id)

  pub record IsSolution : Type 0 where
    -- ids that compare equal are one id
    pub identity : (x y : Id) → IsTrue (same x y) ↔ (x ≡ y)
    -- what has no value adds nothing
    pub quiet : (id : Id) (reads : List (Id × Plain V))
        → is_done (plan.outcome id reads).value ≡ false → (plan.outcome id reads).added ≡ []
    -- each id has one job
    pub named : (id : Id) → (spec_of id).id ≡ id
    -- the opening jobs are there
    pub opening : (job : Spec Id) → Contains plan.opening job
        → There job.id × (job ≡ spec_of job.id)
    -- a founded job has its value, and the jobs that it adds are there
    pub value : (id : Id) → Founded id → (solved_outcome id).value ≡ value_of id
    pub adds : (id : Id) (job : Spec Id) → Founded id → Contains (solved_outcome id).added job
        → There job.id × (job ≡ spec_of job.id)
    -- and no others are: each is an opening one, or a founded one adds it
    pub least : (id : Id) → There id → Contains plan.opening (spec_of id) ⊎ IsMade id
    -- what is there is finite
    pub in_universe : (id : Id) → There id → Contains plan.universe id
    -- an added job's stratum is at least its maker's
    pub above_maker :
        (id : Id) (job : Spec Id)
        → There id
        → ((read : Id) → Contains (spec_of id).access.reads read → Founded read)
        → Contains (solved_outcome id).added job
        → plan.stratum id ≤ plan.stratum job.id
    -- a job that awaits a stratum is of a higher one
    pub above_awaited : (id : Id) (stratum : ℕ) → There id
        → (spec_of id).access.awaits ≡ Some stratum → stratum < plan.stratum id
    -- what a job reads is of its stratum or a lower one
    pub above_reads : (id read : Id) → There id → Contains (spec_of id).access.reads read
        → plan.stratum read ≤ plan.stratum id

  -- what the limit of a solved plan is: its jobs are those that are there, and exactly the founded
  -- ones have values
  pub record IsSolved : Type 0 where
    pub jobs : (job : Spec Id) → Contains (limit same plan).jobs job
        → There job.id × (job ≡ spec_of job.id)
    pub all_there : (id : Id) → There id → Contains (limit same plan).jobs (spec_of id)
    pub values : (id : Id) (x : Plain V) → value_in same (limit same plan) id ≡ Some x
        → Founded id × (x ≡ value_of id)
    pub founded : (id : Id) → Founded id → value_in same (limit same plan) id ≡ Some (value_of id)
