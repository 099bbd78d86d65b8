-- What a plan means: its jobs as functions of what they read. fontc's own.
use Rattle.std.specs.Prelude.{ℕ, List}
use Rattle.access_context.specs.declared.access.Spec.{Spec}
use Rattle.access_context.specs.Plain.{Plain, PlainOutcome}

pub record Meaning (Id V : Type 0) : Type 0 where
  -- the jobs that are there from the start
  pub opening : List (Spec Id)
  pub stratum : Id → ℕ
  -- what comes of a job, and the jobs that it adds, by what it reads
  pub outcome : Id → List (Id × Plain V) → PlainOutcome V Id
  -- every id that a job of the plan ever has
  pub universe : List Id
