-- What a plan must keep, so that no order of its jobs changes a value. fontc's own.
use Rattle.std.specs.Prelude.{◌≡◌, ℕ, ◌<◌, ◌≤◌, Bool, false, IsTrue, ◌↔◌, List, [], Contains, Some}
use Rattle.access_context.specs.declared.access.Spec.{Spec}
use Rattle.access_context.specs.Plain.{Plain, is_done}
use Rattle.job_graph.specs.Meaning.{Meaning}
use Rattle.job_graph.specs.Rounds.{rounds, outcome_in}

pub record IsLawful {Id V : Type 0} (same : Id → Id → Bool) (plan : Meaning Id V) : Type 0 where
  -- ids that compare equal are one id
  pub identity : (x y : Id) → IsTrue (same x y) ↔ (x ≡ y)
  -- what has no value adds nothing
  pub quiet : (id : Id) (reads : List (Id × Plain V))
      → is_done (plan.outcome id reads).value ≡ false → (plan.outcome id reads).added ≡ []
  -- in every state that the rounds reach: an added job's stratum is at least its maker's
  pub above_maker :
      (n : ℕ) (maker job : Spec Id)
      → Contains (rounds same plan n).jobs maker
      → Contains (outcome_in same plan (rounds same plan n) maker).added job
      → plan.stratum maker.id ≤ plan.stratum job.id
  -- a job that awaits a stratum is of a higher one
  pub above_awaited : (n : ℕ) (job : Spec Id) (stratum : ℕ) → Contains (rounds same plan n).jobs job
      → job.access.awaits ≡ Some stratum → stratum < plan.stratum job.id
  -- what a job reads is of its stratum or a lower one
  pub above_reads : (n : ℕ) (job : Spec Id) (read : Id) → Contains (rounds same plan n).jobs job
      → Contains job.access.reads read → plan.stratum read ≤ plan.stratum job.id
  -- an id never has two specs
  pub one_spec : (n : ℕ) (job other : Spec Id) → Contains (rounds same plan n).jobs job
      → Contains (rounds same plan n).jobs other → job.id ≡ other.id → job ≡ other
  -- the ids are finitely many
  pub in_universe : (n : ℕ) (job : Spec Id) → Contains (rounds same plan n).jobs job
      → Contains plan.universe job.id
