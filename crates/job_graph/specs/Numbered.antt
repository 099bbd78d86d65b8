-- What the index of a board's jobs keeps. It serves the body of a board, and no contract of a
-- public call. fontc's own.
use Rattle.std.specs.Prelude.{◌≡◌, Bool, List, ◌++◌, length, map}
use Rattle.std.specs.declared.cmp.Ordering.{Ordering}
use Rattle.access_context.specs.declared.access.Spec.{Spec}
use Rattle.access_context.specs.Places.{IsIndex}
use Rattle.job_graph.specs.declared.numbers.Numbers.{Numbers}

-- a job under its id
abbrev pub entry_of : {Id : Type 0} → Spec Id → Id × Spec Id
entry_of job = (job.id, job)

-- of each id the place of its first job, among so many of the first jobs
pub record IsNumbered {Id : Type 0} (same : Id → Id → Bool) (order : Id → Id → Ordering)
    (jobs : List (Spec Id)) (numbers : Numbers Id) : Type 0 where
  pub known : List (Spec Id)
  pub left : List (Spec Id)
  pub are : jobs ≡ known ++ left
  pub count : numbers.count ≡ length known
  pub index : IsIndex same order numbers.places (map entry_of known)
