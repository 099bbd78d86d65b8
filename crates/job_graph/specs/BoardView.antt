-- A board, as its callers see it. fontc's own.
use Rattle.std.specs.Prelude.{◌≡◌, ℕ, ◌≢◌, List, Option, Some}
use Rattle.job_graph.specs.declared.event.Event.{Event}
use Rattle.job_graph.specs.Histories.{out_at}

-- the plan, how many workers there are, and what happened
pub record BoardView (P Id : Type 0) : Type 0 where
  pub plan : P
  pub workers : ℕ
  pub events : List (Event Id)

-- one worker has this out, and each other worker what it had
pub record NowHas {P Id : Type 0} (old new : BoardView P Id) (worker : ℕ) (out : Option Id)
    : Type 0 where
  pub here : out_at new.workers new.events worker ≡ Some out
  pub others : (other : ℕ) → other ≢ worker
      → out_at new.workers new.events other ≡ out_at old.workers old.events other
