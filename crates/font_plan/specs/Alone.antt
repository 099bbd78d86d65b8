-- A board over a source with one worker, who has no job out; and one that has ended. fontc's own.
use Rattle.std.specs.Prelude.{◌≡◌, ℕ, ◌+◌, ◌*◌, false, List, [], ◌∷◌, None, length}
use Rattle.job_graph.specs.declared.event.End.TheVariants as end
use Rattle.job_graph.specs.BoardView.{BoardView}
use Rattle.job_graph.specs.Histories.{out_of, has_halted, end_of}
use Rattle.font_graph.specs.Graph.{plan}
use Rattle.font_graph.specs.Same.{same_id}
use Rattle.font_graph.specs.declared.ids.JobId.{JobId}
use Rattle.font_plan.specs.Jobs.{parts}

-- a board over a source
abbrev pub SourceBoard : Type 0
SourceBoard = BoardView (List ℕ) JobId

pub record IsAlone (board : SourceBoard) : Type 0 where
  pub one : board.workers ≡ 1
  pub outs : out_of 1 board.events ≡ None ∷ []
  pub going : has_halted board.events ≡ false

abbrev pub HasEnded : SourceBoard → Type 0
HasEnded board = end_of same_id (plan (parts board.plan) same_id) board.workers board.events
    ≡ end.Ended

-- the most events that such a board can have
abbrev pub most_events : List ℕ → ℕ
most_events source = 2 * length (plan (parts source) same_id).universe + 1
