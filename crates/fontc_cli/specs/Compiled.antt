-- What came of a compilation: the board of its jobs, and the font. fontc's own.
use Rattle.std.specs.Prelude.{◌≡◌, ℕ, ◌/◌, List, length, Option, Ok, IfSome}
use Rattle.font_plan.specs.Alone.{SourceBoard, HasEnded}
use Rattle.font_plan.specs.Font.{font_of}

-- A board that has ended, over this source, where it is told. It has one worker, and its verdict is
-- this font.
pub record IsBoardOf (source : Option (List ℕ)) (font : List ℕ) (board : SourceBoard) : Type 0 where
  pub ended : HasEnded board
  pub one_worker : board.workers ≡ 1
  pub over : IfSome source (λ bytes. board.plan ≡ bytes)
  pub verdict : font_of board.plan ≡ Ok font

-- how many jobs were run on a board that has ended: each was claimed once, and finished once
abbrev pub jobs_run : SourceBoard → ℕ
jobs_run board = length board.events / 2
