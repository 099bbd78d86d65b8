-- What SureFiles reads and counts. fontc's own.
use Rattle.std.specs.Prelude.{ℕ, ◌+◌, min, Bool, true, false, if◌then◌else◌, List}
use Rattle.outside_io.specs.Counts.{last_count}
use Rattle.outside_io.specs.Files.{Holding, Untold, Bytes}

-- one source for every path, and how many bytes were appended to all paths
pub record Sure : Type 0 where
  pub source : List ℕ
  -- whether a path was begun or appended to
  pub is_written : Bool
  -- up to the last value of a count
  pub appended : ℕ

-- each path holds the source until one is written: what they hold from then on isn't told
abbrev pub sure_holding : Sure → Holding
sure_holding s = if s.is_written then Untold else Bytes s.source

-- a count of bytes after so many more
abbrev pub added : ℕ → ℕ → ℕ
added count more = min (count + more) last_count
