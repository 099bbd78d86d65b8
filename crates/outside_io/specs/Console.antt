-- What a console took, as far as an object tells it. fontc's own.
use Rattle.std.specs.Prelude.{◌≡◌, ◌⊎◌, ℕ, ◌-◌, ◌≤◌, min, Bool, ◌||◌, ◌==◌, if◌then◌else◌, List, []}
use Rattle.std.specs.Prelude.{◌++◌, length, Option, Some, None}
use Rattle.std.specs.Option.{option_map}
use Rattle.outside_io.specs.Counts.{last_count, raised}
use Rattle.outside_io.specs.Memory.{is_next}

-- what the console took once it took these bytes behind those before
abbrev pub with_more : List ℕ → Option (List ℕ) → Option (List ℕ)
with_more bytes took = option_map (λ before. before ++ bytes) took

-- After a call the console took what is expected, or no longer tells what it took. Where it didn't
-- tell before the call, what is expected isn't told either.
abbrev pub TookNow : Option (List ℕ) → Option (List ℕ) → Type 0
TookNow expected new = (new ≡ None) ⊎ (new ≡ expected)

-- a console in memory
pub record ConsoleMemory : Type 0 where
  -- all bytes that it took
  pub taken : List ℕ
  -- how many it may still take
  pub room : ℕ
  -- the numbers of the writes that are to fail, counted from 1
  pub listed : List ℕ
  -- how many writes there were, up to the last value of a count
  pub calls : ℕ
  pub failed_writes : ℕ

-- a console that took nothing, with room for this many bytes
abbrev pub empty_console : ℕ → ConsoleMemory
empty_console room = record { taken = []; room = room; listed = []; calls = 0; failed_writes = 0 }

-- How many of some bytes a write takes. It fails exactly where the write is listed or no room is
-- left.
abbrev pub write_count : ConsoleMemory → ℕ → Option ℕ
write_count m count = if is_next m.listed m.calls
    || m.room == 0 then None else Some (min count m.room)

-- after a write that took these bytes
abbrev pub written : ConsoleMemory → List ℕ → ConsoleMemory
written m bytes = record m {
  taken = m.taken
      ++ bytes;
  room = m.room - length bytes;
  calls = raised m.calls;
}

-- after a failed write
abbrev pub write_failed : ConsoleMemory → ConsoleMemory
write_failed m = record m { calls = raised m.calls; failed_writes = raised m.failed_writes }
