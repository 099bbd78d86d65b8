-- What MemFiles holds, and how its calls go. fontc's own.
use Rattle.std.specs.Prelude.{◌≡◌, ℕ, ◌+◌, ◌-◌, ◌≤◌, min, Bool, true, false, not, ◌&&◌, ◌||◌, ◌==◌}
use Rattle.std.specs.Prelude.{nat_lt, nat_le, if◌then◌else◌, List, [], ◌∷◌, ◌++◌, length, Option}
use Rattle.std.specs.Prelude.{Some, None, is_some, unwrap_or}
use Rattle.std.specs.List.{list_any, position_from}
use Rattle.std.specs.Str.{bytes_eq}
use Rattle.outside_io.specs.Counts.{last_count, raised}
use Rattle.outside_io.specs.Files.{Holding, Absent, Bytes}

-- files in memory
pub record Memory : Type 0 where
  -- the paths that are there, in the order in which they came, each with its bytes
  pub paths : List (List ℕ × List ℕ)
  -- how many paths may be there
  pub most_paths : ℕ
  -- how many bytes appends may still add
  pub room : ℕ
  -- how many bytes one read or append handles at most
  pub step : ℕ
  -- the numbers of the calls that are to fail, counted from 1
  pub listed : List ℕ
  -- how many calls there were, up to the last value of a count
  pub calls : ℕ
  pub failed_reads : ℕ
  pub failed_writes : ℕ

-- what holds of all files in memory
pub record IsSound (m : Memory) : Type 0 where
  pub step : 1 ≤ m.step
  pub failed_reads : m.failed_reads ≤ last_count
  pub failed_writes : m.failed_writes ≤ last_count

-- the longest name of a path, in bytes
abbrev pub longest_name : ℕ
longest_name = 255

-- the bytes of a path
abbrev pub bytes_at : List (List ℕ × List ℕ) → List ℕ → Option (List ℕ)
bytes_at [] path = None
bytes_at (entry ∷ entries) path = if bytes_eq entry.0 path then Some entry.1 else bytes_at entries
    path

-- the place of a path among them, from 0
abbrev pub number_of : List (List ℕ × List ℕ) → List ℕ → Option ℕ
number_of entries path = position_from (λ entry. bytes_eq entry.0 path) 0 entries

-- the paths once this one holds these bytes: a new one comes last
abbrev pub with_bytes : List (List ℕ × List ℕ) → List ℕ → List ℕ → List (List ℕ × List ℕ)
with_bytes [] path bytes = (path, bytes) ∷ []
with_bytes (entry ∷ entries) path bytes =
    if bytes_eq entry.0 path then (entry.0, bytes) ∷ entries else entry
    ∷ with_bytes entries path bytes

-- a path that isn't there holds nothing
abbrev pub holding_of : Option (List ℕ) → Holding
holding_of None = Absent
holding_of (Some bytes) = Bytes bytes

-- files without a path, of which this many may come, with room for this many bytes
abbrev pub empty_memory : ℕ → ℕ → Memory
empty_memory most_paths room = record {
  paths = [];
  most_paths = most_paths;
  room = room;
  step = 18446744073709551615;
  listed = [];
  calls = 0;
  failed_reads = 0;
  failed_writes = 0;
}

-- whether a path is there, or one more is allowed and this is no too long a name for it
abbrev pub has_place : Memory → List ℕ → Bool
has_place m path =
    is_some (bytes_at m.paths path) || (nat_lt (length m.paths) m.most_paths
    && nat_le (length path) longest_name)

-- whether the next call, after so many, is one of those that are to fail
abbrev pub is_next : List ℕ → ℕ → Bool
is_next listed calls = list_any (λ call. call == raised calls) listed

abbrev pub is_listed : Memory → Bool
is_listed m = is_next m.listed m.calls

-- how many bytes of a path a read gives that may give this many
abbrev pub readable : Option (List ℕ) → ℕ → ℕ → Option ℕ
readable None place most = None
readable (Some bytes) place most = Some (min most (length bytes - place))

-- How many bytes a read into this much space gives. It fails exactly where the call is listed or
-- the path isn't there.
abbrev pub read_count : Memory → List ℕ → ℕ → ℕ → Option ℕ
read_count m path place space =
    if is_listed m then None else readable (bytes_at m.paths path) place (min space m.step)

-- Whether a begin succeeds. It fails exactly where the call is listed, or the path isn't there and
-- either no more path is allowed or its name is too long.
abbrev pub begins : Memory → List ℕ → Bool
begins m path = not (is_listed m) && has_place m path

-- How many of some bytes an append takes. It fails exactly where the call is listed, the path isn't
-- there, or no room is left.
abbrev pub append_count : Memory → List ℕ → ℕ → Option ℕ
append_count m path count =
    if is_listed m || (not (is_some (bytes_at m.paths path)) || m.room == 0) then None
    else Some (min (min count m.step) m.room)

-- after one more call
abbrev pub counted : Memory → Memory
counted m = record m { calls = raised m.calls }

-- after a failed read
abbrev pub read_failed : Memory → Memory
read_failed m = record m { calls = raised m.calls; failed_reads = raised m.failed_reads }

-- after a failed begin or append
abbrev pub write_failed : Memory → Memory
write_failed m = record m { calls = raised m.calls; failed_writes = raised m.failed_writes }

-- after a begin
abbrev pub begun : Memory → List ℕ → Memory
begun m path = record m { calls = raised m.calls; paths = with_bytes m.paths path [] }

-- after an append of these bytes
abbrev pub appended : Memory → List ℕ → List ℕ → Memory
appended m path bytes = record m {
  calls = raised m.calls;
  paths = with_bytes m.paths path (unwrap_or (bytes_at m.paths path) [] ++ bytes);
  room = m.room - length bytes;
}
