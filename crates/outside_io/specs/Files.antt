-- What paths hold, as far as an object tells it, and how calls change it. fontc's own.
use Rattle.std.specs.Prelude.{◌≡◌, ◌≢◌, ◌⊎◌, ℕ, ◌-◌, ◌≤◌, List, [], ◌++◌, length, take, drop}
use Rattle.std.specs.Prelude.{Option, Some, None, IfSome}

-- what a path holds: the object doesn't tell it, or there is no such path, or it holds these bytes
pub data Holding : Type 0 where
  Untold : Holding
  Absent : Holding
  Bytes : List ℕ → Holding

-- the bytes that a path is told to hold: none where there is no such path
abbrev pub told_bytes : Holding → Option (List ℕ)
told_bytes Untold = None
told_bytes Absent = Some []
told_bytes (Bytes bytes) = Some bytes

-- what a path holds once these bytes stand in place of all that it held
abbrev pub replaced_by : List ℕ → Holding → Holding
replaced_by bytes Untold = Untold
replaced_by bytes Absent = Bytes bytes
replaced_by bytes (Bytes _) = Bytes bytes

-- what a path holds once these bytes stand behind what it held
abbrev pub followed_by : List ℕ → Holding → Holding
followed_by bytes Untold = Untold
followed_by bytes Absent = Bytes bytes
followed_by bytes (Bytes before) = Bytes (before ++ bytes)

-- After a call the path holds what is expected, or is no longer told. Where it wasn't told before
-- the call, what is expected is untold too: no call tells what wasn't told before it.
abbrev pub Leaves : Holding → Holding → Type 0
Leaves expected new = (new ≡ Untold) ⊎ (new ≡ expected)

-- each other path is as before, or is no longer told
abbrev pub LeavesOthers : List ℕ → (List ℕ → Holding) → (List ℕ → Holding) → Type 0
LeavesOthers path old new = (other : List ℕ) → other ≢ path → Leaves (old other) (new other)

-- each path is as before, and as far told as before
abbrev pub LeavesAll : (List ℕ → Holding) → (List ℕ → Holding) → Type 0
LeavesAll old new = (path : List ℕ) → new path ≡ old path

-- the first n bytes of a buffer are n bytes of the path from a place on, where the object tells the
-- path
abbrev pub GivesBytes : Holding → ℕ → ℕ → List ℕ → Type 0
GivesBytes holding place n buffer =
    IfSome (told_bytes holding) (λ bytes. (n ≤ length bytes - place)
    × (take n buffer ≡ take n (drop place bytes)))

-- the path has no byte from a place on, where the object tells the path
abbrev pub EndsBy : Holding → ℕ → Type 0
EndsBy holding place = IfSome (told_bytes holding) (λ bytes. length bytes ≤ place)
