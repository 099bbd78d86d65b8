-- The places that MemFiles keeps for paths, as the paths that it holds.
use Rattle.std.specs.Prelude.{ℕ, ◌+◌, ◌≤◌, List, All, vec_len, vec_capacity}
use Rattle.outside_io.specs.Memory.{longest_name}
use Rattle.outside_io.specs.declared.mem_files.Slot.{Slot}

-- a place, as a path and its bytes
abbrev pub shown : Slot → List ℕ × List ℕ
shown slot = (slot.name.items, slot.bytes.items)

-- a place has memory for a name and for this many more bytes
pub record HasRoom (room : ℕ) (slot : Slot) : Type 0 where
  pub name : longest_name ≤ vec_capacity slot.name
  pub bytes : vec_len slot.bytes + room ≤ vec_capacity slot.bytes

-- each place has
abbrev pub AllHaveRoom : ℕ → List Slot → Type 0
AllHaveRoom room slots = All (HasRoom room) slots
