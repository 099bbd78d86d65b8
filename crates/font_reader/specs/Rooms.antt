-- How many points a room has.
use Rattle.std.specs.Prelude.{◌≡◌, ◌≤◌, ℕ, length}
use Rattle.font_reader.specs.declared.room.Room.{Room}

-- so many
abbrev pub IsRoomOf : ℕ → Room → Type 0
IsRoomOf points room = (length room.xs.items ≡ points) × (length room.ys.items ≡ points)

-- at least so many
abbrev pub HasRoomFor : Room → ℕ → Type 0
HasRoomFor room points = (points ≤ length room.xs.items) × (points ≤ length room.ys.items)

-- as many as another one
abbrev pub IsAsLarge : Room → Room → Type 0
IsAsLarge before after = (length after.xs.items ≡ length before.xs.items)
    × (length after.ys.items ≡ length before.ys.items)
