use Rattle.std.proofs.Common.{◌≡◌, vec_len}
use Rattle.outside_io.specs.Slots.{AllHaveRoom}
use Rattle.outside_io.proofs.mem_files.MemFiles.with_room.Given as goal

abbrev pub invariant-loop : goal.invariant-loop
invariant-loop l = (vec_len l.slots ≡ l.counter) × AllHaveRoom l.room l.slots.items
