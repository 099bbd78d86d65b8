use Rattle.std.proofs.Common.{◌≡◌, ◌+◌, ◌<◌, ◌^◌, drop}
use Rattle.font_assembly.specs.File.{room_of_all, head_offset, first_offset}
use Rattle.font_assembly.specs.Assembled.{tables_of}
use Rattle.font_assembly.proofs.file.head_offset.Given as goal

abbrev pub invariant-loop-table : goal.invariant-loop-table
invariant-loop-table l = record {
  found : head_offset (tables_of (drop l.table-index l.tables)) l.offset
      ≡ head_offset (tables_of l.tables) (first_offset (tables_of l.tables));
  fits : l.offset + room_of_all (tables_of (drop l.table-index l.tables)) < 2 ^ 32;
}
