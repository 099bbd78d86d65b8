use Rattle.std.proofs.Common.{◌≡◌, ◌+◌, ◌<◌, ◌^◌, min, drop}
use Rattle.font_assembly.specs.File.{room_of_all, file_len}
use Rattle.font_assembly.specs.Assembled.{tables_of}
use Rattle.font_assembly.proofs.file.file_len.Given as goal

abbrev pub invariant-loop-table : goal.invariant-loop-table
invariant-loop-table l = record {
  so_far : min (l.len + room_of_all (tables_of (drop l.table-index l.tables))) 18446744073709551615
      ≡ min (file_len (tables_of l.tables)) 18446744073709551615;
  fits : l.len < 2 ^ 64;
}
