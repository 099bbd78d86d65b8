use Rattle.std.proofs.Common.{◌≡◌, ◌+◌, ◌++◌, IsTrue, drop}
use Rattle.std.specs.Vec.{vec_len}
use Rattle.std.specs.List.{list_all}
use Rattle.font_assembly.specs.File.{bodies, room_of_all, fits_head}
use Rattle.font_assembly.specs.Assembled.{tables_of}
use Rattle.font_assembly.proofs.file.push_bodies.Given as goal

abbrev pub invariant-loop-table : goal.invariant-loop-table
invariant-loop-table l = record {
  bytes : l.font.items ++ bodies (tables_of (drop l.table-index l.tables))
      ≡ l.fn.font.items ++ bodies (tables_of l.tables);
  len : vec_len l.font + room_of_all (tables_of (drop l.table-index l.tables))
      ≡ vec_len l.fn.font + room_of_all (tables_of l.tables);
  heads : IsTrue (list_all fits_head (tables_of (drop l.table-index l.tables)));
}
