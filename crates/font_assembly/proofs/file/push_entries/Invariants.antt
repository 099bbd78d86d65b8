use Rattle.std.proofs.Common.{◌≡◌, ◌+◌, ◌*◌, ◌<◌, ◌^◌, ◌++◌, IsTrue, drop}
use Rattle.std.specs.Vec.{vec_len}
use Rattle.std.specs.List.{list_all}
use Rattle.font_assembly.specs.File.{room_of_all, directory_entries, first_offset, fits_head}
use Rattle.font_assembly.specs.Assembled.{tables_of}
use Rattle.font_assembly.proofs.file.push_entries.Given as goal

abbrev pub invariant-loop-table : goal.invariant-loop-table
invariant-loop-table l = record {
  bytes : l.font.items ++ directory_entries (tables_of (drop l.table-index l.tables)) l.offset
      ≡ l.fn.font.items ++ directory_entries (tables_of l.tables)
      (first_offset (tables_of l.tables));
  len : vec_len l.font ≡ vec_len l.fn.font + 16 * l.table-index;
  fits : l.offset + room_of_all (tables_of (drop l.table-index l.tables)) < 2 ^ 32;
  heads : IsTrue (list_all fits_head (tables_of (drop l.table-index l.tables)));
}
