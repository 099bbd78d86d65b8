use Rattle.std.proofs.Common.{◌≡◌, ◌-◌}
use Rattle.font_reader.specs.Search.{first_some}
use Rattle.font_reader.specs.Directory.{table_in_entry}
use Rattle.font_reader.proofs.directory.table_of.Given as goal

abbrev pub invariant-loop-i : goal.invariant-loop-i
invariant-loop-i l = first_some (table_in_entry l.bytes l.tag) l.i (l.count - l.i)
    ≡ first_some (table_in_entry l.bytes l.tag) 0 l.count
