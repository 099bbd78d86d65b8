use Rattle.std.proofs.Common.{◌≡◌, ◌-◌}
use Rattle.font_reader.specs.Search.{first_some}
use Rattle.font_reader.specs.Directory.{cut_table}
use Rattle.font_reader.proofs.directory.first_cut_table.Given as goal

abbrev pub invariant-loop-i : goal.invariant-loop-i
invariant-loop-i l = first_some (cut_table l.bytes) l.i (l.count - l.i)
    ≡ first_some (cut_table l.bytes) 0 l.count
