use Rattle.std.proofs.Common.{◌≡◌, ◌-◌}
use Rattle.font_reader.specs.Search.{first_found}
use Rattle.font_reader.specs.Cmap.{subtable_in}
use Rattle.font_reader.proofs.cmap.subtable_of.Given as goal

abbrev pub invariant-loop-i : goal.invariant-loop-i
invariant-loop-i l = first_found (subtable_in l.bytes l.cmap l.encoding) l.i (l.end - l.i)
    ≡ first_found (subtable_in l.bytes l.cmap l.encoding) 0 l.end
