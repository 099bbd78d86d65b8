use Rattle.std.proofs.Common.{◌≡◌, ◌-◌}
use Rattle.font_reader.specs.Search.{first_found}
use Rattle.font_reader.specs.Shapes.{last_component}
use Rattle.font_reader.proofs.shapes.components_to_last.Given as goal

abbrev pub invariant-loop-i : goal.invariant-loop-i
invariant-loop-i l = first_found (last_component l.bytes l.glyf l.at) l.i (l.end - l.i)
    ≡ first_found (last_component l.bytes l.glyf l.at) 0 l.end
