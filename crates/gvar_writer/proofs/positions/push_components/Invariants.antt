use Rattle.std.proofs.Common.{◌≡◌, ◌++◌, map, take}
use Rattle.gvar_writer.specs.GlyphPoints.{component_position}
use Rattle.gvar_writer.proofs.positions.push_components.Given as goal

abbrev pub invariant-loop-component : goal.invariant-loop-component
invariant-loop-component l =
    l.positions.items ≡ l.fn.positions.items
    ++ map (component_position l.place) (take l.component-index l.kept)
