use Rattle.std.proofs.Common.{◌≡◌, length}
use Rattle.std.specs.Prelude.{All}
use Rattle.font_ir.specs.Coordinates.{HasAxis}
use Rattle.axis_space.specs.Placing.{HasAxes}
use Rattle.model_tests.proofs.axes.masters.Given as goal

abbrev pub invariant-loop-place : goal.invariant-loop-place
invariant-loop-place l =
    (length l.masters.items ≡ l.place-index) × All (HasAxis 0) l.masters.items
    × All (HasAxes 1) l.masters.items
