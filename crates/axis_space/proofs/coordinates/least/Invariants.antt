use Rattle.std.proofs.Common.{◌≡◌, take}
use Rattle.std.specs.List.{fold}
use Rattle.std.specs.Int.{int_min}
use Rattle.font_ir.specs.Coordinates.{coordinate_on}
use Rattle.axis_space.proofs.coordinates.least.Given as goal

abbrev pub invariant-loop-master : goal.invariant-loop-master
invariant-loop-master l =
    l.low ≡ fold (λ best m. int_min best (coordinate_on l.kind l.axis m).0) l.fn.from.0
    (take l.master-index l.masters)
