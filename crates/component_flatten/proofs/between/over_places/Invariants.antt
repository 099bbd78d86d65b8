use Rattle.std.proofs.Common.{◌≡◌, ◌++◌, drop, map}
use Rattle.component_flatten.specs.Places.{point_in}
use Rattle.component_flatten.proofs.between.over_places.Given as goal

abbrev pub invariant-loop-contours : goal.invariant-loop-contours
invariant-loop-contours l =
    l.points ++ map (λ contours. point_in contours l.c l.j) (drop l.contours-index l.drawn)
    ≡ map (λ contours. point_in contours l.c l.j) l.drawn
