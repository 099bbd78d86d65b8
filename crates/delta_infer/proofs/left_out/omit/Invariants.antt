use Rattle.std.proofs.Common.{◌≡◌, ◌+◌, ◌++◌, drop, map, length}
use Rattle.std.specs.List.{sum_by}
use Rattle.delta_infer.specs.Omitted.{omitted}
use Rattle.delta_infer.proofs.left_out.omit.Given as goal

abbrev pub invariant-loop-contour : goal.invariant-loop-contour
invariant-loop-contour l =
    record {
      sizes : l.from + sum_by (λ contour. length contour.items) (drop l.contour-index l.contours)
          ≡ length l.deltas;
      told : l.marks.items ++ omitted (map (λ contour. contour.items)
          (drop l.contour-index l.contours)) (drop l.from l.deltas)
          ≡ omitted (map (λ contour. contour.items) l.contours) l.deltas;
    }
