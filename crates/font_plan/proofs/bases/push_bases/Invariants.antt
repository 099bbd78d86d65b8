-- the numbers so far are those of the bases of the shapes before this one
use Rattle.std.proofs.Common.{◌≡◌, ◌++◌, take}
use Rattle.std.specs.List.{flat_map}
use Rattle.font_plan.specs.Bases.{shape_bases}
use Rattle.font_plan.proofs.bases.push_bases.Given as goal

abbrev pub invariant-loop-shape : goal.invariant-loop-shape
invariant-loop-shape l = l.bases.items
    ≡ l.initial.bases.items ++ flat_map (shape_bases l.index) (take l.shape-index l.shapes)
