-- the shapes so far and those that are left are all; and so is what is noted
use Rattle.std.proofs.Common.{◌≡◌, ◌++◌, drop}
use Rattle.std.specs.Prelude.{flat_map}
use Rattle.refusal_codes.specs.First.{noted}
use Rattle.layer_shapes.specs.LayerRules.{shape_failures}
use Rattle.layer_shapes.specs.LayerReading.{shapes_of}
use Rattle.layer_shapes.proofs.shapes.read_shapes.Given as goal

abbrev pub invariant-loop-number : goal.invariant-loop-number
invariant-loop-number l =
    (l.shapes.items ++ flat_map (shapes_of l.tree) (drop l.number-index l.numbers)
    ≡ flat_map (shapes_of l.tree) l.numbers)
    × (noted l.first (flat_map (shape_failures l.tree) (drop l.number-index l.numbers))
    ≡ noted l.initial.first (flat_map (shape_failures l.tree) l.numbers))
