-- the points so far and those of the nodes that are left are those of all; and so is what is noted
use Rattle.std.proofs.Common.{◌≡◌, ◌++◌, drop, map}
use Rattle.std.specs.Prelude.{flat_map}
use Rattle.refusal_codes.specs.First.{noted}
use Rattle.layer_shapes.specs.LayerRules.{node_failures}
use Rattle.layer_shapes.specs.LayerReading.{point_of}
use Rattle.layer_shapes.proofs.paths.read_nodes.Given as goal

abbrev pub invariant-loop-node : goal.invariant-loop-node
invariant-loop-node l =
    (l.points.items ++ map (point_of l.tree) (drop l.node-index l.nodes)
    ≡ map (point_of l.tree) l.nodes)
    × (noted l.first (flat_map (node_failures l.tree) (drop l.node-index l.nodes))
    ≡ noted l.initial.first (flat_map (node_failures l.tree) l.nodes))
