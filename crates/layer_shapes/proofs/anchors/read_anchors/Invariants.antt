-- the anchors so far, with those of the rest whose names aren't seen, are all; and what is noted, with
-- what is noted of the rest, is what is noted of all
use Rattle.std.proofs.Common.{◌≡◌, ◌++◌, drop, map, nat_eq}
use Rattle.std.specs.Prelude.{flat_map}
use Rattle.std.specs.HashSet.{contains}
use Rattle.std.specs.Cmp.Lexicographic.{pointwise}
use Rattle.refusal_codes.specs.First.{noted}
use Rattle.layer_shapes.specs.LayerRules.{anchor_failures}
use Rattle.layer_shapes.specs.LayerReading.{anchor_of, first_of_each_name}
use Rattle.layer_shapes.proofs.AnchorTurns.{unseen}
use Rattle.layer_shapes.proofs.anchors.read_anchors.Given as goal

abbrev pub invariant-loop-number : goal.invariant-loop-number
invariant-loop-number l =
    (l.anchors.items
    ++ unseen (contains (pointwise nat_eq) l.seen)
    (first_of_each_name (map (anchor_of l.tree) (drop l.number-index l.numbers)))
    ≡ first_of_each_name (map (anchor_of l.tree) l.numbers))
    × (noted l.first (flat_map (anchor_failures l.tree) (drop l.number-index l.numbers))
    ≡ noted l.initial.first (flat_map (anchor_failures l.tree) l.numbers))
