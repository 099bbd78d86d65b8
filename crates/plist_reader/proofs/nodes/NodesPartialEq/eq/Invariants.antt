-- what is left of both lists is the same exactly where all is
use Rattle.std.proofs.Common.{◌≡◌, length, drop}
use Rattle.std.specs.Cmp.Lexicographic.{pointwise}
use Rattle.plist_reader.specs.Same.{same_node}
use Rattle.plist_reader.proofs.nodes.NodesPartialEq.eq.Given as goal

abbrev pub invariant-loop-index : goal.invariant-loop-index
invariant-loop-index l = (length l.self ≡ length l.other)
    × (pointwise same_node (drop l.index l.self) (drop l.index l.other)
    ≡ pointwise same_node l.self l.other)
