-- what is found among the pairs that are left is what is found among all
use Rattle.std.proofs.Common.{◌≡◌, drop}
use Rattle.plist_reader.specs.Tree.{value_with}
use Rattle.plist_reader.proofs.tree.Tree.value_with.Given as goal

abbrev pub invariant-loop-pair : goal.invariant-loop-pair
invariant-loop-pair l = value_with l.self l.key (drop l.pair-index l.pairs)
    ≡ value_with l.self l.key l.pairs
