-- the first master of those that are left whose id stands before is the first of all
use Rattle.std.proofs.Common.{◌≡◌, [], drop, take, map}
use Rattle.source_masters.specs.WholeRules.{master_id, repeated_ids}
use Rattle.source_masters.proofs.whole_rules.first_duplicate.Given as goal

abbrev pub invariant-loop-index : goal.invariant-loop-index
invariant-loop-index l =
    repeated_ids l.tree (map (master_id l.tree) (take l.index l.masters)) (drop l.index l.masters)
    ≡ repeated_ids l.tree [] l.masters
