use Rattle.std.proofs.Common.{◌≡◌, drop, map}
use Rattle.access_context.specs.Read.{plain_item, all_done}
use Rattle.access_context.proofs.reads.each_done.Given as goal

abbrev pub invariant-loop-item : goal.invariant-loop-item
invariant-loop-item g l = all_done (map plain_item (drop l.item-index l.items))
    ≡ all_done (map plain_item l.items)
