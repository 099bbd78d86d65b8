-- what is found among the items that are left is what is found among all
use Rattle.std.proofs.Common.{◌≡◌, drop, map}
use Rattle.access_context.specs.Read.{plain_item, read_of}
use Rattle.access_context.proofs.reads.first_found.Given as goal

abbrev pub invariant-loop-item : goal.invariant-loop-item
invariant-loop-item g l = read_of g.Id.PartialEq.eq (map plain_item (drop l.item-index l.items))
    l.id ≡ read_of g.Id.PartialEq.eq (map plain_item l.items) l.id
