-- the index tells where the first of the items from here on stands
use Rattle.std.proofs.Common.{◌≡◌, ◌≤◌, drop, length}
use Rattle.std.specs.BTreeMap as tree
use Rattle.access_context.specs.Places.{place_from}
use Rattle.access_context.proofs.reads.places_of.Given as goal

abbrev pub invariant-loop-place : goal.invariant-loop-place
invariant-loop-place g l = (id : g.row.Id.Denot)
    → tree.get g.Id.Ord.cmp l.places id ≡ place_from g.Id.PartialEq.eq l.place
    (drop l.place l.items) id
