-- what is noted of the values that are left is what is noted of all
use Rattle.std.proofs.Common.{◌≡◌, drop}
use Rattle.std.specs.Prelude.{flat_map}
use Rattle.refusal_codes.specs.First.{noted}
use Rattle.source_values.proofs.asking.note_items.Given as goal

abbrev pub invariant-loop-item : goal.invariant-loop-item
invariant-loop-item g l =
    let failures = g.A.Asked.failures l.asked l.tree in
    noted l.first (flat_map failures (drop l.item-index l.items))
    ≡ noted l.initial.first (flat_map failures l.items)
