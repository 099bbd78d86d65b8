-- what is noted of the values that are left is what is noted of all
use Rattle.std.proofs.Common.{◌≡◌, drop, map}
use Rattle.std.specs.Prelude.{flat_map}
use Rattle.std.specs.List.{zip}
use Rattle.refusal_codes.specs.First.{noted}
use Rattle.source_masters.specs.Metrics.{is_used, value_failures}
use Rattle.source_masters.proofs.metrics.note_heights.Given as goal

abbrev pub invariant-loop-index : goal.invariant-loop-index
invariant-loop-index l =
    let beside = zip (map (is_used l.tree) l.metrics) l.values in
    noted l.first (flat_map (value_failures l.tree) (drop l.index beside))
    ≡ noted l.initial.first (flat_map (value_failures l.tree) beside)
