-- what is noted of the masters that are left is what is noted of all
use Rattle.std.proofs.Common.{◌≡◌, drop}
use Rattle.std.specs.Prelude.{flat_map}
use Rattle.refusal_codes.specs.First.{noted}
use Rattle.source_masters.specs.WholeRules.{axis_count}
use Rattle.source_masters.proofs.whole_rules.note_counts.Given as goal

abbrev pub invariant-loop-master : goal.invariant-loop-master
invariant-loop-master l =
    noted l.first (flat_map (axis_count l.axes l.tree) (drop l.master-index l.masters))
    ≡ noted l.initial.first (flat_map (axis_count l.axes l.tree) l.masters)
