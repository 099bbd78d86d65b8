use Rattle.std.proofs.Common.{◌≡◌, ◌++◌, map, take}
use Rattle.font_ir.specs.AxisMaps.{fixed_pairs, master_pair}
use Rattle.axis_space.proofs.pairs.all_pairs.Given as goal

abbrev pub invariant-loop-master : goal.invariant-loop-master
invariant-loop-master l =
    l.pairs.items ≡ fixed_pairs ++ map (master_pair l.masters l.fn.origin l.axis)
    (take l.master-index l.masters)
