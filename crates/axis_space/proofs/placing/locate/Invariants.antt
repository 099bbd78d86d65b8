use Rattle.std.proofs.Common.{◌≡◌, ◌++◌, map, take, drop}
use Rattle.axis_space.specs.Scales.{located}
use Rattle.axis_space.proofs.placing.locate.Given as goal

abbrev pub invariant-loop-master : goal.invariant-loop-master
invariant-loop-master l =
    l.masters ≡ map (located l.scales) (take l.master-index l.initial.masters)
    ++ drop l.master-index l.initial.masters
