-- the masters so far
use Rattle.std.proofs.Common.{◌≡◌, map, take}
use Rattle.font_ir.specs.declared.header.Axis.{Axis}
use Rattle.source_masters.specs.MasterReading.{master_with}
use Rattle.source_masters.proofs.records.each_master.Given as goal

abbrev pub invariant-loop-number : goal.invariant-loop-number
invariant-loop-number l =
    l.masters.items
    ≡ map (master_with l.tree (map (λ (axis : Axis). axis.name) l.axes) l.missing)
    (take l.number-index l.numbers)
