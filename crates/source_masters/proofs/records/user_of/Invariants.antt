-- the coordinates so far and those on the axes that are left are those on all
use Rattle.std.proofs.Common.{◌≡◌, ◌++◌, drop, map}
use Rattle.font_ir.specs.declared.header.Axis.{Axis}
use Rattle.source_masters.specs.MasterReading.{user_from}
use Rattle.source_masters.proofs.records.user_of.Given as goal

abbrev pub invariant-loop-index : goal.invariant-loop-index
invariant-loop-index l =
    let name = λ (axis : Axis). axis.name in
    l.user.items ++ user_from l.tree l.entries l.design l.index (map name (drop l.index l.axes))
    ≡ user_from l.tree l.entries l.design 0 (map name l.axes)
