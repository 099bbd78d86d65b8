use Rattle.std.proofs.Common.{◌≡◌, ◌++◌, drop}
use Rattle.name_tables.specs.Fvar.{user_coordinates}
use Rattle.name_tables.proofs.instances.push_user_coordinates.Given as goal

abbrev pub invariant-loop-axis : goal.invariant-loop-axis
invariant-loop-axis l =
    l.table.items ++ user_coordinates l.masters l.axis (drop l.axis l.designs)
    ≡ l.fn.table.items ++ user_coordinates l.masters 0 l.designs
