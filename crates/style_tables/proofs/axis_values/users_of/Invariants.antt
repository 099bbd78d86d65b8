use Rattle.std.proofs.Common.{◌≡◌, ◌∷◌, take, map}
use Rattle.style_tables.specs.AxisValues.{default_user, user_of_instance}
use Rattle.style_tables.proofs.axis_values.users_of.Given as goal

abbrev pub invariant-loop-instance : goal.invariant-loop-instance
invariant-loop-instance l = l.users.items ≡ default_user l.header 0
    ∷ map (user_of_instance l.header) (take l.instance-index l.instances)
