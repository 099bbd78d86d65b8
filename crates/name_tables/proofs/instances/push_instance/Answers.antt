use Rattle.std.proofs.Common.{length, ap, arith}
use Rattle.name_tables.specs.HeaderLaws.{has_axes}
use Rattle.name_tables.proofs.instances.push_instance.Goals as goal

pub push_user_coordinates-requires-clause-axes : goal.push_user_coordinates-requires-clause-axes
push_user_coordinates-requires-clause-axes c axis within =
    let same = ap length c.as_slice-2.ensures in
    has_axes c.args.header.now c.as_slice.result.now c.as_slice-2.result.now c.as_slice.ensures
    (omega (arith, same, c.requires.coordinates)) c.requires.header axis within
