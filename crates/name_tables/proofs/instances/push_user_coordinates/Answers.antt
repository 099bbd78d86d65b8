use Rattle.std.proofs.Common.{arith}
use Rattle.name_tables.proofs.instances.push_user_coordinates.Goals as goal

pub user_of-requires-clause-axes : goal.user_of-requires-clause-axes
user_of-requires-clause-axes c = c.requires.axes c.loop-axis.axis (omega arith)
