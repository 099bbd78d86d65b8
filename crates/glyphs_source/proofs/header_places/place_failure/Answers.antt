-- what the call needs holds of masters that fail no rule
use Rattle.std.proofs.Common.{arith}
use Rattle.glyphs_source.proofs.HeaderLaws.{few_axes, placed_origin, placed_axes_of}
use Rattle.glyphs_source.proofs.header_places.place_failure.Goals as goal

pub overflow_cast-axes : goal.overflow_cast-axes
overflow_cast-axes c =
    let few = few_axes c.args.tree.now c.requires.sound c.sound_axes_are_read.ensures in
    omega (arith, few, c.requires.axes)

pub unmapped_axis-requires-clause-origin : goal.unmapped_axis-requires-clause-origin
unmapped_axis-requires-clause-origin c =
    placed_origin c.args.tree.now c.requires.sound c.sound_masters_are_read.ensures
    c.args.masters.now c.origin_at.result c.requires.masters c.origin_at.ensures

pub unmapped_axis-requires-clause-axes : goal.unmapped_axis-requires-clause-axes
unmapped_axis-requires-clause-axes c =
    placed_axes_of c.args.tree.now c.requires.sound c.sound_masters_are_read.ensures c.args.axes
    c.args.masters.now c.requires.axes c.requires.masters
