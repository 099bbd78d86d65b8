-- what the calls need holds of masters that fail no rule
use Rattle.std.proofs.Common.{ap, length, arith}
use Rattle.glyphs_source.proofs.HeaderLaws.{few_axes, unplaced_origin, unplaced_axes_of}
use Rattle.glyphs_source.proofs.header_places.placed_masters.Goals as goal

pub overflow_cast-axes : goal.overflow_cast-axes
overflow_cast-axes c =
    let few = few_axes c.args.tree.now c.requires.sound c.sound_axes_are_read.ensures in
    let same = ap length c.requires.axes in
    omega (arith, few, same)

pub place_masters-requires-clause-origin : goal.place_masters-requires-clause-origin
place_masters-requires-clause-origin c =
    unplaced_origin c.args.tree.now c.requires.sound c.sound_masters_are_read.ensures
    c.args.axes.now c.in_ok-masters.masters.items c.origin_at.result c.requires.axes
    c.in_ok-masters.ensures c.origin_at.ensures

pub place_masters-requires-clause-axes : goal.place_masters-requires-clause-axes
place_masters-requires-clause-axes c =
    unplaced_axes_of c.args.tree.now c.requires.sound c.sound_masters_are_read.ensures
    c.args.axes.now c.in_ok-masters.masters.items c.requires.axes c.in_ok-masters.ensures
