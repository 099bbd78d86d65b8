use Rattle.axis_space.specs.Points.{points_of}
use Rattle.axis_space.proofs.PointLemmas.{below_side, above_side, value_is}
use Rattle.axis_space.proofs.ReadingLemmas.{reads}
use Rattle.axis_space.proofs.points.user_of.Goals as goal

pub reading-requires : goal.reading-requires
reading-requires c = record {
  below = below_side c.args.design.0 (points_of c.args.masters.now c.args.axis)
      c.neighbour_below-below.result c.neighbour_below-below.ensures;
  above = above_side c.args.design.0 (points_of c.args.masters.now c.args.axis)
      c.neighbour_above-above.result c.neighbour_above-above.ensures;
}

pub returns : goal.returns
returns c =
    let value = value_is c.args.masters.now c.args.axis c.args.design.0 c.reading.result.0
    c.neighbour_below-below.result c.neighbour_above-above.result
    c.neighbour_below-below.ensures c.neighbour_above-above.ensures c.reading.ensures in
    record {
      reading = reads c.args.masters.now c.args.axis c.args.design.0 c.reading.result.0
          c.requires.master value;
      value = value;
    }
