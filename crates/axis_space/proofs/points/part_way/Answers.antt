use Rattle.std.proofs.Common.{◌≡◌, arith, ◌∙◌, ◌*ℤ◌, FitsSigned, to_z, of_z}
use Rattle.std.proofs.lemmas.Int.{ints}
use Rattle.std.specs.Int.{w64, w128}
use Rattle.font_ir.specs.Normal.{nearest}
use Rattle.axis_space.proofs.LineLemmas.{part_up, part_down, product_bounds, part_way_is, part_fits}
use Rattle.axis_space.proofs.LineLemmas.{widened}
use Rattle.axis_space.proofs.points.part_way.Goals as goal

pub overflow_cast-result : goal.overflow_cast-result
overflow_cast-result c =
    let bounds = product_bounds c.args.rise c.args.part c.requires.low c.requires.high
    c.requires.from_start (omega (arith, ints)) in
    let fits : FitsSigned w128 (c.args.rise *ℤ c.args.part) = omega (arith, ints) in
    let is : c.nearest.result ≡ nearest (c.args.rise *ℤ c.args.part) c.args.whole =
    part_way_is c.args.rise c.args.part c.args.whole _ _ _ _ c.ranges.rise c.ranges.part
    c.ranges.whole fits c.from.ensures c.from-2.ensures c.from-3.ensures c.nearest.ensures in
    let small : FitsSigned w64 c.nearest.result =
    part_fits c.args.rise c.args.part c.args.whole c.nearest.result is c.requires.positive
    c.requires.from_start c.requires.to_end c.requires.low c.requires.high in
    omega (arith, ints)

pub returns : goal.returns
returns c =
    let bounds = product_bounds c.args.rise c.args.part c.requires.low c.requires.high
    c.requires.from_start (omega (arith, ints)) in
    let fits : FitsSigned w128 (c.args.rise *ℤ c.args.part) = omega (arith, ints) in
    let is : c.nearest.result ≡ nearest (c.args.rise *ℤ c.args.part) c.args.whole =
    part_way_is c.args.rise c.args.part c.args.whole _ _ _ _ c.ranges.rise c.ranges.part
    c.ranges.whole fits c.from.ensures c.from-2.ensures c.from-3.ensures c.nearest.ensures in
    let small : FitsSigned w64 c.nearest.result =
    part_fits c.args.rise c.args.part c.args.whole c.nearest.result is c.requires.positive
    c.requires.from_start c.requires.to_end c.requires.low c.requires.high in
    let same : to_z w64 (of_z w64 (to_z w128 (of_z w128 c.nearest.result)))
    ≡ c.nearest.result = widened c.nearest.result small in
    record {
      value = same ∙ is;
      up = λ h. rw (same, is) (part_up c.args.rise c.args.part c.args.whole c.requires.positive
          c.requires.from_start c.requires.to_end h);
      down = λ h. rw (same, is) (part_down c.args.rise c.args.part c.args.whole c.requires.positive
          c.requires.from_start c.requires.to_end h);
    }
