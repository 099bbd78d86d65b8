use Rattle.std.proofs.Common.{◌≡◌, arith, ◌∙◌, pos, negsuc, ◌*ℤ◌, ◌≤ℤ◌, FitsSigned, to_z, of_z}
use Rattle.std.proofs.lemmas.Int.{ints}
use Rattle.std.specs.Int.{w16, w128}
use Rattle.font_ir.specs.Normal.{nearest}
use Rattle.axis_space.proofs.NearestLemmas.{nearest_low, nearest_high, nearest_opposite}
use Rattle.axis_space.proofs.NearestLemmas.{nearest_whole, narrowed, part_is}
use Rattle.axis_space.proofs.normal.over.Goals as goal

pub overflow_cast-result : goal.overflow_cast-result
overflow_cast-result c =
    let part : c.nearest.result ≡ nearest (pos 16384 *ℤ c.args.way) c.args.whole =
    part_is c.args.way c.args.whole _ _ _ c.ranges.way c.ranges.whole c.from.ensures
    c.from-2.ensures c.nearest.ensures in
    let low = nearest_low c.args.way c.args.whole c.requires.positive c.requires.low in
    let high = nearest_high c.args.way c.args.whole c.requires.positive c.requires.high in
    let least : negsuc 16383 ≤ℤ c.nearest.result = omega (arith, ints) in
    let greatest : c.nearest.result ≤ℤ pos 16384 = omega (arith, ints) in
    omega (arith, ints)

pub returns : goal.returns
returns c =
    let part : c.nearest.result ≡ nearest (pos 16384 *ℤ c.args.way) c.args.whole =
    part_is c.args.way c.args.whole _ _ _ c.ranges.way c.ranges.whole c.from.ensures
    c.from-2.ensures c.nearest.ensures in
    let low = nearest_low c.args.way c.args.whole c.requires.positive c.requires.low in
    let high = nearest_high c.args.way c.args.whole c.requires.positive c.requires.high in
    let least : negsuc 16383 ≤ℤ c.nearest.result = omega (arith, ints) in
    let greatest : c.nearest.result ≤ℤ pos 16384 = omega (arith, ints) in
    let fits : FitsSigned w16 c.nearest.result = omega (arith, ints) in
    let same : to_z w16 (of_z w16 (to_z w128 (of_z w128 c.nearest.result))) ≡ c.nearest.result =
    narrowed c.nearest.result fits in
    record {
      value = same ∙ part;
      above = omega (arith, ints);
      below = omega (arith, ints);
      opposite = λ e. same ∙ part ∙ nearest_opposite c.args.way c.args.whole c.requires.positive e;
      whole = λ e. same ∙ part ∙ nearest_whole c.args.way c.args.whole c.requires.positive e;
    }
