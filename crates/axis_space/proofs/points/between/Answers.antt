use Rattle.std.proofs.Common.{arith, rules, ◌∙◌, ◌<ℤ◌, FitsSigned}
use Rattle.std.proofs.lemmas.Int.{ints}
use Rattle.std.specs.Int.{w32, w64}
use Rattle.axis_space.proofs.LineLemmas.{joined_fits, joined_is, between_is, wrapped_difference}
use Rattle.axis_space.proofs.points.between.Goals as goal

pub overflow_add-result : goal.overflow_add-result
overflow_add-result c =
    let part : FitsSigned w64 c.part_way-part.result = search rules in
    let f : FitsSigned w32 c.args.p.user.0 = search rules in
    let g : FitsSigned w32 c.args.q.user.0 = search rules in
    let rise = wrapped_difference c.args.p.user.0 c.args.q.user.0 c.distance-rise.result f g
    c.distance-rise.ensures in
    let fits = joined_fits c.args.p.user.0 c.args.q.user.0 _ c.part_way-part.result f g rise
    c.part_way-part.ensures.up c.part_way-part.ensures.down in
    omega (arith, ints)

pub overflow_cast-result : goal.overflow_cast-result
overflow_cast-result c =
    let part : FitsSigned w64 c.part_way-part.result = search rules in
    let f : FitsSigned w32 c.args.p.user.0 = search rules in
    let g : FitsSigned w32 c.args.q.user.0 = search rules in
    let rise = wrapped_difference c.args.p.user.0 c.args.q.user.0 c.distance-rise.result f g
    c.distance-rise.ensures in
    let fits = joined_fits c.args.p.user.0 c.args.q.user.0 _ c.part_way-part.result f g rise
    c.part_way-part.ensures.up c.part_way-part.ensures.down in
    omega (arith, ints)

pub returns-then-p-q : goal.returns-then-p-q
returns-then-p-q c =
    let part : FitsSigned w64 c.part_way-part.result = search rules in
    let f : FitsSigned w32 c.args.p.user.0 = search rules in
    let g : FitsSigned w32 c.args.q.user.0 = search rules in
    let rise = wrapped_difference c.args.p.user.0 c.args.q.user.0 c.distance-rise.result f g
    c.distance-rise.ensures in
    let fits = joined_fits c.args.p.user.0 c.args.q.user.0 _ c.part_way-part.result f g rise
    c.part_way-part.ensures.up c.part_way-part.ensures.down in
    let from : FitsSigned w32 c.args.p.design.0 = search rules in
    let to : FitsSigned w32 c.args.q.design.0 = search rules in
    let at : FitsSigned w32 c.args.design.0 = search rules in
    let way = wrapped_difference c.args.p.design.0 c.args.design.0 c.distance.result from at
    c.distance.ensures in
    let whole = wrapped_difference c.args.p.design.0 c.args.q.design.0 c.distance-then-p-q.result
    from to c.distance-then-p-q.ensures in
    let less : c.args.p.design.0 <ℤ c.args.q.design.0 = grind (arith, ints) in
    joined_is c.args.p.user.0 c.part_way-part.result c.from.result f part fits c.from.ensures
    ∙ between_is c.args.p c.args.q c.args.design.0 _ _ _ c.part_way-part.result less rise way
    whole c.part_way-part.ensures.value
