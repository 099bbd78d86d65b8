use Rattle.std.proofs.Common.{ap, arith, subst, sym}
use Rattle.metrics_tables.specs.Walks.{IsWalk, cost, stack_after}
use Rattle.metrics_tables.proofs.WalkLemmas.{walk_on, less_left, there_front}
use Rattle.metrics_tables.proofs.nesting.settle.Goals as goal

pub loop-step-preserved : goal.loop-step-preserved
loop-step-preserved c =
    let bases = c.args.bases.now in
    let known = c.loop-step.depths.items in
    let below = c.pop.new.self.items in
    let step = c.in-Some.step in
    let walk = subst (λ stack. IsWalk bases known stack c.args.gid) c.in-Some.ensures.items
    c.loop-step.invariant in
    subst (λ stack. IsWalk bases c.take_step.new.depths.items stack c.args.gid)
    (sym c.in_ok-take_step.ensures.stack)
    (subst (λ depths. IsWalk bases depths (stack_after bases known below step) c.args.gid)
    (sym c.in_ok-take_step.ensures.depths)
    (walk_on bases c.requires.bases known below step c.args.gid walk))

pub loop-step-smaller : goal.loop-step-smaller
loop-step-smaller c =
    let bases = c.args.bases.now in
    let known = c.loop-step.depths.items in
    let below = c.pop.new.self.items in
    let step = c.in-Some.step in
    let walk = subst (λ stack. IsWalk bases known stack c.args.gid) c.in-Some.ensures.items
    c.loop-step.invariant in
    let inside = there_front bases below step walk.there in
    let less = less_left bases c.requires.bases known below step inside.1 in
    let before = ap (cost bases) c.in-Some.ensures.items in
    let after = ap (cost bases) c.in_ok-take_step.ensures.stack in
    omega (arith, less, before, after)
