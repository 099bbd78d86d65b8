use Rattle.std.proofs.Common.{◌≡◌, subst, arith}
use Rattle.job_graph.specs.Rounds.{state_from}
use Rattle.job_graph.specs.Agenda.{IsBest}
use Rattle.job_graph.proofs.Passing.{best_more}
use Rattle.job_graph.proofs.strata.first.Goals as goal

pub loop-queue-preserved : goal.loop-queue-preserved
loop-queue-preserved g c = best_more g.P.Id.PartialEq.eq (g.P.Plan.meaning c.args.plan.now)
    (state_from c.args.jobs.now c.args.values.now) g.P.Id.Ord.cmp c.args.queues.now.queues.items
    c.loop-queue.queue c.loop-queue.best c.first_of.result c.lesser-best.result
    c.loop-queue.invariant c.first_of.ensures c.lesser-best.ensures.either
    g.met.P.Id.Ord.total c.lesser-best.ensures.lesser

pub returns : goal.returns
returns g c =
    let e : c.loop-queue.queue ≡ c.args.queues.now.used = omega arith in
    subst (λ k. IsBest g.P.Id.PartialEq.eq g.P.Id.Ord.cmp (g.P.Plan.meaning c.args.plan.now)
    (state_from c.args.jobs.now c.args.values.now) c.args.queues.now.queues.items k
    c.loop-queue.best) e c.loop-queue.invariant
