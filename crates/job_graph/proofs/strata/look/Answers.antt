use Rattle.std.proofs.Common.{◌∙◌, arith}
use Rattle.std.proofs.lemmas.List.{length-set}
use Rattle.job_graph.specs.Rounds.{state_from}
use Rattle.job_graph.proofs.Passing.{passed_at, passed_set}
use Rattle.job_graph.proofs.strata.look.Goals as goal

pub passed_from-requires : goal.passed_from-requires
passed_from-requires g c =
    rw c.index.ensures (passed_at g.P.Id.PartialEq.eq (g.P.Plan.meaning c.args.plan.now)
    (state_from c.args.jobs.now c.args.values.now) c.loop-queue.passed.items
    c.loop-queue.invariant.0 c.loop-queue.queue c.index.result.now (omega arith)
    (omega (arith, c.requires.known, c.loop-queue.invariant.1)))

pub loop-queue-preserved : goal.loop-queue-preserved
loop-queue-preserved g c = (
  passed_set g.P.Id.PartialEq.eq (g.P.Plan.meaning c.args.plan.now)
      (state_from c.args.jobs.now c.args.values.now) c.loop-queue.passed.items
      c.loop-queue.invariant.0 c.loop-queue.queue c.passed_from.result
      c.passed_from.ensures.passed,
  length-set c.loop-queue.passed.items c.loop-queue.queue c.passed_from.result
      ∙ c.loop-queue.invariant.1,
)
