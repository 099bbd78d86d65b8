use Rattle.std.proofs.Common.{◌-◌, arith}
use Rattle.job_graph.specs.Rounds.{state_from}
use Rattle.job_graph.proofs.Passing.{open_is}
use Rattle.job_graph.proofs.strata.is_open.Goals as goal

pub passed_from-requires : goal.passed_from-requires
passed_from-requires g c = c.requires (c.args.queue - 1) (omega arith)

pub returns : goal.returns
returns g c = open_is g.P.Id.PartialEq.eq (g.P.Plan.meaning c.args.plan.now)
    (state_from c.args.jobs.now c.args.values.now) c.args.queue (c.args.queue - 1)
    c.passed_from.result (omega arith) c.passed_from.ensures.passed c.passed_from.ensures.stops
