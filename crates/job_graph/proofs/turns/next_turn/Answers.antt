use Rattle.std.proofs.Common.{length, ap, arith}
use Rattle.job_graph.specs.Rounds.{state_from}
use Rattle.job_graph.proofs.Agendas.{turn_is}
use Rattle.job_graph.proofs.turns.next_turn.Goals as goal

pub look-requires : goal.look-requires
look-requires g c = record {
  passed = c.requires.passed;
  known = omega (arith, c.in_ok-take_in.ensures.agenda.used, c.requires.count);
}

pub first-requires : goal.first-requires
first-requires g c = record {
  passed = rw c.as_slice.ensures.value c.look.ensures.passed;
  known = omega (
    arith,
    c.in_ok-take_in.ensures.agenda.used,
    c.requires.count,
    c.look.ensures.count,
    ap length c.as_slice.ensures.value,
  );
  within = omega (
    arith,
    c.in_ok-take_in.ensures.agenda.used,
    c.in_ok-take_in.ensures.agenda.queues,
  );
}

pub returns-clause-turn : goal.returns-clause-turn
returns-clause-turn g c = turn_is g.P.Id.PartialEq.eq g.P.Id.Ord.cmp
    (g.P.Plan.meaning c.args.plan.now)
    (state_from c.args.jobs.now c.args.values.now) c.args.outs.now
    c.take_in.new.self c.in_ok-take_in.ensures.agenda c.in_ok-take_in.ensures.current
    c.first.result c.first.ensures
