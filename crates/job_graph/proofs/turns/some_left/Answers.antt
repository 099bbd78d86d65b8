use Rattle.std.proofs.Common.{arith, sym, ◌∙◌}
use Rattle.job_graph.specs.Rounds.{state_from}
use Rattle.job_graph.proofs.Agendas.{none_left, some_is_ready, none_ready_left}
use Rattle.job_graph.proofs.turns.some_left.Goals as goal

pub first-requires : goal.first-requires
first-requires g c = record {
  passed = c.requires.passed;
  known = omega (arith, c.requires.agenda.used, c.requires.count);
  within = omega (arith, c.requires.agenda.used, c.requires.agenda.queues);
}

pub returns-then-not-is_current-clause-none : goal.returns-then-not-is_current-clause-none
returns-then-not-is_current-clause-none g c = λ e. none_ready_left g.P.Id.PartialEq.eq
    (g.P.Plan.meaning c.args.plan.now) (state_from c.args.jobs.now c.args.values.now)
    c.args.outs.now (sym c.some_ready.ensures ∙ e)

pub returns-in-Some-clause-some : goal.returns-in-Some-clause-some
returns-in-Some-clause-some g c = λ e. some_is_ready g.P.Id.PartialEq.eq g.P.Id.Ord.cmp
    (g.P.Plan.meaning c.args.plan.now)
    (state_from c.args.jobs.now c.args.values.now) c.args.outs.now
    c.args.agenda.now c.requires.agenda c.in-Some.field-0 c.in-Some.ensures

pub returns-in-None-clause-none : goal.returns-in-None-clause-none
returns-in-None-clause-none g c = λ e.
    let now = c.is_current.ensures c.if-not-is_current.false in
    none_left g.P.Id.PartialEq.eq g.P.Id.Ord.cmp (g.P.Plan.meaning c.args.plan.now)
    (state_from c.args.jobs.now c.args.values.now) c.args.outs.now c.args.agenda.now
    c.requires.agenda
    (record { jobs = now.0; values = now.1 ∙ c.len.ensures; waking = now.2 }) c.in-None.ensures
