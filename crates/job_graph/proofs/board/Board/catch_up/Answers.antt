use Rattle.std.proofs.Common.{refl, ◌∙◌}
use Rattle.job_graph.proofs.Agendas.{agenda_moved, passed_moved}
use Rattle.job_graph.proofs.board.Board.catch_up.Goals as goal

pub look-requires-clause-passed : goal.look-requires-clause-passed
look-requires-clause-passed g c = rw c.as_slice-jobs.ensures.value c.self.invariant.strata

pub invariant_of-self : goal.invariant_of-self
invariant_of-self g c = record {
  board = c.self.invariant.board;
  rows = c.self.invariant.rows;
  numbered = c.self.invariant.numbered;
  tasks = λ e. agenda_moved g.P.Id.PartialEq.eq g.P.Id.Ord.cmp (g.P.Plan.meaning c.self.inside.plan)
      c.as_slice-jobs.result.now c.self.inside.jobs.items c.self.inside.values c.self.inside.values
      c.as_slice-outs.result.now c.self.inside.outs.items c.as_slice-jobs.ensures.value refl
      c.as_slice-outs.ensures.value c.take_in.new.self c.take_in.ensures.agenda;
  strata = passed_moved g.P.Id.PartialEq.eq g.P.Id.Ord.cmp (g.P.Plan.meaning c.self.inside.plan)
      c.as_slice-jobs.result.now c.self.inside.jobs.items c.self.inside.values c.self.inside.values
      c.as_slice-outs.result.now c.self.inside.outs.items c.as_slice-jobs.ensures.value refl
      c.as_slice-outs.ensures.value c.look.new.passed.items c.look.ensures.passed;
  count = c.look.ensures.count ∙ c.self.invariant.count;
}

pub invariant_of-self-else-is_ok : goal.invariant_of-self-else-is_ok
invariant_of-self-else-is_ok g c = record {
  board = c.self.invariant.board;
  rows = c.self.invariant.rows;
  numbered = c.self.invariant.numbered;
  tasks = λ e. agenda_moved g.P.Id.PartialEq.eq g.P.Id.Ord.cmp (g.P.Plan.meaning c.self.inside.plan)
      c.as_slice-jobs.result.now c.self.inside.jobs.items c.self.inside.values c.self.inside.values
      c.as_slice-outs.result.now c.self.inside.outs.items c.as_slice-jobs.ensures.value refl
      c.as_slice-outs.ensures.value c.take_in.new.self c.take_in.ensures.agenda;
  strata = c.self.invariant.strata;
  count = c.self.invariant.count;
}
