use Rattle.std.proofs.Common.{ℕ, false, sym, ap, ◌∙◌, subst, length}
use Rattle.std.proofs.lemmas.List.{length-replicate}
use Rattle.job_graph.proofs.Agendas.{agenda_new}
use Rattle.job_graph.proofs.Passing.{none_passed}
use Rattle.job_graph.specs.BoardBody.{IsBoard}
use Rattle.job_graph.specs.Rounds.{state_from}
use Rattle.job_graph.proofs.Boards.{board_new, new_history}
use Rattle.job_graph.proofs.Ranges.{ranges_new}
use Rattle.job_graph.proofs.Halts.{none_at_first}
use Rattle.job_graph.proofs.board.Board.new.Goals as goal

pub returns-clause-history : goal.returns-clause-history
returns-clause-history g c = new_history _ _ _ (g.met.P.Plan.lawful c.args.plan) _
    c.in_ok-events.ensures.items

pub returns-clause-free : goal.returns-clause-free
returns-clause-free g c = λ w lt. none_at_first _ w lt _ c.in_ok-events.ensures.items

pub invariant_of-result : goal.invariant_of-result
invariant_of-result g c = record {
  board = subst (λ vs. IsBoard g.P.Id.PartialEq.eq (g.P.Plan.meaning c.args.plan) c.args.workers
      c.in_ok-events.events (state_from c.in_ok-jobs.jobs.items vs) c.in_ok-outs.outs.items
      c.in_ok-halted.halted.items false) (sym c.new-2.ensures)
      (board_new g.P.Id.PartialEq.eq (g.P.Plan.meaning c.args.plan) c.args.workers
      c.in_ok-events.events c.in_ok-jobs.jobs.items c.in_ok-outs.outs.items
      c.in_ok-halted.halted.items c.in_ok-events.ensures.items c.in_ok-events.ensures.len
      c.in_ok-events.ensures.capacity c.in_ok-jobs.ensures c.in_ok-outs.ensures
      c.in_ok-halted.ensures);
  rows = ranges_new _ _ c.in_ok-jobs.jobs.items _ _ c.new-2.ensures c.new-3.ensures.items;
  numbered = rw c.as_slice.ensures.value at c.of-numbers.ensures;
  tasks = λ e. agenda_new g.P.Id.PartialEq.eq g.P.Id.Ord.cmp _ c.in_ok-outs.outs.items
      c.in_ok-agenda.agenda c.in_ok-agenda.ensures
      (λ x y. ((g.met.P.Plan.lawful c.args.plan).identity x y).0);
  strata = none_passed g.P.Id.PartialEq.eq (g.P.Plan.meaning c.args.plan) _ 257
      c.in_ok-passed.passed.items c.in_ok-passed.ensures;
  count = ap length c.in_ok-passed.ensures ∙ length-replicate {A = ℕ} 257 0;
}
