use Rattle.std.proofs.Common.{length, count_by, is_some, sym, ap, ◌∙◌, arith}
use Rattle.job_graph.proofs.Kept.{complete_of_end}
use Rattle.job_graph.proofs.Boards.{board_history, length_outs, ends_out, ends_ready, has_ended}
use Rattle.job_graph.proofs.Boards.{left_none}
use Rattle.job_graph.proofs.board.Board.result.Goals as goal

pub returns-then-self-clause-history : goal.returns-then-self-clause-history
returns-then-self-clause-history g c = rw (← c.self.view_is)
    (board_history _ _ _ (g.met.P.Plan.lawful c.self.inside.plan) _ _ _ _ _ c.self.invariant.board)

pub running-requires : goal.running-requires
running-requires g c = ap length c.as_slice.ensures.value
    ∙ length_outs _ _ _ (g.met.P.Plan.lawful c.self.inside.plan) _ _ _ _ _ c.self.invariant.board

pub returns-then-running-gt0-clause-end : goal.returns-then-running-gt0-clause-end
returns-then-running-gt0-clause-end g c = rw (← c.self.view_is)
    (sym (ends_out _ _ _ (g.met.P.Plan.lawful c.self.inside.plan) _ _ _ _ _ c.self.invariant.board
    c.if-self.false
    (let n = ap (count_by is_some) c.as_slice.ensures.value in
    omega (arith, c.if-running-gt0.true, c.running.ensures, n))))

pub returns-then-running-gt0-clause-history : goal.returns-then-running-gt0-clause-history
returns-then-running-gt0-clause-history g c
    = rw (← c.self.view_is) (board_history _ _ _ (g.met.P.Plan.lawful c.self.inside.plan) _ _ _ _ _
    c.self.invariant.board)

pub some_left-requires : goal.some_left-requires
some_left-requires g c = record {
  agenda = rw (c.as_slice-3.ensures.value, c.as_slice-4.ensures.value)
      (c.self.invariant.tasks c.if-self.false);
  passed = rw (c.as_slice-2.ensures.value, c.as_slice-3.ensures.value) c.self.invariant.strata;
  count = ap length c.as_slice-2.ensures.value ∙ c.self.invariant.count;
}

pub returns-then-some_left-clause-end : goal.returns-then-some_left-clause-end
returns-then-some_left-clause-end g c = rw (← c.self.view_is)
    (sym (ends_ready _ _ _ (g.met.P.Plan.lawful c.self.inside.plan) _ _ _ _ _ c.self.invariant.board
    c.if-self.false (rw c.as_slice-3.ensures.value at
    (c.some_left.ensures.some c.if-some_left.true))))

pub returns-then-some_left-clause-history : goal.returns-then-some_left-clause-history
returns-then-some_left-clause-history g c
    = rw (← c.self.view_is) (board_history _ _ _ (g.met.P.Plan.lawful c.self.inside.plan) _ _ _ _ _
    c.self.invariant.board)

pub returns-else-some_left-clause-end : goal.returns-else-some_left-clause-end
returns-else-some_left-clause-end g c = rw (← c.self.view_is)
    (sym (has_ended _ _ _ (g.met.P.Plan.lawful c.self.inside.plan) _ _ _ _ _ c.self.invariant.board
    c.if-self.false (left_none _ _ _ (g.met.P.Plan.lawful c.self.inside.plan) _ _ _ _ _
    c.self.invariant.board
    (rw (c.as_slice-3.ensures.value, c.as_slice-4.ensures.value) at
    (c.some_left.ensures.none c.if-some_left.false)))
    (let n = ap (count_by is_some) c.as_slice.ensures.value in
    omega (arith, c.if-running-gt0.false, c.running.ensures, n))))

pub returns-else-some_left-clause-complete : goal.returns-else-some_left-clause-complete
returns-else-some_left-clause-complete g c =
    rw (← c.self.view_is) (λ _. complete_of_end _ _ c.self.inside.workers
    (g.met.P.Plan.lawful c.self.inside.plan) _ c.self.invariant.board.legal
    (has_ended _ _ _ (g.met.P.Plan.lawful c.self.inside.plan) _ _ _ _ _ c.self.invariant.board
    c.if-self.false (left_none _ _ _ (g.met.P.Plan.lawful c.self.inside.plan) _ _ _ _ _
    c.self.invariant.board
    (rw (c.as_slice-3.ensures.value, c.as_slice-4.ensures.value) at
    (c.some_left.ensures.none c.if-some_left.false)))
    (let n = ap (count_by is_some) c.as_slice.ensures.value in
    omega (arith, c.if-running-gt0.false, c.running.ensures, n))))

pub returns-else-some_left-clause-history : goal.returns-else-some_left-clause-history
returns-else-some_left-clause-history g c
    = rw (← c.self.view_is) (board_history _ _ _ (g.met.P.Plan.lawful c.self.inside.plan) _ _ _ _ _
    c.self.invariant.board)
