use Rattle.job_graph.proofs.board.Board.note_jobs.Goals as goal

pub note_all-requires : goal.note_all-requires
note_all-requires g c = rw c.as_slice.ensures.value c.self.invariant.numbered

pub invariant_of-self : goal.invariant_of-self
invariant_of-self g c = record {
  board = c.self.invariant.board;
  rows = c.self.invariant.rows;
  numbered = rw c.as_slice.ensures.value at c.note_all.ensures;
  tasks = c.self.invariant.tasks;
  strata = c.self.invariant.strata;
  count = c.self.invariant.count;
}
