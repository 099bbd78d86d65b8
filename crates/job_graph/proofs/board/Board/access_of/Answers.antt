use Rattle.job_graph.proofs.board.Board.access_of.Goals as goal

pub access_of-requires : goal.access_of-requires
access_of-requires g c = rw c.as_slice.ensures.value c.self.invariant.numbered
