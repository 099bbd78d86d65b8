use Rattle.job_graph.proofs.agenda.Agenda.hand_out.Goals as goal

pub returns-clause-queues : goal.returns-clause-queues
returns-clause-queues g c = record {
  kept = c.leave.ensures.kept;
  others = c.leave.ensures.others;
  used = c.leave.ensures.used;
  count = c.leave.ensures.count;
}
