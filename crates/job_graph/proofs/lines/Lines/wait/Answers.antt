use Rattle.job_graph.proofs.Waiting.{waits_joins}
use Rattle.job_graph.proofs.lines.Lines.wait.Goals as goal

pub returns-clause-kept : goal.returns-clause-kept
returns-clause-kept g c = λ other q w.
    waits_joins _ _ _ _ c.join.ensures.lines other q (c.line_of.ensures.kept other q w)
