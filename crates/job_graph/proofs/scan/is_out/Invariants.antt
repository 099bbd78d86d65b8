use Rattle.std.proofs.Common.{◌≡◌, drop}
use Rattle.std.specs.List.{list_any}
use Rattle.job_graph.specs.Agenda.{is_out_of}
use Rattle.job_graph.proofs.scan.is_out.Given as goal

abbrev pub invariant-loop-out : goal.invariant-loop-out
invariant-loop-out g l = list_any (is_out_of g.Id.PartialEq.eq l.id) (drop l.out-index l.outs)
    ≡ list_any (is_out_of g.Id.PartialEq.eq l.id) l.outs
