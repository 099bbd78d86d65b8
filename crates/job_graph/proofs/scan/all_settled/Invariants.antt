use Rattle.std.proofs.Common.{◌≡◌, drop, is_some}
use Rattle.std.specs.List.{list_all}
use Rattle.access_context.specs.Read.{read_of}
use Rattle.job_graph.proofs.scan.all_settled.Given as goal

abbrev pub invariant-loop-id : goal.invariant-loop-id
invariant-loop-id g l = list_all (λ id. is_some (read_of g.Id.PartialEq.eq l.values id))
    (drop l.id-index l.ids) ≡ list_all (λ id. is_some (read_of g.Id.PartialEq.eq l.values id)) l.ids
