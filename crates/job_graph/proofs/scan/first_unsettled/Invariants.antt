use Rattle.std.proofs.Common.{◌≡◌, ◌-◌, take, true, is_some, length}
use Rattle.std.specs.List.{list_all}
use Rattle.access_context.specs.Read.{read_of}
use Rattle.job_graph.proofs.scan.first_unsettled.Given as goal

abbrev pub invariant-loop-read : goal.invariant-loop-read
invariant-loop-read g l =
    list_all (λ id. is_some (read_of g.Id.PartialEq.eq l.values id)) (take l.read l.reads) ≡ true

abbrev pub decreases-loop-read : goal.decreases-loop-read
decreases-loop-read g l = length l.reads - l.read
