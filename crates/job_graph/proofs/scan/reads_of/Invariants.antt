use Rattle.std.proofs.Common.{◌≡◌, take, map}
use Rattle.access_context.specs.Read.{plain_item}
use Rattle.job_graph.specs.Rounds.{item_of}
use Rattle.job_graph.proofs.scan.reads_of.Given as goal

abbrev pub invariant-loop-id : goal.invariant-loop-id
invariant-loop-id g l = map plain_item l.reads.items
    ≡ map (item_of g.Id.PartialEq.eq l.values) (take l.id-index l.ids)
