use Rattle.std.proofs.Common.{◌≡◌, take}
use Rattle.board_bench.specs.Plans.{jobs_of}
use Rattle.board_bench.proofs.plan.jobs_of.Given as goal

abbrev pub invariant-loop-id : goal.invariant-loop-id
invariant-loop-id l = l.jobs.items ≡ jobs_of l.size (take l.id-index l.ids)
