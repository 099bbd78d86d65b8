use Rattle.std.proofs.Common.{◌≡◌, take, map}
use Rattle.graph_tests.specs.Tables.{job_at}
use Rattle.graph_tests.proofs.table.jobs_at.Given as goal

abbrev pub invariant-loop-id : goal.invariant-loop-id
invariant-loop-id l = l.jobs.items ≡ map (job_at l.rows) (take l.id-index l.ids)
