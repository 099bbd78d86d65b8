use Rattle.std.proofs.Common.{◌≡◌, take}
use Rattle.std.specs.Prelude.{fold}
use Rattle.graph_tests.specs.Tables.{add_read}
use Rattle.graph_tests.proofs.table.sum_of.Given as goal

abbrev pub invariant-loop-id : goal.invariant-loop-id
invariant-loop-id l = l.sum ≡ fold (add_read l.reads) l.start (take l.id-index l.ids)
