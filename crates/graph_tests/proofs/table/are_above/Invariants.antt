-- what holds of the ids that are left holds of all
use Rattle.std.proofs.Common.{◌≡◌, drop, nat_le}
use Rattle.std.specs.List.{list_all}
use Rattle.graph_tests.specs.Tables.{stratum_at}
use Rattle.graph_tests.proofs.table.are_above.Given as goal

abbrev pub invariant-loop-id : goal.invariant-loop-id
invariant-loop-id l = list_all (λ added. nat_le l.stratum (stratum_at l.rows added))
    (drop l.id-index l.ids) ≡ list_all (λ added. nat_le l.stratum (stratum_at l.rows added)) l.ids
