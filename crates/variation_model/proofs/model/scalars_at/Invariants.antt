use Rattle.std.proofs.Common.{◌≡◌}
use Rattle.variation_model.proofs.RowLemmas.{row_so_far}
use Rattle.variation_model.proofs.model.scalars_at.Given as goal

abbrev pub invariant-loop-region : goal.invariant-loop-region
invariant-loop-region l = l.row.items ≡ row_so_far l.regions l.place l.region-index
