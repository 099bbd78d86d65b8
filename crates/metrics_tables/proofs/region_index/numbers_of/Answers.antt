use Rattle.metrics_tables.proofs.RegionLemmas.{numbers_more_by}
use Rattle.metrics_tables.proofs.region_index.numbers_of.Goals as goal

pub loop-side-preserved : goal.loop-side-preserved
loop-side-preserved c = numbers_more_by c.as_slice-sides.result.now c.loop-side.side-index _ _ _
    c.loop-side-test.true c.in_ok-push_side.ensures c.loop-side.invariant
