use Rattle.std.proofs.Common.{arith}
use Rattle.metrics_tests.proofs.Orders.{at_most_one_more}
use Rattle.metrics_tests.proofs.advances_that_change.order_of.Goals as goal

pub loop-gid-preserved : goal.loop-gid-preserved
loop-gid-preserved c =
    omega (arith, at_most_one_more _ c.loop-gid.order _ _ _ c.in_ok-push.ensures.ok)
