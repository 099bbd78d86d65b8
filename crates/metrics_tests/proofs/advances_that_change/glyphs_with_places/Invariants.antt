use Rattle.metrics_tests.specs.Simple.{AreSimpleIn}
use Rattle.metrics_tests.proofs.advances_that_change.glyphs_with_places.Given as goal

abbrev pub invariant-loop-k : goal.invariant-loop-k
invariant-loop-k l = AreSimpleIn l.header l.glyphs.items
