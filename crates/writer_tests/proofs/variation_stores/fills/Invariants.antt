use Rattle.std.proofs.Common.{◌≡◌, length}
use Rattle.writer_tests.proofs.variation_stores.fills.Given as goal

abbrev pub invariant-loop-place : goal.invariant-loop-place
invariant-loop-place l = length l.builder.regions ≡ 1
