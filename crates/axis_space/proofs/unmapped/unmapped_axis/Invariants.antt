use Rattle.std.proofs.Common.{◌≡◌, ℕ, ◌<◌, false}
use Rattle.axis_space.specs.UnmappedAxes.{is_unmapped}
use Rattle.axis_space.proofs.unmapped.unmapped_axis.Given as goal

abbrev pub invariant-loop-axis : goal.invariant-loop-axis
invariant-loop-axis l =
    (k : ℕ) → k < l.axis → is_unmapped l.masters l.origin k ≡ false
