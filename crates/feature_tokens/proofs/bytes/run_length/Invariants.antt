-- the bytes so far are of the run
use Rattle.std.proofs.Common.{length, drop, ◌-◌, ◌≡◌, ◌≤◌, ◌+◌}
use Rattle.std.specs.List.{prefix_len}
use Rattle.feature_tokens.specs.Bytes.{belongs}
use Rattle.feature_tokens.proofs.bytes.run_length.Given as goal

abbrev pub invariant-loop-count : goal.invariant-loop-count
invariant-loop-count l = record {
  within : l.count ≤ length l.bytes;
  so_far : l.count + prefix_len (belongs l.run) (drop l.count l.bytes)
      ≡ prefix_len (belongs l.run) l.bytes;
}

abbrev pub decreases-loop-count : goal.decreases-loop-count
decreases-loop-count l = length l.bytes - l.count
