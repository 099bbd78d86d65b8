use Rattle.std.proofs.Common.{◌≡◌, ◌-◌, ◌<◌, ◌≤◌, length, take, replicate}
use Rattle.glyf_writer.proofs.flags.front_run.Given as goal

abbrev pub invariant-loop-count : goal.invariant-loop-count
invariant-loop-count l =
    record {
      some : 0 < l.count;
      few : l.count ≤ 256;
      within : l.count ≤ length l.flags;
      equal : take l.count l.flags ≡ replicate l.count l.first;
    }

abbrev pub decreases-loop-count : goal.decreases-loop-count
decreases-loop-count l = length l.flags - l.count
