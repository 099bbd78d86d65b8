use Rattle.std.proofs.Common.{◌≡◌, ◌-◌, ◌≤◌, ◌++◌, length, drop}
use Rattle.glyf_writer.specs.GlyphData.{with_repeats}
use Rattle.glyf_writer.proofs.flags.push_flags.Given as goal

abbrev pub invariant-loop-at : goal.invariant-loop-at
invariant-loop-at l =
    record {
      within : l.at ≤ length l.flags;
      told : l.bytes.items ++ with_repeats (drop l.at l.flags)
          ≡ l.fn.bytes.items ++ with_repeats l.flags;
    }

abbrev pub decreases-loop-at : goal.decreases-loop-at
decreases-loop-at l = length l.flags - l.at
