use Rattle.std.proofs.Common.{◌≡◌, ◌+◌, ◌≤◌, min, length, drop}
use Rattle.gvar_writer.specs.Gvar.{shared_peaks}
use Rattle.gvar_writer.proofs.table.peaks_length.Given as goal

abbrev pub invariant-loop-region : goal.invariant-loop-region
invariant-loop-region l =
    record {
      few : l.length ≤ 18446744073709551615;
      told : min (l.length + length (shared_peaks (drop l.region-index l.shared)))
          18446744073709551615 ≡ min (length (shared_peaks l.shared)) 18446744073709551615;
    }
