use Rattle.std.proofs.Common.{◌≡◌, ◌-◌, ◌<◌, ◌≤◌, ◌++◌, length}
use Rattle.std.specs.List.{flat_map}
use Rattle.gvar_writer.specs.Runs.{run_bytes, packed}
use Rattle.gvar_writer.specs.PackedPoints.{point_flags, point_bytes}
use Rattle.gvar_writer.proofs.RunSteps.{from_run}
use Rattle.gvar_writer.proofs.packed.push_differences.Given as goal

abbrev pub invariant-loop-at : goal.invariant-loop-at
invariant-loop-at l =
    record {
      begun : l.start < l.at;
      within : l.at ≤ length l.differences;
      few : l.at - l.start ≤ 128;
      told : l.bytes.items ++ flat_map (run_bytes point_flags point_bytes)
          (from_run point_flags 128 l.differences l.start l.at)
          ≡ l.fn.bytes.items ++ packed point_flags 128 point_bytes l.differences;
    }
