use Rattle.std.proofs.Common.{◌≡◌, ◌-◌, ◌<◌, ◌≤◌, ◌++◌, length}
use Rattle.std.specs.List.{flat_map}
use Rattle.gvar_writer.specs.Runs.{run_bytes, packed}
use Rattle.gvar_writer.specs.PackedDeltas.{delta_flags, delta_bytes}
use Rattle.gvar_writer.proofs.RunSteps.{from_run}
use Rattle.gvar_writer.proofs.packed.push_deltas.Given as goal

abbrev pub invariant-loop-at : goal.invariant-loop-at
invariant-loop-at l =
    record {
      begun : l.start < l.at;
      within : l.at ≤ length l.deltas;
      few : l.at - l.start ≤ 64;
      told : l.bytes.items ++ flat_map (run_bytes delta_flags delta_bytes)
          (from_run delta_flags 64 l.deltas l.start l.at)
          ≡ l.fn.bytes.items ++ packed delta_flags 64 delta_bytes l.deltas;
    }
