use Rattle.std.proofs.Common.{◌≡◌, ◌++◌, drop}
use Rattle.std.specs.List.{flat_map}
use Rattle.gvar_writer.specs.Runs.{run_bytes}
use Rattle.gvar_writer.specs.PackedDeltas.{delta_flags, delta_bytes}
use Rattle.gvar_writer.proofs.packed.push_delta_run.Given as goal

abbrev pub invariant-loop-delta : goal.invariant-loop-delta
invariant-loop-delta l =
    l.bytes.items ++ flat_map (delta_bytes l.flags) (drop l.delta-index l.run)
    ≡ l.fn.bytes.items ++ run_bytes delta_flags delta_bytes l.run
