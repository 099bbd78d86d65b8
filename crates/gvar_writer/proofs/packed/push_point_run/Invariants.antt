use Rattle.std.proofs.Common.{◌≡◌, ◌++◌, drop}
use Rattle.std.specs.List.{flat_map}
use Rattle.gvar_writer.specs.Runs.{run_bytes}
use Rattle.gvar_writer.specs.PackedPoints.{point_flags, point_bytes}
use Rattle.gvar_writer.proofs.packed.push_point_run.Given as goal

abbrev pub invariant-loop-difference : goal.invariant-loop-difference
invariant-loop-difference l =
    l.bytes.items ++ flat_map (point_bytes l.flags) (drop l.difference-index l.run)
    ≡ l.fn.bytes.items ++ run_bytes point_flags point_bytes l.run
