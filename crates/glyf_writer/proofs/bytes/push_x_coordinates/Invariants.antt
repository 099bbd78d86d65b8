use Rattle.std.proofs.Common.{◌≡◌, ◌++◌, map, drop}
use Rattle.std.specs.List.{flat_map}
use Rattle.glyf_writer.specs.GlyphData.{coordinate_bytes}
use Rattle.glyf_writer.proofs.bytes.push_x_coordinates.Given as goal

abbrev pub invariant-loop-step : goal.invariant-loop-step
invariant-loop-step l =
    l.bytes.items ++ flat_map coordinate_bytes (map (λ step. step.dx) (drop l.step-index l.steps))
    ≡ l.fn.bytes.items ++ flat_map coordinate_bytes (map (λ step. step.dx) l.steps)
