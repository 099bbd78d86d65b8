use Rattle.std.proofs.Common.{◌≡◌, map, take}
use Rattle.cmap_writer.specs.Subtables.{segment_of}
use Rattle.cmap_writer.proofs.segments.segments_of.Given as goal

abbrev pub invariant-loop-run : goal.invariant-loop-run
invariant-loop-run l = l.segments.items ≡ map segment_of (take l.run-index l.runs)
