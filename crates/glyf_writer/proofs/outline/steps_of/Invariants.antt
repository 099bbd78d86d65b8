use Rattle.std.proofs.Common.{◌≡◌, ◌++◌, drop}
use Rattle.font_ir.specs.FlatGlyphs.{IsSmall}
use Rattle.glyf_writer.specs.Outlines.{steps_from, steps_of}
use Rattle.glyf_writer.proofs.outline.steps_of.Given as goal

abbrev pub invariant-loop-point : goal.invariant-loop-point
invariant-loop-point l =
    record {
      told : l.steps.items ++ steps_from l.x l.y (drop l.point-index l.points) ≡ steps_of l.points;
      x_small : IsSmall l.x;
      y_small : IsSmall l.y;
    }
