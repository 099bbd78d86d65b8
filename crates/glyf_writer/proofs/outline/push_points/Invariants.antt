use Rattle.std.proofs.Common.{◌≡◌, ◌++◌, map, take}
use Rattle.font_ir.specs.Outlines.{stored_point}
use Rattle.glyf_writer.specs.Outlines.{AreSmall}
use Rattle.glyf_writer.proofs.outline.push_points.Given as goal

abbrev pub invariant-loop-point : goal.invariant-loop-point
invariant-loop-point l =
    record {
      told : l.stored_points.items ≡ l.fn.stored_points.items
          ++ map stored_point (take l.point-index l.points);
      small : AreSmall l.fn.stored_points.items → AreSmall l.stored_points.items;
    }
