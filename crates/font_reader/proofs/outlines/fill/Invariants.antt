use Rattle.std.proofs.Common.{◌≡◌, ◌-◌, ◌≤◌, ◌+◌, ◌*◌, ◌^◌, take, pos, ◌-ℤ◌, ◌≤ℤ◌}
use Rattle.font_reader.specs.Outlines.{coordinates}
use Rattle.font_reader.proofs.Fills.{put_before}
use Rattle.font_reader.proofs.outlines.fill.Given as goal

abbrev pub invariant-loop-i : goal.invariant-loop-i
invariant-loop-i l = record {
  near : l.stroke.run.at ≤ 2 ^ 36 + 2 * l.i;
  next : l.stroke.at ≤ 2 ^ 37 + 2 * l.i;
  low : (pos 0 -ℤ pos (32768 * l.i)) ≤ℤ l.stroke.value;
  high : l.stroke.value ≤ℤ pos (32767 * l.i);
  rest : put_before (take l.i l.out) (coordinates l.bytes l.glyf l.axis (l.points - l.i) l.stroke)
      ≡ coordinates l.bytes l.glyf l.axis l.points l.initial.stroke;
}
