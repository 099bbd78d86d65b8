use Rattle.std.proofs.Common.{◌≡◌, ◌-◌, ◌≤◌, ◌+◌, ◌*◌, ◌^◌}
use Rattle.font_reader.specs.Fold.{folded}
use Rattle.font_reader.specs.Outlines.{with_size, flags_from}
use Rattle.font_reader.proofs.outlines.sizes_of.Given as goal

abbrev pub invariant-loop-i : goal.invariant-loop-i
invariant-loop-i l = record {
  near : l.sizes.run.at ≤ 2 ^ 36 + 2 * l.i;
  small : l.sizes.bytes ≤ 2 * l.i;
  rest : folded (with_size l.bytes l.glyf) l.i (l.points - l.i) l.sizes
      ≡ folded (with_size l.bytes l.glyf) 0 l.points
      (record { run = flags_from l.flags; bytes = 0 });
}
