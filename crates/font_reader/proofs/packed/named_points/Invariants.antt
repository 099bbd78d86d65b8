use Rattle.std.proofs.Common.{◌≡◌, ◌-◌, ◌≤◌, ◌<◌, ◌+◌, ◌*◌, ◌^◌, false}
use Rattle.font_reader.specs.Fold.{folded}
use Rattle.font_reader.specs.Packed.{next_named, none_named}
use Rattle.font_reader.proofs.packed.named_points.Given as goal

abbrev pub invariant-loop-i : goal.invariant-loop-i
invariant-loop-i l = record {
  near : l.run.at ≤ l.at + 3 * l.i;
  number : l.run.number < 2 ^ 40;
  rest : folded (next_named l.bytes l.gvar l.target) l.i (l.count - l.i) l.run
      ≡ folded (next_named l.bytes l.gvar l.target) 0 l.count
      (record { at = l.at; left = 0; words = false; number = 0; near = none_named });
}
