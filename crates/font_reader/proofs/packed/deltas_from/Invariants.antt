use Rattle.std.proofs.Common.{◌≡◌, ◌-◌, ◌≤◌, ◌+◌, ◌*◌, pos}
use Rattle.font_reader.specs.Fold.{folded}
use Rattle.font_reader.specs.Packed.{next_delta}
use Rattle.font_reader.proofs.packed.deltas_from.Given as goal

abbrev pub invariant-loop-i : goal.invariant-loop-i
invariant-loop-i l = record {
  near : l.run.at ≤ l.at + 3 * l.i;
  width : l.run.width ≤ 2;
  rest : folded (next_delta l.bytes l.gvar l.pair) l.i (l.count - l.i) l.run
      ≡ folded (next_delta l.bytes l.gvar l.pair) 0 l.count
      (record { at = l.at; left = 0; width = 0; before = pos 0; after = pos 0 });
}
