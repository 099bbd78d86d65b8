use Rattle.std.proofs.Common.{◌≡◌, ◌-◌, ◌≤ℤ◌, pos}
use Rattle.font_reader.specs.Fold.{folded}
use Rattle.font_reader.specs.Stores.{one}
use Rattle.font_reader.specs.Tuples.{with_tuple_axis}
use Rattle.font_reader.proofs.tuples.tuple_scalar.Given as goal

abbrev pub invariant-loop-i : goal.invariant-loop-i
invariant-loop-i l = record {
  low : pos 0 ≤ℤ l.scalar.0;
  high : l.scalar.0 ≤ℤ pos 65536;
  rest : folded (with_tuple_axis l.bytes l.gvar l.header l.place) l.i (l.axes - l.i) l.scalar
      ≡ folded (with_tuple_axis l.bytes l.gvar l.header l.place) 0 l.axes one;
}
