use Rattle.std.proofs.Common.{◌≡◌, ◌-◌, ◌≤◌, ◌<◌, ◌+◌, ◌*◌, ◌^◌, pos}
use Rattle.std.specs.Prelude.{unsigned_abs}
use Rattle.font_reader.specs.Fold.{folded}
use Rattle.font_reader.specs.Tuples.{with_tuple}
use Rattle.font_reader.proofs.tuples.all_tuples.Given as goal

abbrev pub invariant-loop-i : goal.invariant-loop-i
invariant-loop-i l = record {
  header : l.run.header ≤ 2 ^ 34 + 393220 * l.i;
  body : l.run.body < 2 ^ 38 + 65536 * l.i;
  x : unsigned_abs l.run.x ≤ 4294967296 * l.i;
  y : unsigned_abs l.run.y ≤ 4294967296 * l.i;
  rest : folded (with_tuple l.bytes l.gvar l.variations l.target l.shared l.place l.xs l.ys)
      l.i (l.count - l.i) l.run
      ≡ folded (with_tuple l.bytes l.gvar l.variations l.target l.shared l.place l.xs l.ys)
      0 l.count
      (record { header = l.variations.at + 4; body = l.shared.at; x = pos 0; y = pos 0 });
}
