use Rattle.std.proofs.Common.{◌≡◌, ◌-◌, ◌*◌, ◌≤◌, pos}
use Rattle.std.specs.Prelude.{unsigned_abs}
use Rattle.font_reader.specs.Fold.{folded}
use Rattle.font_reader.specs.Stores.{with_region}
use Rattle.font_reader.proofs.stores.all_regions.Given as goal

abbrev pub invariant-loop-i : goal.invariant-loop-i
invariant-loop-i l = record {
  small : unsigned_abs l.sum ≤ 2147483648 * l.i;
  rest : folded (with_region l.bytes l.table l.row l.place) l.i (l.end - l.i) l.sum
      ≡ folded (with_region l.bytes l.table l.row l.place) 0 l.end (pos 0);
}
