use Rattle.std.proofs.Common.{◌≡◌, ◌≤◌, ◌++◌, drop, length}
use Rattle.gvar_writer.specs.PackedPoints.{differences}
use Rattle.gvar_writer.specs.TupleData.{numbers_from}
use Rattle.gvar_writer.proofs.named.differences.Given as goal

abbrev pub invariant-loop-number : goal.invariant-loop-number
invariant-loop-number l =
    record {
      few : length l.differences.items ≤ l.number;
      earlier : l.before ≤ l.number;
      told : l.differences.items ++ differences l.before (numbers_from l.number
          (drop l.number l.named)) ≡ differences 0 (numbers_from 0 l.named);
    }
