use Rattle.std.proofs.Common.{◌≡◌, ◌*◌, ◌≤◌, nat_lt, take}
use Rattle.std.specs.Prelude.{count_by}
use Rattle.std.specs.List.{sum}
use Rattle.metrics_tables.proofs.style_metrics.mean_advance.Given as goal

abbrev pub invariant-loop-advance : goal.invariant-loop-advance
invariant-loop-advance l =
    record {
      total : l.total ≡ sum (take l.advance-index l.advances);
      count : l.count ≡ count_by (nat_lt 0) (take l.advance-index l.advances);
      small : l.total ≤ 65535 * l.count;
      few : l.count ≤ l.advance-index;
    }
