use Rattle.std.proofs.Common.{◌≡◌, ◌+◌, ◌++◌, drop, length}
use Rattle.std.specs.List.{All}
use Rattle.style_tables.specs.Metrics.{first_large_of, rows_of, varied_among}
use Rattle.style_tables.proofs.metrics.varied_among.Given as goal

abbrev pub invariant-loop-metric : goal.invariant-loop-metric
invariant-loop-metric l =
    record {
      metrics : l.varied.metrics.items ++ varied_among l.header (drop l.metric-index l.metrics)
          ≡ varied_among l.header l.metrics;
      rows : l.varied.rows.items ≡ rows_of l.header l.varied.metrics.items;
      long : All (λ row. length row + 1 ≡ length l.header.masters) l.varied.rows.items;
      stored : first_large_of l.header (drop l.metric-index l.metrics)
          ≡ first_large_of l.header l.metrics;
    }
