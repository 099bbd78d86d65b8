use Rattle.std.proofs.Common.{◌≡◌, max, drop, map}
use Rattle.metrics_tables.specs.Comparisons.{greatest_count}
use Rattle.metrics_tables.proofs.style_metrics.last_code.Given as goal

abbrev pub invariant-loop-code : goal.invariant-loop-code
invariant-loop-code l =
    max l.so_far (greatest_count (map (λ code. code.0) (drop l.code-index l.codes)))
    ≡ greatest_count (map (λ code. code.0) l.codes)
