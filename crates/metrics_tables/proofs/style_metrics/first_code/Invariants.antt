use Rattle.std.proofs.Common.{◌≡◌, ◌≤◌, min, take}
use Rattle.std.specs.List.{fold}
use Rattle.metrics_tables.proofs.style_metrics.first_code.Given as goal

abbrev pub invariant-loop-code : goal.invariant-loop-code
invariant-loop-code l =
    record {
      least : l.so_far ≡ fold (λ low code. min low code.0) 65535 (take l.code-index l.codes);
      small : l.so_far ≤ 65535;
    }
