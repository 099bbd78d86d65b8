use Rattle.std.proofs.Common.{◌≡◌, ◌+◌, ◌≤◌, ◌++◌, drop}
use Rattle.cmap_writer.specs.Runs.{joined, longest_runs}
use Rattle.cmap_writer.proofs.runs.runs_after.Given as goal

abbrev pub invariant-loop-code : goal.invariant-loop-code
invariant-loop-code l =
    record {
      bounded : l.run.first + l.run.more ≤ 1114111;
      told : l.runs.items ++ joined l.run (longest_runs (drop l.code-index l.codes))
          ≡ joined l.fn.first (longest_runs l.codes);
    }
