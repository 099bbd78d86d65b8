use Rattle.std.proofs.Common.{◌≡◌, ◌++◌}
use Rattle.glyf_writer.proofs.Components.{written_from}
use Rattle.glyf_writer.proofs.composite.push_components.Given as goal

abbrev pub invariant-loop-number : goal.invariant-loop-number
invariant-loop-number l = l.bytes.items ++ written_from l.origin l.kept l.gids l.number
    ≡ l.initial.bytes.items ++ written_from l.origin l.kept l.gids 0
