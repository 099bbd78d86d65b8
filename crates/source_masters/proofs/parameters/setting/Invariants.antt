-- what is found among the entries that are left is what is found among all
use Rattle.std.proofs.Common.{◌≡◌, drop}
use Rattle.std.specs.List.{find}
use Rattle.source_masters.specs.Parameters.{sets}
use Rattle.source_masters.proofs.parameters.setting.Given as goal

abbrev pub invariant-loop-entry : goal.invariant-loop-entry
invariant-loop-entry l = find (sets l.name l.tree) (drop l.entry-index l.entries)
    ≡ find (sets l.name l.tree) l.entries
