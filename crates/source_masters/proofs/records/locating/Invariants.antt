-- what is found among the entries that are left is what is found among all
use Rattle.std.proofs.Common.{◌≡◌, drop}
use Rattle.std.specs.List.{find}
use Rattle.source_masters.specs.MasterReading.{locates}
use Rattle.source_masters.proofs.records.locating.Given as goal

abbrev pub invariant-loop-entry : goal.invariant-loop-entry
invariant-loop-entry l = find (locates l.axis l.tree) (drop l.entry-index l.entries)
    ≡ find (locates l.axis l.tree) l.entries
