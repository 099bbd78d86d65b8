-- what is left has the names that stand again of all, and the entries so far are the first of all
use Rattle.std.proofs.Common.{◌≡◌, ◌++◌, [], drop}
use Rattle.std.specs.Map.{keys_of}
use Rattle.glyphs_source.specs.IndexReading.{repeated_names, entries_from}
use Rattle.glyphs_source.proofs.index.collect.Given as goal

abbrev pub invariant-loop-number : goal.invariant-loop-number
invariant-loop-number l =
    (repeated_names l.tree (keys_of l.entries.entries) (drop l.number l.glyphs)
    ≡ repeated_names l.tree [] l.glyphs)
    × (l.entries.entries ++ entries_from l.tree l.number (drop l.number l.glyphs)
    ≡ entries_from l.tree 0 l.glyphs)
