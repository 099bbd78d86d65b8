-- the first glyph that repeats a code among those left is the first among all
use Rattle.std.proofs.Common.{◌≡◌}
use Rattle.indexmap.specs.IndexMap.{values}
use Rattle.glyphs_source.specs.IndexReading.{repeated_codes}
use Rattle.glyphs_source.proofs.index.first_repeat.Given as goal

abbrev pub invariant-loop-entry : goal.invariant-loop-entry
invariant-loop-entry l =
    repeated_codes l.tree l.seen.keys l.entry-iterator
    ≡ repeated_codes l.tree l.initial.seen.keys (values l.entries)
