use Rattle.table_bench.proofs.Fonts.{all_begin, all_flat, none_lead}
use Rattle.table_bench.proofs.metrics.greatest_counts.Goals as goal

pub measure-requires-clause-flat : goal.measure-requires-clause-flat
measure-requires-clause-flat c = all_flat _ _ c.requires.glyphs

pub measure-requires-clause-places : goal.measure-requires-clause-places
measure-requires-clause-places c = all_begin _ _ c.requires.glyphs c.args.header.now c.requires.masters

pub measure-requires-clause-nesting : goal.measure-requires-clause-nesting
measure-requires-clause-nesting c = none_lead _ _ c.requires.glyphs
