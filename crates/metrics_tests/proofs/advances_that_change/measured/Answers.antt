use Rattle.metrics_tests.proofs.Simple.{all_begin, all_flat, none_lead}
use Rattle.metrics_tests.proofs.advances_that_change.measured.Goals as goal

pub measure-requires-clause-flat : goal.measure-requires-clause-flat
measure-requires-clause-flat c = all_flat c.args.header.now _ c.requires.glyphs

pub measure-requires-clause-places : goal.measure-requires-clause-places
measure-requires-clause-places c = all_begin c.args.header.now _ c.requires.glyphs

pub measure-requires-clause-nesting : goal.measure-requires-clause-nesting
measure-requires-clause-nesting c = none_lead c.args.header.now _ c.requires.glyphs _
