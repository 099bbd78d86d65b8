use Rattle.std.proofs.Common.{sym}
use Rattle.cmap_writer.specs.Subtables.{entry_selector}
use Rattle.cmap_writer.proofs.Fields.{greatest_power-is, selector-fits}
use Rattle.cmap_writer.proofs.segments.entry_selector.Goals as goal

pub returns-clause-value : goal.returns-clause-value
unfolding entry_selector
returns-clause-value c =
    sym (greatest_power-is 15 _ _ c.ilog2.ensures.power_le c.ilog2.ensures.next_power_gt
    (selector-fits _ _ c.ilog2.ensures.power_le c.requires.few))
