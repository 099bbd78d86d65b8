use Rattle.std.proofs.Common.{sym}
use Rattle.font_assembly.specs.File.{entry_selector}
use Rattle.font_assembly.proofs.FileLemmas.{greatest_power-is, selector-fits}
use Rattle.font_assembly.proofs.file.entry_selector.Goals as goal

pub returns-clause-value : goal.returns-clause-value
unfolding entry_selector
returns-clause-value c =
    sym (greatest_power-is 15 _ _ c.ilog2.ensures.power_le c.ilog2.ensures.next_power_gt
    (selector-fits _ _ c.ilog2.ensures.power_le c.requires.few))
