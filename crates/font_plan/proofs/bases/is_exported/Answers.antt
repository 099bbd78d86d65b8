-- what is exported stands in the order
use Rattle.font_plan.proofs.Exported.{exported_is}
use Rattle.font_plan.proofs.bases.is_exported.Goals as goal

pub returns : goal.returns
returns c = exported_is c.args.index.now c.args.glyph
    (c.entry_at.result.0.now, c.entry_at.result.1.now) c.requires.index.notdef
    c.requires.index.different c.entry_at.ensures
