use Rattle.std.proofs.Common.{Ok}
use Rattle.component_flatten.proofs.FlatLaws.{flat_glyph}
use Rattle.component_flatten.proofs.laws.drawn_glyphs_are_flat.Goals as goal

pub returns : goal.returns
returns c index name glyph bases flat read based e =
    flat_glyph index glyph bases read based name (Ok flat) e
