-- what the definition answers has no repeats, or tells the first; its names have 1 to 255 bytes
use Rattle.glyphs_source.proofs.RepeatLaws.{read_without, read_tells}
use Rattle.glyphs_source.proofs.IndexNames.{given_names}
use Rattle.glyphs_source.proofs.index.glyph_index.Goals as goal

pub returns-clause-distinct : goal.returns-clause-distinct
returns-clause-distinct c = read_without c.args.tree.now c.read_index.result
    c.read_index.ensures.entries

pub returns-clause-repeat : goal.returns-clause-repeat
returns-clause-repeat c = read_tells c.args.tree.now c.read_index.result
    c.read_index.ensures.entries

pub returns-clause-named : goal.returns-clause-named
returns-clause-named c = given_names c.args.tree.now c.read_index.result
    c.read_index.ensures.entries
