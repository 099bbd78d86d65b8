-- what a call answers is the definition's
use Rattle.glyphs_source.proofs.HeaderLaws.{given_whole}
use Rattle.glyphs_source.proofs.font_header.header.Goals as goal

pub returns-clause-whole : goal.returns-clause-whole
returns-clause-whole c =
    given_whole c.read_headers_are_whole.ensures c.args.tree.now c.read_header.result
    c.read_header.ensures
