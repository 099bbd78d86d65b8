-- proved for all trees, of the laws of the parts
use Rattle.layer_shapes.specs.LayerLaws.{layer_is_read}
use Rattle.glyphs_layers.proofs.ReadLaws.{whole_glyph}
use Rattle.glyphs_layers.proofs.rule_laws.read_glyphs_are_whole.Goals as goal

pub returns : goal.returns
returns c = λ t header index number glyph read e.
    let is = c.read_headers_are_whole.ensures t header read in
    whole_glyph t layer_is_read header index number glyph is
    (c.made_notdef_is_flat.ensures header is) c.first_repeat_is_the_first.ensures e
