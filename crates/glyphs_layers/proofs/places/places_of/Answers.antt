use Rattle.glyphs_layers.proofs.PlaceLaws.{all_placed}
use Rattle.glyphs_layers.proofs.places.places_of.Goals as goal

pub add_own_places-requires-clause-placed : goal.add_own_places-requires-clause-placed
add_own_places-requires-clause-placed c =
    all_placed c.args.tree.now c.args.header.now c.args.glyph c.args.layers.now c.requires.layers
    c.requires.placed
