use Rattle.glyphs_layers.proofs.PlaceLaws.{masters_within}
use Rattle.glyphs_layers.proofs.places.place_within.Goals as goal

pub place_of-requires-clause-within : goal.place_of-requires-clause-within
place_of-requires-clause-within c =
    masters_within c.args.header.now c.as_slice.result.now c.args.design.now c.as_slice.ensures
    c.requires.within
