-- What a proof by computation unfolds to compute the layers of a glyph of a source that is written
-- out. Only such proofs need this module.
use Rattle.std.specs.Prelude.{⊤}
use Rattle.axis_space.specs.Placing.{place_of}
use Rattle.axis_space.specs.Repeats.{first_repeat}
use Rattle.layer_shapes.specs.OnLiterals.{layers_on_literals}
use Rattle.glyphs_layers.specs.SourceLayers.{layer_numbers, source_layers}
use Rattle.glyphs_layers.specs.GlyphRules.{entry_failures, entries_failures, coordinates_failures}
use Rattle.glyphs_layers.specs.GlyphRules.{glyph_failures}
use Rattle.glyphs_layers.specs.GlyphPlaces.{missing_layer, design_of, places_of, same_place}
use Rattle.glyphs_layers.specs.GlyphPlaces.{layers_failure, places_failure}
use Rattle.glyphs_layers.specs.GlyphReading.{shapes_failure, glyph_record, whole_failure}
use Rattle.glyphs_layers.specs.GlyphReading.{judged_glyph}

unfoldable pub glyphs_on_literals : ⊤
unfolding layers_on_literals place_of first_repeat layer_numbers source_layers
    entry_failures entries_failures coordinates_failures glyph_failures missing_layer design_of
    places_of same_place layers_failure places_failure shapes_failure glyph_record whole_failure
    judged_glyph
glyphs_on_literals = tt
