-- what the layers so far hold and what those that are left do is what all hold; and so is what is
-- noted
use Rattle.std.proofs.Common.{◌≡◌, ◌++◌, drop, map}
use Rattle.std.specs.Prelude.{flat_map}
use Rattle.refusal_codes.specs.First.{noted}
use Rattle.glyphs_layers.specs.GlyphRules.{source_failures}
use Rattle.glyphs_layers.specs.Forms.{record_of}
use Rattle.glyphs_layers.proofs.glyph_layers.read_each.Given as goal

abbrev pub invariant-loop-layer : goal.invariant-loop-layer
invariant-loop-layer l =
    (l.records.items ++ map (record_of l.tree) (drop l.layer-index l.layers)
    ≡ map (record_of l.tree) l.layers)
    × (noted l.first (flat_map (source_failures l.tree) (drop l.layer-index l.layers))
    ≡ noted l.initial.first (flat_map (source_failures l.tree) l.layers))
