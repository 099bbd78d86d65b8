-- the coordinates that are left lie between the masters' exactly where all do
use Rattle.std.proofs.Common.{◌≡◌, drop}
use Rattle.glyphs_layers.specs.GlyphPlaces.{are_within}
use Rattle.glyphs_layers.proofs.places.are_within.Given as goal

abbrev pub invariant-loop-axis : goal.invariant-loop-axis
invariant-loop-axis l =
    are_within l.masters l.axis (drop l.axis l.design) ≡ are_within l.masters 0 l.design
