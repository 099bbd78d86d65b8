-- The glyph `.notdef` that the compiler makes where a source has none: without contours, half an em
-- wide at every master. fontc's own; OpenType 1.9, "Recommendations for OpenType Fonts", asks for a
-- glyph of that name at glyph 0.
use Rattle.std.specs.Prelude.{◌/◌, pos, [], map}
use Rattle.font_ir.specs.declared.header.Header.{Header}
use Rattle.font_ir.specs.declared.glyph.FlatGlyph.{FlatGlyph}

-- half of the units per em, rounded down, at each master, and no contours there
abbrev pub made_notdef_of : Header → FlatGlyph
made_notdef_of header = record {
  number = 4294967295;
  place = 0;
  places = map (λ master. master.location) header.masters;
  widths = map (λ master. pos (header.upem / 2)) header.masters;
  drawn = map (λ master. []) header.masters;
  kept = [];
  anchors = [];
}
