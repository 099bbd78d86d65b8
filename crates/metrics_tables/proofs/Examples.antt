-- Worked examples: a font of one em of 1000 units with a `.notdef` without points and a triangle,
-- and its tables.
use Rattle.std.proofs.Common.{◌≡◌, ℕ, ◌*◌, pos, neg_ℤ, [], ◌∷◌, None, Some, true, codes, refl}
use Rattle.font_ir.specs.declared.header.Header.{Header}
use Rattle.font_ir.specs.declared.glyph.FlatGlyph.{FlatGlyph}
use Rattle.font_ir.specs.declared.glyph.DrawnPoint.{DrawnPoint}
use Rattle.metrics_tables.specs.declared.measures.Measures.{Measures}
use Rattle.metrics_tables.specs.Measuring.{measures_of}
use Rattle.metrics_tables.specs.Tables.{head_table, hhea_table, maxp_table, hmtx_table}

header : Header
header = record {
  upem = 1000;
  family = codes "Tri";
  major = 1;
  minor = 0;
  axes = [];
  masters = record {
    id = codes "m1";
    design = [];
    user = [];
    location = [];
    ascender = pos 800;
    descender = neg_ℤ (pos 200);
    cap = pos 0;
    xheight = pos 0;
    place = 53;
  } ∷ [];
  masters_place = 52;
  origin = 0;
  instances = [];
  kerning = [];
  kern_place = 0;
  features = [];
}

notdef : FlatGlyph
notdef = record {
  number = 4294967295;
  place = 0;
  places = [] ∷ [];
  widths = pos 500
      ∷ [];
  drawn = [] ∷ [];
  kept = [];
  anchors = [];
}

-- a corner at whole units
corner : ℕ → ℕ → DrawnPoint
corner x y = record {
  x = record { 0 = pos (65536 * x) };
  y = record { 0 = pos (65536 * y) };
  on
      = true;
}

triangle : FlatGlyph
triangle = record {
  number = 0;
  place = 82;
  places = [] ∷ [];
  widths = pos 500 ∷ [];
  drawn = (record { points = corner 0 0 ∷ corner 500 0 ∷ corner 250 700 ∷ [] } ∷ []) ∷ [];
  kept = [];
  anchors = [];
}

measures : Measures
measures = measures_of header (notdef ∷ triangle ∷ [])

-- the glyph without points has no bounds, and still counts for the greatest advance
measured : measures.bounds ≡ None ∷ Some (pos 0 ∷ pos 0 ∷ pos 500 ∷ pos 700 ∷ []) ∷ []
unfolding measures header notdef triangle corner
measured = refl

-- its table `head`
head_bytes : head_table header measures ≡
    0 ∷ 1 ∷ 0 ∷ 0 ∷ 0 ∷ 1 ∷ 0 ∷ 0 ∷ 0 ∷ 0 ∷ 0 ∷ 0 ∷ 95 ∷ 15 ∷ 60 ∷ 245 ∷ 0 ∷ 3 ∷ 3 ∷ 232 ∷ 0 ∷ 0 ∷ 0
    ∷ 0 ∷ 0 ∷ 0 ∷
    0 ∷ 0 ∷ 0 ∷ 0 ∷ 0 ∷ 0 ∷ 0 ∷ 0 ∷ 0 ∷ 0 ∷ 0 ∷ 0 ∷ 0 ∷ 0 ∷ 1 ∷ 244 ∷ 2 ∷ 188 ∷ 0 ∷ 0 ∷ 0 ∷ 6 ∷ 0
    ∷ 2 ∷ 0 ∷ 1 ∷ 0 ∷
    0 ∷ []
unfolding head_table measures header notdef triangle corner
head_bytes = refl

-- its table `hhea`
hhea_bytes : hhea_table header measures ≡
    0 ∷ 1 ∷ 0 ∷ 0 ∷ 3 ∷ 32 ∷ 255 ∷ 56 ∷ 0 ∷ 0 ∷ 1 ∷ 244 ∷ 0 ∷ 0 ∷ 0 ∷ 0 ∷ 1 ∷ 244 ∷ 0 ∷ 1 ∷ 0 ∷ 0
    ∷ 0 ∷ 0 ∷ 0 ∷ 0 ∷
    0 ∷ 0 ∷ 0 ∷ 0 ∷ 0 ∷ 0 ∷ 0 ∷ 0 ∷ 0 ∷ 2 ∷ []
unfolding hhea_table measures header notdef triangle corner
hhea_bytes = refl

-- its table `maxp`
maxp_bytes : maxp_table measures ≡
    0 ∷ 1 ∷ 0 ∷ 0 ∷ 0 ∷ 2 ∷ 0 ∷ 3 ∷ 0 ∷ 1 ∷ 0 ∷ 0 ∷ 0 ∷ 0 ∷ 0 ∷ 2 ∷ 0 ∷ 0 ∷ 0 ∷ 0 ∷ 0 ∷ 0 ∷ 0 ∷ 0
    ∷ 0 ∷ 0 ∷ 0 ∷ 0 ∷
    0 ∷ 0 ∷ 0 ∷ 0 ∷ []
unfolding maxp_table measures header notdef triangle corner
maxp_bytes = refl

-- its table `hmtx`
hmtx_bytes : hmtx_table measures ≡
    1 ∷ 244 ∷ 0 ∷ 0 ∷ 1 ∷ 244 ∷ 0 ∷ 0 ∷ []
unfolding measures header notdef triangle corner
hmtx_bytes = refl
