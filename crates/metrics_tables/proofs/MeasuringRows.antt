-- Worked rows: the regions and rows of a font of one axis whose letter also has a place half way,
-- and the counts of composites.
use Rattle.std.proofs.Common.{◌≡◌, ℕ, ℤ, pos, negsuc, neg_ℤ}
use Rattle.std.proofs.Common.{List, [], ◌∷◌, codes, true, None, Some}
use Rattle.std.proofs.Common.{refl}
use Rattle.fixed_math.specs.declared.F2Dot14.{F2Dot14}
use Rattle.font_ir.specs.declared.header.Header.{Header}
use Rattle.font_ir.specs.declared.header.Master.{Master}
use Rattle.font_ir.specs.declared.glyph.Contour.{Contour}
use Rattle.font_ir.specs.declared.glyph.DrawnPoint.{DrawnPoint}
use Rattle.font_ir.specs.declared.glyph.FlatGlyph.{FlatGlyph}
use Rattle.font_ir.specs.declared.glyph.Kept.{Kept}
use Rattle.font_ir.specs.declared.variation.Region.{Region}
use Rattle.variation_model.specs.Places.{order_of}
use Rattle.variation_model.specs.Supports.{supports_of}
use Rattle.variation_model.specs.Deltas.{deltas_of}
use Rattle.metrics_tables.specs.Changes.{regions_of, row_over, changes_of, large_from}
use Rattle.metrics_tables.specs.Measuring.{maxima_of}
use Rattle.metrics_tables.specs.Nesting.{bases_in, depth_within, greatest_depth}

-- ---- an axis

abbrev on_axis : ℤ → List F2Dot14
on_axis z = record { 0 = z } ∷ []

abbrev master_at : ℤ → Master
master_at z = record {
  id = codes "m";
  design = [];
  user = [];
  location = on_axis z;
  ascender = pos 800;
  descender = neg_ℤ (pos 200);
  cap = pos 0;
  xheight = pos 0;
  place = 53;
}

-- two masters, at the axis's default and its end
abbrev font : Header
font = record {
  upem = 1000;
  family = codes "Tri";
  major = 1;
  minor = 0;
  axes = record { name = codes "Weight"; tag = record { 0 = codes "wght" } } ∷ [];
  masters = master_at (pos 0) ∷ master_at (pos 16384) ∷ [];
  masters_place = 52;
  origin = 0;
  instances = [];
  kerning = [];
  kern_place = 0;
  features = [];
}

abbrev glyph : List (List F2Dot14) → List ℤ → FlatGlyph
glyph places widths = record {
  number = 0;
  place = 0;
  places = places;
  widths = widths;
  drawn = [];
  kept = [];
  anchors = [];
}

abbrev notdef : FlatGlyph
notdef = glyph (on_axis (pos 0) ∷ on_axis (pos 16384) ∷ []) (pos 500 ∷ pos 500 ∷ [])

-- at the masters alone
abbrev letter : FlatGlyph
letter = glyph (on_axis (pos 0) ∷ on_axis (pos 16384) ∷ []) (pos 500 ∷ pos 520 ∷ [])

-- and half way between them
abbrev bent : FlatGlyph
bent = glyph (on_axis (pos 0) ∷ on_axis (pos 16384) ∷ on_axis (pos 8192) ∷ [])
    (pos 500 ∷ pos 520 ∷ pos 512 ∷ [])

abbrev region : ℤ → ℤ → ℤ → Region
region start peak end = record {
  sides = (record { 0 = start }, record { 0 = peak }, record { 0 = end }) ∷ [];
}

abbrev whole : Region
whole = region (pos 0) (pos 16384) (pos 16384)

abbrev rising : Region
rising = region (pos 0) (pos 8192) (pos 16384)

abbrev last : Region
last = region (pos 8192) (pos 16384) (pos 16384)

one_region : regions_of font (notdef ∷ letter ∷ []) ≡ whole ∷ []
unfolding supports_of deltas_of order_of
one_region = refl

letter_row : row_over (whole ∷ []) (changes_of letter) ≡ pos 20 ∷ []
unfolding supports_of deltas_of order_of
letter_row = refl

-- the region of the masters stays, though no glyph changes there
three_regions : regions_of font (notdef ∷ bent ∷ []) ≡ whole ∷ rising ∷ last ∷ []
unfolding supports_of deltas_of order_of
three_regions = refl

notdef_row : row_over (whole ∷ rising ∷ last ∷ []) (changes_of notdef) ≡ pos 0 ∷ pos 0 ∷ pos 0 ∷ []
unfolding supports_of deltas_of order_of
notdef_row = refl

bent_row : row_over (whole ∷ rising ∷ last ∷ []) (changes_of bent) ≡ pos 0 ∷ pos 12 ∷ pos 20 ∷ []
unfolding supports_of deltas_of order_of
bent_row = refl

-- a region that an earlier glyph has stands once, and a glyph at the masters has 0 at it
both : regions_of font (bent ∷ letter ∷ bent ∷ []) ≡ whole ∷ rising ∷ last ∷ []
unfolding supports_of deltas_of order_of
both = refl

letter_among : row_over (whole ∷ rising ∷ last ∷ []) (changes_of letter)
    ≡ pos 20 ∷ pos 0 ∷ pos 0 ∷ []
unfolding supports_of deltas_of order_of
letter_among = refl

-- two axes, of which each end is wide and both ends together are not: what both lack is too much
abbrev on_axes : ℤ → ℤ → List F2Dot14
on_axes x y = record { 0 = x } ∷ record { 0 = y } ∷ []

abbrev cornered : FlatGlyph
cornered = glyph (on_axes (pos 0) (pos 0) ∷ on_axes (pos 16384) (pos 0)
    ∷ on_axes (pos 0) (pos 16384) ∷ on_axes (pos 16384) (pos 16384) ∷ [])
    (pos 0 ∷ pos 32767 ∷ pos 32767 ∷ pos 0 ∷ [])

too_much : large_from 0 (letter ∷ cornered ∷ [])
    ≡ Some (record { number = 0; gid = 1; value = negsuc 65533 })
unfolding supports_of deltas_of order_of
too_much = refl

-- of two the one that is told stands first in the source, though it comes later in the font
abbrev later_notdef : FlatGlyph
later_notdef = record cornered {
  number = 1;
  widths = pos 1 ∷ pos 32767 ∷ pos 32767 ∷ pos 0 ∷ [];
}

first_told : large_from 0 (later_notdef ∷ cornered ∷ [])
    ≡ Some (record { number = 0; gid = 1; value = negsuc 65533 })
unfolding supports_of deltas_of order_of
first_told = refl

none_too_much : large_from 0 (letter ∷ bent ∷ []) ≡ None
unfolding supports_of deltas_of order_of
none_too_much = refl

-- ---- composites

corner : DrawnPoint
corner = record { x = record { 0 = pos 0 }; y = record { 0 = pos 0 }; on = true }

abbrev triangle : Contour
triangle = record { points = corner ∷ corner ∷ corner ∷ [] }

abbrev keeping : List Contour → List Kept → FlatGlyph
keeping contours kept = record {
  number = 0;
  place = 0;
  places = [] ∷ [];
  widths = pos 500 ∷ [];
  drawn = contours ∷ [];
  kept = kept;
  anchors = [];
}

abbrev kept_at : List ℕ → Kept
kept_at base = record { base = base; at = (pos 0, pos 0) ∷ [] }

abbrev names : List (List ℕ)
names = codes ".notdef" ∷ codes "c" ∷ codes "a" ∷ codes "b" ∷ []

-- a triangle a, a composite b of it, and a composite c of b and two a, which stands before them
abbrev glyphs : List FlatGlyph
glyphs = keeping [] []
    ∷ keeping (triangle ∷ triangle ∷ triangle ∷ [])
    (kept_at (codes "b") ∷ kept_at (codes "a") ∷ kept_at (codes "a") ∷ [])
    ∷ keeping (triangle ∷ []) []
    ∷ keeping (triangle ∷ []) (kept_at (codes "a") ∷ []) ∷ []

bases : bases_in names glyphs ≡ [] ∷ (3 ∷ 2 ∷ 2 ∷ []) ∷ [] ∷ (2 ∷ []) ∷ []
bases = refl

-- a composite of simple glyphs has the depth 1
depth_one : greatest_depth ([] ∷ (0 ∷ 0 ∷ []) ∷ []) ≡ 1
unfolding depth_within
depth_one = refl

depth_none : greatest_depth ([] ∷ [] ∷ []) ≡ 0
unfolding depth_within
depth_none = refl

maxima : maxima_of names glyphs 0 ≡ record {
  points = 3;
  contours = 1;
  composite_points = 9;
  composite_contours = 3;
  components = 3;
  depth = 2;
}
unfolding depth_within corner
maxima = refl
