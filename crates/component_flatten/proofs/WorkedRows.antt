-- Worked examples: what the job of a flat glyph answers.
use Rattle.std.proofs.Common.{◌≡◌, ℕ, List, [], ◌∷◌, refl, map}
use Rattle.std.specs.Prelude.{Ok, Err, ℤ, pos, negsuc, neg_ℤ, true, false, replicate, codes, None}
use Rattle.std.specs.Prelude.{Bool, nat_eq, if◌then◌else◌}
use Rattle.std.specs.Cmp.Lexicographic.{pointwise}
use Rattle.fixed_math.specs.declared.Fixed.{Fixed}
use Rattle.fixed_math.specs.declared.F2Dot14.{F2Dot14}
use Rattle.font_ir.specs.declared.glyph.DrawnPoint.{DrawnPoint}
use Rattle.font_ir.specs.declared.glyph.Contour.{Contour}
use Rattle.font_ir.specs.declared.glyph.Anchor.{Anchor}
use Rattle.component_flatten.specs.Anchors.{anchors_of}
use Rattle.font_ir.specs.declared.glyph.Shape.{Shape}
use Rattle.font_ir.specs.declared.glyph.Shape.TheVariants.{Path, Component}
use Rattle.font_ir.specs.declared.glyph.LayerIr.{LayerIr}
use Rattle.font_ir.specs.declared.glyph.GlyphIr.{GlyphIr}
use Rattle.font_ir.specs.declared.glyph.FlatGlyph.{FlatGlyph}
use Rattle.glyphs_source.specs.declared.entries.IndexEntry.{IndexEntry}
use Rattle.refusal_codes.specs.declared.rule.Rule.{Rule}
use Rattle.refusal_codes.specs.declared.rule.Rule.TheVariants.{CoordinateTooLarge, TooManyPoints}
use Rattle.refusal_codes.specs.declared.rule.Rule.TheVariants.{DeltaTooLarge}
use Rattle.refusal_codes.specs.declared.refusal.Refusal.{Refusal}
use Rattle.variation_model.specs.Places.{order_of}
use Rattle.variation_model.specs.Supports.{supports_of}
use Rattle.variation_model.specs.Deltas.{deltas_of}
use Rattle.component_flatten.specs.declared.transform.Transform.{Transform}
use Rattle.component_flatten.specs.Transforms.{transformed_point}
use Rattle.component_flatten.specs.Places.{placed}
use Rattle.component_flatten.specs.Drawing.{glyph_drawn}
use Rattle.component_flatten.specs.Flattening.{flat_record, flat_of}
use Rattle.component_flatten.specs.SourceDrawing.{NestsWithin, drawn_within}

abbrev point : ℤ → ℤ → DrawnPoint
point x y = record { x = record { 0 = x }; y = record { 0 = y }; on = true }

abbrev fixed : ℤ → Fixed
fixed raw = record { 0 = raw }

-- ---- how a component draws a point: 250 and 700, scaled by 0.5 and -2, turned, moved by 10.25
-- and -3

abbrev corner : DrawnPoint
corner = point (pos 16384000) (pos 45875200)

abbrev turned_by : ℕ → Transform
turned_by quarters = record {
  at = (fixed (pos 671744), fixed (neg_ℤ (pos 196608)));
  scale = (fixed (pos 32768), fixed (neg_ℤ (pos 131072)));
  quarters = quarters;
}

-- by 720 degrees: 135.25 and -1403
pub unturned : transformed_point (turned_by 0) corner
    ≡ point (pos 8863744) (neg_ℤ (pos 91947008))
unturned = refl

-- by 90 degrees: 1410.25 and 122
pub turned_once : transformed_point (turned_by 1) corner
    ≡ point (pos 92422144) (pos 7995392)
turned_once = refl

-- by 180 degrees: -114.75 and 1397
pub turned_twice : transformed_point (turned_by 2) corner
    ≡ point (neg_ℤ (pos 7520256)) (pos 91553792)
turned_twice = refl

-- by -450 degrees: -1389.75 and -128
pub turned_thrice : transformed_point (turned_by 3) corner
    ≡ point (neg_ℤ (pos 91078656)) (neg_ℤ (pos 8388608))
turned_thrice = refl

-- half of a raw number 1 is rounded up, also where it is below 0, before it is turned
pub rounded : transformed_point (record {
  at = (fixed (pos 0), fixed (pos 0));
  scale = (fixed (pos 32768), fixed (pos 32768));
  quarters = 1;
}) (point (pos 1) (pos 1)) ≡ point (neg_ℤ (pos 1)) (pos 1)
rounded = refl

pub rounded_below : transformed_point (record {
  at = (fixed (pos 0), fixed (pos 0));
  scale = (fixed (pos 32768), fixed (pos 32768));
  quarters = 0;
}) (point (negsuc 0) (negsuc 0)) ≡ point (pos 0) (pos 0)
rounded_below = refl

-- ---- glyphs at one place

abbrev triangle_contour : ℤ → ℤ → Contour
triangle_contour left right = record {
  points = point (pos 16384000) (pos 45875200) ∷ point left (pos 0) ∷ point right (pos 0) ∷ [];
}

abbrev layer_of : List Shape → LayerIr
layer_of shapes = record { width = pos 500; shapes = shapes; anchors = [] }

abbrev glyph_of : List Shape → GlyphIr
glyph_of shapes = record {
  number = 0;
  place = 82;
  masters = 1;
  places = [] ∷ [];
  layers = layer_of shapes ∷ [];
}

abbrev flat_with : List Contour → FlatGlyph
flat_with contours = record {
  number = 0;
  place = 82;
  places = [] ∷ [];
  widths = pos 500 ∷ [];
  drawn = contours ∷ [];
  kept = [];
  anchors = [];
}

abbrev refused : Rule → Refusal
refused rule = record { stratum = 1; kind = 4; name = codes "A"; rule = rule; place = 82 }

-- a triangle is drawn as it stands, also where a point is at 16383
pub triangle-drawn : flat_of [] (codes "A")
    (glyph_of (Path (triangle_contour (pos 0) (pos 1073676288)) ∷ [])) []
    ≡ Ok (flat_with (triangle_contour (pos 0) (pos 1073676288) ∷ []))
unfolding flat_of flat_record
triangle-drawn = refl

-- and not beyond it, at either side
pub beyond-refused : flat_of [] (codes "A")
    (glyph_of (Path (triangle_contour (pos 0) (pos 1073676289)) ∷ [])) []
    ≡ Err (refused CoordinateTooLarge)
unfolding flat_of flat_record
beyond-refused = refl

pub below-refused : flat_of [] (codes "A")
    (glyph_of (Path (triangle_contour (neg_ℤ (pos 1073676289)) (pos 0)) ∷ [])) []
    ≡ Err (refused CoordinateTooLarge)
unfolding flat_of flat_record
below-refused = refl

-- 8,000 points are drawn, and one more is refused
abbrev many_points : ℕ → Contour
many_points n = record { points = replicate n (point (pos 0) (pos 0)) }

pub most_points-drawn : flat_of [] (codes "A") (glyph_of (Path (many_points 8000) ∷ [])) []
    ≡ Ok (flat_with (many_points 8000 ∷ []))
unfolding flat_of flat_record
most_points-drawn = refl

pub more_points-refused : flat_of [] (codes "A") (glyph_of (Path (many_points 8001) ∷ [])) []
    ≡ Err (refused TooManyPoints)
unfolding flat_of flat_record
more_points-refused = refl

-- ---- components

abbrev entry : Bool → IndexEntry
entry exported = record {
  number = 0;
  node = 0;
  exported = exported;
  codes = [];
  left = None;
  right = None;
}

abbrev index_with : Bool → List (List ℕ × IndexEntry)
index_with exported = (codes "A", entry exported) ∷ []

abbrev moved_base : Shape
moved_base = Component (codes "A") (fixed (pos 6553600), fixed (pos 0))
    (fixed (pos 65536), fixed (pos 65536)) 0

abbrev moved_contour : Contour
moved_contour = record {
  points = point (pos 22937600) (pos 45875200) ∷ point (pos 6553600) (pos 0)
      ∷ point (pos 39321600) (pos 0) ∷ [];
}

-- a component that is moved by 100 stays one, where its base is exported
pub moved-kept : flat_of (index_with true) (codes "B") (glyph_of (moved_base ∷ []))
    (flat_with (triangle_contour (pos 0) (pos 32768000) ∷ []) ∷ [])
    ≡ Ok (record (flat_with (moved_contour ∷ [])) {
      kept = record { base = codes "A"; at = (pos 100, pos 0) ∷ [] } ∷ [];
    })
unfolding flat_of flat_record
moved-kept = refl

-- also where the base draws nothing
pub empty-kept : flat_of (index_with true) (codes "B") (glyph_of (moved_base ∷ []))
    (flat_with [] ∷ []) ≡ Ok (record (flat_with []) {
      kept = record { base = codes "A"; at = (pos 100, pos 0) ∷ [] } ∷ [];
    })
unfolding flat_of flat_record
empty-kept = refl

-- else its contours are drawn, and it is a simple glyph
pub moved-drawn : flat_of (index_with false) (codes "B") (glyph_of (moved_base ∷ []))
    (flat_with (triangle_contour (pos 0) (pos 32768000) ∷ []) ∷ [])
    ≡ Ok (flat_with (moved_contour ∷ []))
unfolding flat_of flat_record
moved-drawn = refl

-- ---- components of components

abbrev moved_glyph : List ℕ → GlyphIr
moved_glyph base = glyph_of (Component base (fixed (pos 6553600), fixed (pos 0))
    (fixed (pos 65536), fixed (pos 65536)) 0 ∷ [])

-- a source in which n1 has the component n2, a triangle
abbrev nested : List ℕ → GlyphIr
nested name =
    if pointwise nat_eq name (codes "n2")
    then glyph_of (Path (triangle_contour (pos 0) (pos 32768000)) ∷ [])
    else moved_glyph (codes "n2")

-- a glyph with the component n1 draws the triangle, moved by 100 twice
pub nested-drawn : drawn_within nested 2 (moved_glyph (codes "n1"))
    ≡ (record {
      points = point (pos 29491200) (pos 45875200) ∷ point (pos 13107200) (pos 0)
          ∷ point (pos 45875200) (pos 0) ∷ [];
    } ∷ []) ∷ []
nested-drawn = refl

pub nested-nests : NestsWithin nested 2 (moved_glyph (codes "n1"))
nested-nests = ((refl, tt), tt)

-- points are counted before coordinates are looked at
pub points-first : flat_of [] (codes "A") (glyph_of (Path (many_points 8000)
    ∷ Path (triangle_contour (pos 0) (pos 1073676289)) ∷ [])) []
    ≡ Err (refused TooManyPoints)
unfolding flat_of flat_record
points-first = refl

-- ---- places of their own

abbrev at : ℤ → List F2Dot14
at raw = record { 0 = raw } ∷ []

abbrev one_point : ℤ → List Contour
one_point x = record { points = point x (pos 0) ∷ [] } ∷ []

-- a base whose point goes from 0 to 500 units over the axis
abbrev moving : ℤ → FlatGlyph
moving x = record {
  number = 0;
  place = 82;
  places = at (pos 0) ∷ at (pos 16384) ∷ [];
  widths = pos 500 ∷ pos 500 ∷ [];
  drawn = one_point (pos 0) ∷ one_point x ∷ [];
  kept = [];
  anchors = [];
}

-- is at 125 units a quarter of the way
pub between-places : placed (moving (pos 32768000)) (at (pos 4096)) ≡ one_point (pos 8192000)
unfolding deltas_of supports_of order_of
between-places = refl

-- and as it is drawn at its own places
pub at-own-place : placed (moving (pos 32768000)) (at (pos 16384)) ≡ one_point (pos 32768000)
at-own-place = refl

-- ---- anchors

abbrev anchored : List Anchor → LayerIr
anchored anchors = record { width = pos 500; shapes = []; anchors = anchors }

abbrev anchor : List ℕ → ℤ → Anchor
anchor name x = record { name = name; x = x; y = pos 0 }

-- those of both masters are used, in the order of the first one; not one that only one master has,
-- and none of a layer at a place of its own
pub anchors-used : anchors_of (record {
  number = 0;
  place = 82;
  masters = 2;
  places = at (pos 0) ∷ at (pos 16384) ∷ at (pos 8192) ∷ [];
  layers = anchored (anchor (codes "top") (pos 1) ∷ anchor (codes "left") (pos 2)
      ∷ anchor (codes "low") (pos 3) ∷ [])
      ∷ anchored (anchor (codes "low") (pos 4) ∷ anchor (codes "right") (pos 5)
      ∷ anchor (codes "top") (pos 6) ∷ [])
      ∷ anchored [] ∷ [];
})
    ≡ (codes "top", (pos 1, pos 0) ∷ (pos 6, pos 0) ∷ [])
    ∷ (codes "low", (pos 3, pos 0) ∷ (pos 4, pos 0) ∷ []) ∷ []
anchors-used = refl

-- a component of a base that lacks a place of the glyph is drawn there between the base's places
abbrev moved_over : List (List F2Dot14) → GlyphIr
moved_over places = record {
  number = 0;
  place = 82;
  masters = 2;
  places = places;
  layers = map (λ place. layer_of (moved_base ∷ [])) places;
}

pub drawn-between : glyph_drawn (moved_over (at (pos 0) ∷ at (pos 16384) ∷ at (pos 4096) ∷ []))
    (moving (pos 32768000) ∷ [])
    ≡ one_point (pos 6553600) ∷ one_point (pos 39321600) ∷ one_point (pos 14745600) ∷ []
unfolding deltas_of supports_of order_of
drawn-between = refl

-- and where the glyph's places are all among the base's, a place that only the base has changes
-- nothing of what is drawn there
pub drawn-without : glyph_drawn (moved_over (at (pos 0) ∷ [])) (moving (pos 32768000) ∷ [])
    ≡ one_point (pos 6553600) ∷ []
unfolding deltas_of supports_of order_of
drawn-without = refl

abbrev both : ℤ → ℤ → List F2Dot14
both a b = record { 0 = a } ∷ record { 0 = b } ∷ []

-- a base over two axes: 0, 16383 at the end of each axis, and x where both end
abbrev wide : ℤ → FlatGlyph
wide x = record {
  number = 0;
  place = 82;
  places = both (pos 0) (pos 0) ∷ both (pos 16384) (pos 0) ∷ both (pos 0) (pos 16384)
      ∷ both (pos 16384) (pos 16384) ∷ [];
  widths = pos 500 ∷ pos 500 ∷ pos 500 ∷ pos 500 ∷ [];
  drawn = one_point (pos 0) ∷ one_point (pos 1073676288) ∷ one_point (pos 1073676288)
      ∷ one_point x ∷ [];
  kept = [];
  anchors = [];
}

-- its last delta is -32769, which is told before the coordinates that are too far
pub deltas-first : flat_of [] (codes "A") (moved_over (both (pos 0) (pos 0)
    ∷ both (pos 16384) (pos 0) ∷ both (pos 8192) (pos 8192) ∷ []))
    (wide (neg_ℤ (pos 196608)) ∷ []) ≡ Err (refused DeltaTooLarge)
unfolding flat_of flat_record deltas_of supports_of order_of
deltas-first = refl

-- with -32768 it can be stored, and the coordinates are told
pub deltas-stored : flat_of [] (codes "A") (moved_over (both (pos 0) (pos 0)
    ∷ both (pos 16384) (pos 0) ∷ both (pos 8192) (pos 8192) ∷ []))
    (wide (neg_ℤ (pos 131072)) ∷ []) ≡ Err (refused CoordinateTooLarge)
unfolding flat_of flat_record deltas_of supports_of order_of
deltas-stored = refl
