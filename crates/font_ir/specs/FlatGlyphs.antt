-- The flat glyphs that the compiler makes: what a glyph fulfils once its contours are drawn. The
-- limits are fontc's own.
use Rattle.std.specs.Prelude.{◌≡◌, ℕ, ◌<◌, ◌≤◌, ℤ, pos, neg_ℤ, ◌≤ℤ◌, Bool, List, length, map}
use Rattle.std.specs.List.{All, AllPairs, sum_by}
use Rattle.std.specs.Arc.{arc_value}
use Rattle.std.specs.declared.alloc.Global.{Global}
use Rattle.std.specs.declared.sync.Arc.{Arc}
use Rattle.fixed_math.specs.declared.Fixed.{Fixed}
use Rattle.refusal_codes.specs.declared.limits.TheConstants.{COMPONENTS, POINTS}
use Rattle.font_ir.specs.Places.{AreGlyphPlaces}
use Rattle.font_ir.specs.declared.glyph.DrawnPoint.{DrawnPoint}
use Rattle.font_ir.specs.declared.glyph.Contour.{Contour}
use Rattle.font_ir.specs.declared.glyph.FlatGlyph.{FlatGlyph}

-- a number of font units is at most 16383 in size
abbrev pub IsSmall : ℤ → Type 0
IsSmall z = (neg_ℤ (pos 16383) ≤ℤ z) × (z ≤ℤ pos 16383)

-- the same of a number in 16.16: its raw number is at most 16383 times 65536 in size
abbrev pub IsSmallFixed : Fixed → Type 0
IsSmallFixed f = (neg_ℤ (pos 1073676288) ≤ℤ f.0) × (f.0 ≤ℤ pos 1073676288)

abbrev pub IsSmallPoint : DrawnPoint → Type 0
IsSmallPoint point = IsSmallFixed point.x × IsSmallFixed point.y

-- which points of each contour are on the curve. Outlines of one shape can be interpolated.
abbrev pub shape_of : List Contour → List (List Bool)
shape_of contours = map (λ contour. map (λ point. point.on) contour.points) contours

-- how many points the contours have
abbrev pub point_count : List Contour → ℕ
point_count contours = sum_by (λ contour. length contour.points) contours

-- each anchor has a position at each of so many masters
abbrev pub HasAnchorsAt : ℕ → FlatGlyph → Type 0
HasAnchorsAt masters glyph = All (λ anchor. length anchor.1 ≡ masters) glyph.anchors

pub record IsFlatGlyph (glyph : FlatGlyph) : Type 0 where
  pub places : AreGlyphPlaces glyph.places
  pub widths : length glyph.widths ≡ length glyph.places
  pub drawn : length glyph.drawn ≡ length glyph.places
  pub offsets : All (λ kept. length kept.at ≡ length glyph.places) glyph.kept
  pub one_shape : AllPairs (λ a b. shape_of a ≡ shape_of b) glyph.drawn
  pub few_points : All (λ contours. point_count contours ≤ POINTS) glyph.drawn
  pub no_empty_contour : All (λ contours. All (λ contour. 0 < length contour.points) contours)
      glyph.drawn
  pub few_kept : length glyph.kept ≤ COMPONENTS
  pub small_points : All (λ contours. All (λ contour. All IsSmallPoint contour.points) contours)
      glyph.drawn
  pub small_offsets : All (λ kept. All (λ offset. IsSmall offset.0 × IsSmall offset.1) kept.at)
      glyph.kept
  pub small_anchors : All (λ anchor. All (λ position. IsSmall position.0 × IsSmall position.1)
      anchor.1) glyph.anchors
  pub width_range : All (λ width. (pos 0 ≤ℤ width) × (width ≤ℤ pos 32767)) glyph.widths
  -- the masters are the first places
  pub anchors : (masters : ℕ) × (masters ≤ length glyph.places) × HasAnchorsAt masters glyph

-- glyphs that are shared, as the glyphs themselves
abbrev pub glyphs_of : List (Arc FlatGlyph Global) → List FlatGlyph
glyphs_of glyphs = map arc_value glyphs
