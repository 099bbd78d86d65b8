-- A glyph with its contours drawn at each of its places, the components that stay, and its anchors
-- (Glyphs file format, version 3; the limits are fontc's own). `bases` are the flat glyphs of its
-- components, in the order in which a layer has these, and `index` has the source's glyphs.
use Rattle.std.specs.Prelude.{◌≡◌, ℕ, Bool, not, ◌&&◌, nat_lt, nat_le, List, [], ◌∷◌, ◌++◌, map}
use Rattle.std.specs.Prelude.{None, Result, unsigned_abs, if◌then◌else◌, length}
use Rattle.std.specs.List.{list_any, list_all}
use Rattle.fixed_math.specs.declared.Fixed.{Fixed}
use Rattle.fixed_math.specs.declared.F2Dot14.{F2Dot14}
use Rattle.font_ir.specs.declared.glyph.DrawnPoint.{DrawnPoint}
use Rattle.font_ir.specs.declared.glyph.Contour.{Contour}
use Rattle.font_ir.specs.declared.glyph.GlyphIr.{GlyphIr}
use Rattle.font_ir.specs.declared.glyph.FlatGlyph.{FlatGlyph}
use Rattle.font_ir.specs.Places.{axis_count}
use Rattle.font_ir.specs.FlatGlyphs.{point_count, IsFlatGlyph}
use Rattle.glyphs_source.specs.declared.entries.IndexEntry.{IndexEntry}
use Rattle.refusal_codes.specs.declared.refusal.Refusal.{Refusal}
use Rattle.refusal_codes.specs.declared.rule.Rule.{Rule}
use Rattle.refusal_codes.specs.declared.rule.Rule.TheVariants.{CoordinateTooLarge, TooManyPoints}
use Rattle.refusal_codes.specs.declared.rule.Rule.TheVariants.{DeltaTooLarge}
use Rattle.refusal_codes.specs.declared.first.Failure.{Failure}
use Rattle.refusal_codes.specs.First.{foremost, refusal_of, judged}
use Rattle.refusal_codes.specs.declared.job.TheConstants.{FLAT}
use Rattle.refusal_codes.specs.declared.limits.TheConstants.{POINTS}
use Rattle.component_flatten.specs.Places.{has_large_deltas}
use Rattle.component_flatten.specs.Drawing.{glyph_drawn, component_names}
use Rattle.component_flatten.specs.Composites.{kept_of}
use Rattle.component_flatten.specs.Anchors.{anchors_of}

-- ---- what is made

-- the glyph that draws these contours
abbrev pub made_of : List (List ℕ × IndexEntry) → GlyphIr → List (List Contour) → FlatGlyph
made_of index glyph drawn = record {
  number = glyph.number;
  place = glyph.place;
  places = glyph.places;
  widths = map (λ layer. layer.width) glyph.layers;
  drawn = drawn;
  kept = kept_of index glyph;
  anchors = anchors_of glyph;
}

unfoldable pub flat_record : List (List ℕ × IndexEntry) → GlyphIr → List FlatGlyph → FlatGlyph
flat_record index glyph bases = made_of index glyph (glyph_drawn glyph bases)

-- ---- rules: at most 8,000 drawn points at each place; then no delta outside an i16, of a base
-- that lacks one of the glyph's places; and then no coordinate beyond 16383 in size, which is
-- 1073676288 in 16.16

abbrev pub has_many_points : List Contour → Bool
has_many_points contours = nat_lt POINTS (point_count contours)

abbrev pub is_small : Fixed → Bool
is_small f = nat_le (unsigned_abs f.0) 1073676288

abbrev pub is_small_point : DrawnPoint → Bool
is_small_point point = is_small point.x && is_small point.y

abbrev pub has_small_points : Contour → Bool
has_small_points contour = list_all is_small_point contour.points

abbrev pub are_small : List Contour → Bool
are_small contours = list_all has_small_points contours

abbrev pub fails_flat : Bool → Rule → FlatGlyph → List Failure
fails_flat test rule flat = if test then record { rule = rule; place = flat.place } ∷ [] else []

-- the rules that a drawn glyph with these bases fails, in their order
abbrev pub limit_failures : List FlatGlyph → FlatGlyph → List Failure
limit_failures bases flat =
    fails_flat (list_any has_many_points flat.drawn) TooManyPoints flat
    ++ fails_flat (list_any (has_large_deltas flat.places) bases) DeltaTooLarge flat
    ++ fails_flat (not (list_all are_small flat.drawn)) CoordinateTooLarge flat

-- what the job of a flat glyph answers, for the glyph with this name, which the job has too
unfoldable pub flat_of : List (List ℕ × IndexEntry) → List ℕ → GlyphIr → List FlatGlyph
    → Result FlatGlyph Refusal
flat_of index name glyph bases =
    judged (refusal_of FLAT name) None
    (foremost (limit_failures bases (flat_record index glyph bases)))
    (flat_record index glyph bases)

-- ---- conditions

-- a base is a flat glyph with as many axes as these places
pub record IsBase (places : List (List F2Dot14)) (base : FlatGlyph) : Type 0 where
  pub flat : IsFlatGlyph base
  pub axes : axis_count base.places ≡ axis_count places

-- there is a base for each component
abbrev pub HasBases : GlyphIr → List FlatGlyph → Type 0
HasBases glyph bases = length bases ≡ length (component_names glyph)
