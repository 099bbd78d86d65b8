-- What a glyph of a source draws (Glyphs file format, version 3, "Components"), said of the source
-- alone: at each of its locations the contours of its shapes in their order, each component replaced
-- by what its base draws there, transformed; and so on from base to base. `source` has the glyph of
-- each name. It is told for glyphs from which no components lead back to one that they come from.
use Rattle.std.specs.Prelude.{◌≡◌, ℕ, zero, suc, List, [], ◌∷◌, map, Ok}
use Rattle.std.specs.List.{AllByRecursion}
use Rattle.font_ir.specs.declared.glyph.Contour.{Contour}
use Rattle.font_ir.specs.declared.glyph.GlyphIr.{GlyphIr}
use Rattle.font_ir.specs.declared.glyph.FlatGlyph.{FlatGlyph}
use Rattle.glyphs_source.specs.declared.entries.IndexEntry.{IndexEntry}
use Rattle.component_flatten.specs.Drawing.{glyph_drawn, component_names}
use Rattle.component_flatten.specs.Flattening.{flat_of}

-- components lead from a glyph to others, at most so many in a row
abbrev pub NestsWithin : (List ℕ → GlyphIr) → ℕ → GlyphIr → Type 0
NestsWithin source zero glyph = component_names glyph ≡ []
NestsWithin source (suc depth) glyph =
    AllByRecursion (λ name. NestsWithin source depth (source name)) (component_names glyph)

-- as much of a glyph as drawing asks of a base: its locations, and its contours at each of them
abbrev pub outline_of : GlyphIr → List (List Contour) → FlatGlyph
outline_of glyph drawn = record {
  number = glyph.number;
  place = glyph.place;
  places = glyph.places;
  widths = [];
  drawn = drawn;
  kept = [];
  anchors = [];
}

-- what a glyph draws at each of its locations, where components are followed so many in a row
abbrev pub drawn_within : (List ℕ → GlyphIr) → ℕ → GlyphIr → List (List Contour)
drawn_within source zero glyph = glyph_drawn glyph []
drawn_within source (suc depth) glyph =
    glyph_drawn glyph
    (map (λ name. outline_of (source name) (drawn_within source depth (source name)))
    (component_names glyph))

-- a flat glyph draws what a glyph does in its source
pub record DrawsAs (source : List ℕ → GlyphIr) (glyph : GlyphIr) (flat : FlatGlyph) : Type 0 where
  pub places : flat.places ≡ glyph.places
  pub depth : ℕ
  pub nests : NestsWithin source depth glyph
  pub drawn : flat.drawn ≡ drawn_within source depth glyph

-- flat glyphs draw, one by one, what the glyphs with these names do
abbrev pub DrawAsNamed : (List ℕ → GlyphIr) → List (List ℕ) → List FlatGlyph → Type 0
DrawAsNamed source [] [] = Unit {0}
DrawAsNamed source [] (base ∷ bases) = ⊥
DrawAsNamed source (name ∷ names) [] = ⊥
DrawAsNamed source (name ∷ names) (base ∷ bases) =
    DrawsAs source (source name) base × DrawAsNamed source names bases

-- ---- what holds whatever the source

-- a glyph draws the same, however far beyond its last component they are followed
abbrev pub DepthsDrawAlike : Type 0
DepthsDrawAlike =
    (source : List ℕ → GlyphIr) (glyph : GlyphIr) (m n : ℕ) → NestsWithin source m glyph
    → NestsWithin source n glyph → drawn_within source m glyph ≡ drawn_within source n glyph

-- what the job of a flat glyph answers draws what its glyph does in the source, where its bases do
abbrev pub FlatGlyphsDrawAsTheirSource : Type 0
FlatGlyphsDrawAsTheirSource =
    (source : List ℕ → GlyphIr) (index : List (List ℕ × IndexEntry)) (name : List ℕ)
    (glyph : GlyphIr) (bases : List FlatGlyph) (flat : FlatGlyph)
    → DrawAsNamed source (component_names glyph) bases
    → flat_of index name glyph bases ≡ Ok flat → DrawsAs source glyph flat
