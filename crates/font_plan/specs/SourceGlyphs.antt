-- The glyphs of a source by their names, and what it means that a glyph of its font draws what the
-- source says: the contours of its own layers and, through its components, those of other glyphs of
-- the source. fontc's own.
use Rattle.std.specs.Prelude.{◌≡◌, ℕ, List, [], slice_get, Option, Some, None, Result, Ok, Err}
use Rattle.std.specs.List.{All}
use Rattle.refusal_codes.specs.declared.refusal.Refusal.{Refusal}
use Rattle.plist_reader.specs.declared.tree.Tree.{Tree}
use Rattle.font_ir.specs.declared.header.Header.{Header}
use Rattle.font_ir.specs.declared.glyph.GlyphIr.{GlyphIr}
use Rattle.font_ir.specs.declared.glyph.FlatGlyph.{FlatGlyph}
use Rattle.glyphs_layers.specs.GlyphReading.{glyph_of}
use Rattle.component_flatten.specs.SourceDrawing.{DrawsAs}
use Rattle.character_codes.specs.CharacterCodes.{Entry}
use Rattle.font_plan.specs.Accepted.{IsFontOf}
use Rattle.font_plan.specs.Bases.{named_from}

-- a glyph without layers: what stands for one that isn't there
abbrev pub no_glyph : GlyphIr
no_glyph = record { number = 0; place = 0; masters = 0; places = []; layers = [] }

-- a glyph as it is read
abbrev pub glyph_as_read : Result GlyphIr Refusal → GlyphIr
glyph_as_read (Ok glyph) = glyph
glyph_as_read (Err refusal) = no_glyph

abbrev pub glyph_found : Tree → Header → List Entry → Option (ℕ × Entry) → GlyphIr
glyph_found tree header index None = no_glyph
glyph_found tree header index (Some found) = glyph_as_read (glyph_of tree header index found.0)

-- the glyph of a source that has this name
abbrev pub source_glyph : Tree → Header → List Entry → List ℕ → GlyphIr
source_glyph tree header index name = glyph_found tree header index (named_from 0 name index)

-- a glyph of the font draws what the source says of the glyph of its name, which was read
pub record DrawsItsSource (tree : Tree) (header : Header) (index : List Entry)
    (flat : FlatGlyph) : Type 0 where
  pub entry : Entry
  pub is_numbered : slice_get index flat.number ≡ Some entry
  pub is_read : glyph_of tree header index flat.number ≡ Ok (source_glyph tree header index entry.0)
  pub draws : DrawsAs (source_glyph tree header index)
      (source_glyph tree header index entry.0) flat

-- ---- what holds whatever the source

-- and so do all glyphs of a font
abbrev pub GlyphsDrawAsTheirSource : Type 0
GlyphsDrawAsTheirSource =
    (source font : List ℕ) → (f : IsFontOf source font)
    → All (DrawsItsSource f.tree f.header f.index) f.glyphs
