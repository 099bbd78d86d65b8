-- What each glyph of the font fulfils once it is drawn: its places begin with the masters'
-- locations. And what holds of all headers and glyphs of sources, by which it does.
use Rattle.std.specs.Prelude.{◌≡◌, ℕ, List, Ok}
use Rattle.std.specs.List.{All}
use Rattle.plist_reader.specs.declared.tree.Tree.{Tree}
use Rattle.font_ir.specs.FlatGlyphs.{IsFlatGlyph}
use Rattle.font_ir.specs.Headers.{IsHeader}
use Rattle.font_ir.specs.ReadGlyphs.{IsReadGlyph}
use Rattle.font_ir.specs.declared.header.Header.{Header}
use Rattle.font_ir.specs.declared.glyph.GlyphIr.{GlyphIr}
use Rattle.font_ir.specs.declared.glyph.FlatGlyph.{FlatGlyph}
use Rattle.glyphs_source.specs.HeaderReading.{header_of}
use Rattle.glyphs_layers.specs.SourceGlyphs.{ReadGlyphsAreWhole}
use Rattle.component_flatten.specs.Flattening.{IsBase, flat_of}
use Rattle.metrics_tables.specs.Changes.{BeginsWithMasters}
use Rattle.character_codes.specs.CharacterCodes.{Entry}

pub record IsDrawn (header : Header) (glyph : FlatGlyph) : Type 0 where
  pub flat : IsFlatGlyph glyph
  pub places : BeginsWithMasters header glyph

pub record DrawingLaws : Type 0 where
  pub headers : (tree : Tree) (header : Header) → header_of tree ≡ Ok header → IsHeader header
  pub glyphs : ReadGlyphsAreWhole
  pub drawn : (index : List Entry) (name : List ℕ) (glyph : GlyphIr) (bases : List FlatGlyph)
      (flat : FlatGlyph) → IsReadGlyph glyph → All (IsBase glyph.places) bases
      → flat_of index name glyph bases ≡ Ok flat → IsFlatGlyph flat
