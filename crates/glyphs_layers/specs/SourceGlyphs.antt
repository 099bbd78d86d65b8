-- What each glyph that is read fulfils, whatever the source (Glyphs file format, version 3; the
-- rules are fontc's own). The source's layers define it; its layers begin with those of the
-- masters, each at its master's location; and each of its components draws a glyph of the source.
use Rattle.std.specs.Prelude.{◌≡◌, ℕ, true, List, [], ◌++◌, length, map, pos, Ok}
use Rattle.std.specs.Option.{option_map_or}
use Rattle.std.specs.List.{All}
use Rattle.plist_reader.specs.declared.tree.Tree.{Tree}
use Rattle.fixed_math.specs.declared.F2Dot14.{F2Dot14}
use Rattle.font_ir.specs.declared.header.Header.{Header}
use Rattle.font_ir.specs.declared.header.Master.{Master}
use Rattle.font_ir.specs.declared.glyph.LayerIr.{LayerIr}
use Rattle.font_ir.specs.declared.glyph.GlyphIr.{GlyphIr}
use Rattle.font_ir.specs.ReadGlyphs.{IsReadGlyph}
use Rattle.glyphs_source.specs.declared.entries.IndexEntry.{IndexEntry}
use Rattle.glyphs_source.specs.HeaderReading.{header_of}
use Rattle.layer_shapes.specs.declared.kind.LayerKind.TheVariants as a
use Rattle.layer_shapes.specs.LayerReading.{layer_record}
use Rattle.layer_shapes.specs.ReadLayers.{bases_of}
use Rattle.glyphs_layers.specs.SourceLayers.{layer_numbers, layer_of}
use Rattle.glyphs_layers.specs.GlyphPlaces.{places_of}
use Rattle.glyphs_layers.specs.Bases.{is_glyph}
use Rattle.glyphs_layers.specs.GlyphReading.{glyph_in, glyph_of}

-- the glyph that a source has under this number of its index
abbrev pub IsGlyphOf : Tree → Header → List (List ℕ × IndexEntry) → ℕ → GlyphIr → Type 0
IsGlyphOf t header index number glyph = glyph_of t header index number ≡ Ok glyph

-- its layers begin with one for each master of the header, in their order: where the others lie
-- comes behind the masters' locations
pub record HasMastersFirst (header : Header) (glyph : GlyphIr) : Type 0 where
  pub count : glyph.masters ≡ length header.masters
  pub others : List (List F2Dot14)
  pub places : glyph.places ≡ map (λ master. master.location) header.masters ++ others

-- what the first of these layers holds that names a master
abbrev pub masters_record : Tree → List ℕ → Master → LayerIr
masters_record t numbers master = option_map_or (layer_record a.Master t)
    (layer_of t numbers master) (record { width = pos 0; shapes = []; anchors = [] })

-- and what the layers hold begins with what those of the masters hold
pub record HasMastersLayers (t : Tree) (header : Header) (node : ℕ) (glyph : GlyphIr) : Type 0 where
  pub others : List LayerIr
  pub layers : glyph.layers
      ≡ map (masters_record t (layer_numbers t node)) header.masters ++ others

-- the base of each of its components is in the index
abbrev pub HasKnownBases : List (List ℕ × IndexEntry) → GlyphIr → Type 0
HasKnownBases index glyph =
    All (λ layer. All (λ base. is_glyph index base ≡ true) (bases_of layer.shapes)) glyph.layers

-- all of it, and what flattening asks of a glyph
pub record IsWholeGlyph (t : Tree) (header : Header) (index : List (List ℕ × IndexEntry))
    (number : ℕ) (glyph : GlyphIr) : Type 0 where
  pub number_is : glyph.number ≡ number
  pub places : glyph.places ≡ places_of t header (glyph_in index number)
  pub read : IsReadGlyph glyph
  pub masters : HasMastersFirst header glyph
  pub layers : HasMastersLayers t header (glyph_in index number) glyph
  pub bases : HasKnownBases index glyph

-- ---- what holds whatever the source

abbrev pub ReadGlyphsAreWhole : Type 0
ReadGlyphsAreWhole =
    (t : Tree) (header : Header) (index : List (List ℕ × IndexEntry)) (number : ℕ)
    (glyph : GlyphIr) → header_of t ≡ Ok header → IsGlyphOf t header index number glyph
    → IsWholeGlyph t header index number glyph
