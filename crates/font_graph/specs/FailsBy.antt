-- When a part of a source fails, in the words of the parts: all that it is made of was made, and
-- the part itself is refused. fontc's own.
use Rattle.std.specs.Prelude.{◌≡◌, ◌⊎◌, ℕ, Bool, true, false, List, [], Result, Ok, Err}
use Rattle.refusal_codes.specs.declared.refusal.Refusal.{Refusal}
use Rattle.font_ir.specs.declared.tag.Tag.{Tag}
use Rattle.job_graph.specs.Members.{In}
use Rattle.font_graph.specs.Parts.{Parts, Extra}
use Rattle.font_graph.specs.Fonts.{AllDrawn, DrawnSo, AreInOrder, IsOfGlyphs, AreTablesOf}
use Rattle.font_graph.specs.Descent.{Leads, LeadsToCycle}
use Rattle.font_graph.specs.declared.ids.JobId.{JobId}
use Rattle.font_graph.specs.declared.ids.JobId.TheVariants as job

module _ (p : Parts) where
  -- ---- what was made

  -- the text, the header and the index of glyphs were read
  pub record IsRead (tree : p.Tree) (header : p.Header) (index : p.Index) : Type 0 where
    pub tree_read : p.tree ≡ Ok tree
    pub header_read : p.header tree ≡ Ok header
    pub index_read : p.index tree ≡ Ok index

  -- and a glyph of the font was drawn
  pub record IsDrawn (header : p.Header) (index : p.Index) (glyph : ℕ) (flat : p.Flat)
      : Type 0 where
    pub tree : p.Tree
    pub read : IsRead tree header index
    pub there : In glyph (p.numbers index)
    pub drawn_so : DrawnSo p tree header index glyph flat

  -- the glyphs whose layers are read: those of the font, their bases, and theirs and so on
  module _ (tree : p.Tree) (header : p.Header) (index : p.Index) where
    pub data IsReached : ℕ → Type 0 where
      of_font : (glyph : ℕ) → In glyph (p.numbers index) → IsReached glyph
      of_base :
          (glyph base : ℕ) (raw : p.Raw)
          → IsReached glyph
          → p.raw tree header index glyph ≡ Ok raw
          → In base (p.bases raw index)
          → IsReached base

    -- whether a glyph's layers are read, and its bases where they are
    abbrev pub is_made : Result p.Raw Refusal → Bool
    is_made (Ok raw) = true
    is_made (Err refusal) = false

    abbrev pub bases_in : Result p.Raw Refusal → List ℕ
    bases_in (Ok raw) = p.bases raw index
    bases_in (Err refusal) = []

    abbrev pub reads_of : ℕ → Bool
    reads_of glyph = is_made (p.raw tree header index glyph)

    abbrev pub bases_of : ℕ → List ℕ
    bases_of glyph = bases_in (p.raw tree header index glyph)

  -- ---- what is refused

  -- the header of a text that was read
  pub record HeaderFails (r : Refusal) : Type 0 where
    pub tree : p.Tree
    pub tree_read : p.tree ≡ Ok tree
    pub refused : p.header tree ≡ Err r

  -- its index of glyphs
  pub record IndexFails (r : Refusal) : Type 0 where
    pub tree : p.Tree
    pub tree_read : p.tree ≡ Ok tree
    pub refused : p.index tree ≡ Err r

  -- the layers of a glyph that the font needs
  pub record GlyphFails (glyph : ℕ) (r : Refusal) : Type 0 where
    pub tree : p.Tree
    pub header : p.Header
    pub index : p.Index
    pub read : IsRead tree header index
    pub there : IsReached tree header index glyph
    pub refused : p.raw tree header index glyph ≡ Err r

  -- the outline of such a glyph, whose layers were read and whose bases were drawn
  pub record OutlineFails (glyph : ℕ) (r : Refusal) : Type 0 where
    pub tree : p.Tree
    pub header : p.Header
    pub index : p.Index
    pub raw : p.Raw
    pub of_bases : List p.Flat
    pub read : IsRead tree header index
    pub there : IsReached tree header index glyph
    pub layers_read : p.raw tree header index glyph ≡ Ok raw
    pub bases_drawn : AllDrawn p tree header index (p.bases raw index) of_bases
    pub refused : p.flat raw index of_bases ≡ Err r

  -- such a glyph that leads to a cycle of bases, while the layers of all that it leads to were read
  pub record EndlessFails (glyph : ℕ) (r : Refusal) : Type 0 where
    pub tree : p.Tree
    pub header : p.Header
    pub index : p.Index
    pub raw : p.Raw
    pub read : IsRead tree header index
    pub there : IsReached tree header index glyph
    pub layers_read : p.raw tree header index glyph ≡ Ok raw
    pub all_read : (other : ℕ)
        → Leads (bases_of tree header index) (reads_of tree header index) glyph other
        → reads_of tree header index other ≡ true
    pub cycle : LeadsToCycle (bases_of tree header index) (reads_of tree header index) glyph
    pub refused : p.endless raw index ≡ r

  abbrev pub FlatFails : ℕ → Refusal → Type 0
  FlatFails glyph r = OutlineFails glyph r ⊎ EndlessFails glyph r

  -- the data of a glyph that was drawn
  pub record DataFails (glyph : ℕ) (r : Refusal) : Type 0 where
    pub header : p.Header
    pub index : p.Index
    pub flat : p.Flat
    pub is_drawn : IsDrawn header index glyph flat
    pub is_simple : p.is_composite flat ≡ false
    pub refused : p.simple header flat ≡ Err r

  -- the data of a composite, where the glyphs were ordered
  pub record CompositeFails (glyph : ℕ) (r : Refusal) : Type 0 where
    pub header : p.Header
    pub index : p.Index
    pub flats : List p.Flat
    pub order : p.Order
    pub flat : p.Flat
    pub in_order : AreInOrder p header index flats order
    pub there : In glyph (p.numbers index)
    pub drawn_so : DrawnSo p in_order.tree header index glyph flat
    pub is_composite : p.is_composite flat ≡ true
    pub refused : p.composite header order flat ≡ Err r

  -- the variations of one, in a font with axes
  pub record VariationsFail (glyph : ℕ) (r : Refusal) : Type 0 where
    pub header : p.Header
    pub index : p.Index
    pub flat : p.Flat
    pub is_drawn : IsDrawn header index glyph flat
    pub varies : p.is_variable header ≡ true
    pub refused : p.variations header index flat ≡ Err r

  -- the order of glyphs that were drawn
  pub record OrderFails (r : Refusal) : Type 0 where
    pub tree : p.Tree
    pub header : p.Header
    pub index : p.Index
    pub flats : List p.Flat
    pub read : IsRead tree header index
    pub glyphs_drawn : AllDrawn p tree header index (p.numbers index) flats
    pub refused : p.order header index flats ≡ Err r

  -- what is measured of glyphs that were ordered
  pub record AdvancesFail (r : Refusal) : Type 0 where
    pub header : p.Header
    pub index : p.Index
    pub flats : List p.Flat
    pub order : p.Order
    pub in_order : AreInOrder p header index flats order
    pub refused : p.measures header order flats ≡ Err r

  -- a table, where all that it needs of them was made
  pub record TableFails (tag : Tag) (r : Refusal) : Type 0 where
    pub header : p.Header
    pub order : p.Order
    pub more : Extra p.Index p.Measures p.Data
    pub there : In tag p.tags
    pub of_glyphs : IsOfGlyphs p header order (p.needs tag) more
    pub refused : p.table tag header order more ≡ Err r

  -- the file of tables that were all made
  pub record FontFails (r : Refusal) : Type 0 where
    pub header : p.Header
    pub index : p.Index
    pub flats : List p.Flat
    pub order : p.Order
    pub in_order : AreInOrder p header index flats order
    pub tables : List p.Table
    pub tables_made : AreTablesOf p p.tags tables
    pub refused : p.font tables ≡ Err r

  -- a part fails by this refusal
  abbrev pub FailsBy : JobId → Refusal → Type 0
  FailsBy job.Tree r = p.tree ≡ Err r
  FailsBy job.Header r = HeaderFails r
  FailsBy job.Index r = IndexFails r
  FailsBy (job.Raw glyph) r = GlyphFails glyph r
  FailsBy (job.Flat glyph) r = FlatFails glyph r
  FailsBy (job.Simple glyph) r = DataFails glyph r
  FailsBy (job.Composite glyph) r = CompositeFails glyph r
  FailsBy (job.Variations glyph) r = VariationsFail glyph r
  FailsBy job.Order r = OrderFails r
  FailsBy job.Advances r = AdvancesFail r
  FailsBy (job.Table tag) r = TableFails tag r
  FailsBy job.Font r = FontFails r
  FailsBy _ r = ⊥
