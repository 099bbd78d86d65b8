-- What it means that a source's graph has a font: each part answers, and the font is made of the
-- tables that are made of the glyphs. fontc's own.
use Rattle.std.specs.Prelude.{◌≡◌, ℕ, List, [], ◌∷◌, Result, Ok, if◌then◌else◌}
use Rattle.refusal_codes.specs.declared.refusal.Refusal.{Refusal}
use Rattle.font_ir.specs.declared.tag.Tag.{Tag}
use Rattle.font_graph.specs.Parts.{Parts, Needs, Nothing, TheIndex, TheMeasures}
use Rattle.font_graph.specs.Parts.{TheMeasuresAndIndex, TheOutlines, TheVariations, Extra}
use Rattle.font_graph.specs.Parts.{nothing, with_index, with_measures, with_both, with_data}

-- a part answers each of these, in their order
abbrev pub AllMade : {A B : Type 0} → (A → Result B Refusal) → List A → List B → Type 0
AllMade make [] [] = Unit {0}
AllMade make (a ∷ others) (b ∷ bs) = (make a ≡ Ok b) × AllMade make others bs
AllMade make [] (b ∷ bs) = ⊥
AllMade make (a ∷ others) [] = ⊥

module _ (p : Parts) where
  -- these glyphs are drawn so: each is read, its bases are drawn, and its contours are made of
  -- theirs
  module _ (tree : p.Tree) (header : p.Header) (index : p.Index) where
    pub data AllDrawn : List ℕ → List p.Flat → Type 0 where
      no_more : AllDrawn [] []
      one_more :
          (glyph : ℕ) (raw : p.Raw) (of_bases : List p.Flat) (flat : p.Flat) (glyphs : List ℕ)
          (flats : List p.Flat)
          → p.raw tree header index glyph ≡ Ok raw
          → AllDrawn (p.bases raw index) of_bases
          → p.flat raw index of_bases ≡ Ok flat
          → AllDrawn glyphs flats
          → AllDrawn (glyph ∷ glyphs) (flat ∷ flats)

    -- and so one glyph
    pub record DrawnSo (glyph : ℕ) (flat : p.Flat) : Type 0 where
      pub raw : p.Raw
      pub of_bases : List p.Flat
      pub raw_made : p.raw tree header index glyph ≡ Ok raw
      pub bases_drawn : AllDrawn (p.bases raw index) of_bases
      pub flat_made : p.flat raw index of_bases ≡ Ok flat

  -- a glyph's data in the table "glyf"
  abbrev pub part : p.Header → p.Order → p.Flat → Result p.Data Refusal
  part header order flat =
      if p.is_composite flat then p.composite header order flat else p.simple header flat

  -- the glyphs that vary: all, in a font with axes
  abbrev pub varying : p.Header → List p.Flat → List p.Flat
  varying header flats = if p.is_variable header then flats else []

  -- what a table of these needs is made of
  abbrev pub extra : p.Index → p.Measures → List p.Data → List p.Data → Needs
      → Extra p.Index p.Measures p.Data
  extra index measures parts variations Nothing = nothing
  extra index measures parts variations TheIndex = with_index index
  extra index measures parts variations TheMeasures = with_measures measures
  extra index measures parts variations TheMeasuresAndIndex = with_both measures index
  extra index measures parts variations TheOutlines = with_data parts
  extra index measures parts variations TheVariations = with_data variations

  abbrev pub table : p.Header → p.Index → p.Order → p.Measures → List p.Data → List p.Data → Tag
      → Result p.Table Refusal
  table header index order measures parts variations tag =
      p.table tag header order (extra index measures parts variations (p.needs tag))

  pub record IsFontOf (font : p.File) : Type 0 where
    pub tree : p.Tree
    pub header : p.Header
    pub index : p.Index
    pub flats : List p.Flat
    pub parts : List p.Data
    pub variations : List p.Data
    pub order : p.Order
    pub measures : p.Measures
    pub tables : List p.Table
    pub tree_read : p.tree ≡ Ok tree
    pub header_read : p.header tree ≡ Ok header
    pub index_read : p.index tree ≡ Ok index
    pub glyphs_drawn : AllDrawn tree header index (p.numbers index) flats
    pub glyphs_written : AllMade (part header order) flats parts
    pub glyphs_varied : AllMade (p.variations header index) (varying header flats) variations
    pub glyphs_ordered : p.order header index flats ≡ Ok order
    pub glyphs_measured : p.measures header order flats ≡ Ok measures
    pub tables_made : AllMade (table header index order measures parts variations) p.tags tables
    pub is_font : p.font tables ≡ Ok font

  -- ---- what a table is made of, where it is made alone

  -- the glyphs of a source were drawn and ordered so
  pub record AreInOrder (header : p.Header) (index : p.Index) (flats : List p.Flat)
      (order : p.Order) : Type 0 where
    pub tree : p.Tree
    pub tree_read : p.tree ≡ Ok tree
    pub header_read : p.header tree ≡ Ok header
    pub index_read : p.index tree ≡ Ok index
    pub glyphs_drawn : AllDrawn tree header index (p.numbers index) flats
    pub glyphs_ordered : p.order header index flats ≡ Ok order

  -- and a table of these needs is made of this
  abbrev pub IsExtraOf : p.Header → p.Index → List p.Flat → p.Order → Needs
      → Extra p.Index p.Measures p.Data → Type 0
  IsExtraOf header index flats order Nothing nothing = Unit {0}
  IsExtraOf header index flats order TheIndex (with_index known) = known ≡ index
  IsExtraOf header index flats order TheMeasures (with_measures measures) =
      p.measures header order flats ≡ Ok measures
  IsExtraOf header index flats order TheMeasuresAndIndex (with_both measures known) =
      (p.measures header order flats ≡ Ok measures) × (known ≡ index)
  IsExtraOf header index flats order TheOutlines (with_data parts) =
      AllMade (part header order) flats parts
  IsExtraOf header index flats order TheVariations (with_data variations) =
      AllMade (p.variations header index) (varying header flats) variations
  IsExtraOf header index flats order _ _ = ⊥

  -- a table is made of these glyphs
  pub record IsOfGlyphs (header : p.Header) (order : p.Order) (needs : Needs)
      (more : Extra p.Index p.Measures p.Data) : Type 0 where
    pub index : p.Index
    pub flats : List p.Flat
    pub in_order : AreInOrder header index flats order
    pub is_extra : IsExtraOf header index flats order needs more

  -- a table was made so
  pub record IsTableOf (tag : Tag) (made : p.Table) : Type 0 where
    pub header : p.Header
    pub order : p.Order
    pub more : Extra p.Index p.Measures p.Data
    pub of_glyphs : IsOfGlyphs header order (p.needs tag) more
    pub table_made : p.table tag header order more ≡ Ok made

  -- and so were all tables
  abbrev pub AreTablesOf : List Tag → List p.Table → Type 0
  AreTablesOf [] [] = Unit {0}
  AreTablesOf (tag ∷ tags) (made ∷ tables) = IsTableOf tag made × AreTablesOf tags tables
  AreTablesOf [] (made ∷ tables) = ⊥
  AreTablesOf (tag ∷ tags) [] = ⊥
