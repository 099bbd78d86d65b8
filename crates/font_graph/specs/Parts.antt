-- What the jobs of a source make, each as a function of what it reads.
use Rattle.std.specs.Prelude.{◌≡◌, ◌↔◌, ℕ, Bool, true, List, Result, Ok, Err}
use Rattle.std.specs.declared.cmp.Ordering.TheVariants.{Less}
use Rattle.font_ir.specs.declared.tag.Tag.{Tag}
use Rattle.refusal_codes.specs.declared.refusal.Refusal.{Refusal}
use Rattle.refusal_codes.specs.Order.{refusal_cmp}
use Rattle.job_graph.specs.Members.{In}

-- what a table is made of, beside the header and the order
pub data Needs : Type 0 where
  Nothing : Needs
  TheIndex : Needs
  TheMeasures : Needs
  TheMeasuresAndIndex : Needs
  TheOutlines : Needs
  TheVariations : Needs

-- and that itself: the glyphs' data are those of "glyf", or those of "gvar"
pub data Extra (Index Measures Data : Type 0) : Type 0 where
  nothing : Extra Index Measures Data
  with_index : Index → Extra Index Measures Data
  with_measures : Measures → Extra Index Measures Data
  with_both : Measures → Index → Extra Index Measures Data
  with_data : List Data → Extra Index Measures Data

pub record Parts : Type 1 where
  pub Tree : Type 0
  pub Header : Type 0
  pub Index : Type 0
  pub Raw : Type 0
  pub Flat : Type 0
  -- a glyph's data in the table "glyf", or in "gvar"
  pub Data : Type 0
  pub Order : Type 0
  pub Measures : Type 0
  pub Table : Type 0
  pub File : Type 0
  pub tree : Result Tree Refusal
  pub header : Tree → Result Header Refusal
  pub index : Tree → Result Index Refusal
  -- the numbers of all glyphs, and of the exported ones
  pub all : Index → List ℕ
  pub numbers : Index → List ℕ
  pub numbers_there : (index : Index) (glyph : ℕ) → In glyph (numbers index) → In glyph (all index)
  pub is_exported : Index → ℕ → Bool
  pub exported_are : (index : Index) (glyph : ℕ)
      → (is_exported index glyph ≡ true) ↔ In glyph (numbers index)
  pub raw : Tree → Header → Index → ℕ → Result Raw Refusal
  -- the numbers of a glyph's bases, one for each of its components
  pub bases : Raw → Index → List ℕ
  pub bases_there : (raw : Raw) (index : Index) (base : ℕ) → In base (bases raw index)
      → In base (all index)
  -- a glyph's contours, by those of its bases
  pub flat : Raw → Index → List Flat → Result Flat Refusal
  -- the refusal of a glyph whose bases lead to a cycle. Each refusal to read a glyph is less.
  pub endless : Raw → Index → Refusal
  pub endless_last : (tree : Tree) (header : Header) (index : Index) (glyph : ℕ) (r : Refusal)
      (other : Raw) → raw tree header index glyph ≡ Err r
      → refusal_cmp r (endless other index) ≡ Less
  -- whether a glyph is written as a composite of its bases, and its data of either kind
  pub is_composite : Flat → Bool
  pub simple : Header → Flat → Result Data Refusal
  pub composite : Header → Order → Flat → Result Data Refusal
  -- whether the glyphs of a font vary: it has axes
  pub is_variable : Header → Bool
  pub variations : Header → Index → Flat → Result Data Refusal
  pub order : Header → Index → List Flat → Result Order Refusal
  -- the numbers of the glyphs that an order holds: those of its index
  pub ordered : Order → List ℕ
  pub ordered_is : (header : Header) (index : Index) (flats : List Flat) (made : Order)
      → order header index flats ≡ Ok made → ordered made ≡ numbers index
  pub measures : Header → Order → List Flat → Result Measures Refusal
  -- the tags of the tables, and what each is made of
  pub tags : List Tag
  pub needs : Tag → Needs
  pub table : Tag → Header → Order → Extra Index Measures Data → Result Table Refusal
  pub font : List Table → Result File Refusal
