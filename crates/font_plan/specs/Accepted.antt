-- What it means that a source has a font: the grammar of property lists gives it a tree, each of
-- its parts is read and drawn, its tables are made of them, the limits are kept, and the font is the
-- file of the tables. fontc's own.
use Rattle.std.specs.Prelude.{◌≡◌, ◌≢◌, ◌≤◌, ℕ, List, length, Option, Ok}
use Rattle.std.specs.declared.cmp.Ordering.TheVariants.{Less}
use Rattle.refusal_codes.specs.declared.refusal.Refusal.{Refusal}
use Rattle.refusal_codes.specs.Order.{refusal_cmp}
use Rattle.refusal_codes.specs.declared.limits.TheConstants.{SOURCE_BYTES}
use Rattle.plist_reader.specs.declared.tree.Tree.{Tree}
use Rattle.plist_reader.specs.Grammar.{HasTree}
use Rattle.font_ir.specs.declared.header.Header.{Header}
use Rattle.font_ir.specs.declared.glyph.FlatGlyph.{FlatGlyph}
use Rattle.font_ir.specs.Glyphs.{Glyphs}
use Rattle.glyphs_source.specs.HeaderReading.{header_of}
use Rattle.glyphs_source.specs.IndexReading.{index_of}
use Rattle.metrics_tables.specs.declared.measures.Measures.{Measures}
use Rattle.character_codes.specs.CharacterCodes.{Entry}
use Rattle.font_tables.specs.declared.tags.TheConstants.{TABLE_TAGS}
use Rattle.font_graph.specs.Fonts.{AllMade, AllDrawn, part, varying, table}
use Rattle.font_graph.specs.declared.ids.JobId.{JobId}
use Rattle.font_plan.specs.Failing.{FailsBy}
use Rattle.font_plan.specs.FontFile.{filed, present}
use Rattle.font_plan.specs.Jobs.{parts, variations_in, measures_in}
use Rattle.font_plan.specs.Order.{numbers_in, order_or_refused}

pub record IsFontOf (source font : List ℕ) : Type 0 where
  pub tree : Tree
  pub header : Header
  pub index : List Entry
  -- the exported glyphs, and their data in "glyf" and in "gvar"
  pub glyphs : List FlatGlyph
  pub outlines : List (List ℕ)
  pub variations : List (List ℕ)
  pub order : Glyphs
  pub measures : Measures
  -- the tables, of which some may be absent
  pub tables : List (Option (List ℕ))
  pub few_bytes : length source ≤ SOURCE_BYTES
  pub read : HasTree source tree
  pub header_read : header_of tree ≡ Ok header
  pub index_read : index_of tree ≡ Ok index
  -- each is drawn by its bases, and they by theirs
  pub glyphs_drawn : AllDrawn (parts source) tree header index (numbers_in index) glyphs
  -- each is written as a simple glyph, or as a composite of its bases
  pub outlines_written : AllMade (part (parts source) header order) glyphs outlines
  pub glyphs_varied : AllMade (variations_in header index) (varying (parts source) header glyphs)
      variations
  pub glyphs_ordered : order_or_refused index ≡ Ok order
  pub glyphs_measured : measures_in header order glyphs ≡ Ok measures
  pub tables_made : AllMade (table (parts source) header index order measures outlines variations)
      TABLE_TAGS tables
  pub is_file : filed (present TABLE_TAGS tables) ≡ Ok font

-- a part of a source fails by this refusal, and none by a lesser one
pub record IsRefusedBy (source : List ℕ) (r : Refusal) : Type 0 where
  pub id : JobId
  pub fails : FailsBy source id r
  pub none_less : (other : JobId) (s : Refusal) → FailsBy source other s
      → refusal_cmp s r ≢ Less
