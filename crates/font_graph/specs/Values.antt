-- What the parts of a source answered, step by step, and the values that its jobs have by that.
-- Lemmas.
use Rattle.std.proofs.Common.{◌≡◌, List, Result, Ok}
use Rattle.refusal_codes.specs.declared.refusal.Refusal.{Refusal}
use Rattle.access_context.specs.Plain.{Done}
use Rattle.font_ir.specs.declared.tag.Tag.{Tag}
use Rattle.font_graph.specs.Parts.{Parts}
use Rattle.font_graph.specs.Fonts.{AllMade, AllDrawn, part, varying, table}
use Rattle.font_graph.specs.Graph.{Item, tree_value, header_value, index_value, order_value}
use Rattle.font_graph.specs.Graph.{advances_value, table_value, varied_of, part_of}
use Rattle.font_graph.specs.Made.{plain_of, of_answer, tree_by, header_by, index_by, Valued}
use Rattle.font_graph.specs.Made.{order_by, advances_by, table_by, all_drawn, all_written}
use Rattle.font_graph.specs.Made.{all_varied}
use Rattle.font_graph.specs.Made.{all_made, part_item}
use Rattle.font_graph.specs.Same.{same_id, identity}
use Rattle.font_graph.specs.declared.ids.JobId.{JobId}
use Rattle.font_graph.specs.declared.ids.JobId.TheVariants as job
use Rattle.font_graph.specs.declared.items.Item.TheVariants as an

module _ (p : Parts) where
  -- the source is read
  pub record Source : Type 0 where
    pub tree : p.Tree
    pub header : p.Header
    pub index : p.Index
    pub tree_read : p.tree ≡ Ok tree
    pub header_read : p.header tree ≡ Ok header
    pub index_read : p.index tree ≡ Ok index

  module _ (s : Source) where
    pub tree_is : tree_value p same_id ≡ Done (an.Tree s.tree)
    tree_is = of_answer p same_id identity an.Tree p.tree (tree_value p same_id) s.tree
        (tree_by p same_id identity) s.tree_read

    pub header_is : header_value p same_id ≡ Done (an.Header s.header)
    header_is = of_answer p same_id identity an.Header (p.header s.tree) (header_value p same_id)
        s.header (header_by p same_id identity s.tree tree_is) s.header_read

    pub index_is : index_value p same_id ≡ Done (an.Index s.index)
    index_is = of_answer p same_id identity an.Index (p.index s.tree) (index_value p same_id)
        s.index (index_by p same_id identity s.tree tree_is) s.index_read

    -- each of these jobs has its value
    abbrev pub AreValued : {X A : Type 0} → (X → JobId) → (X → A → Item p)
        → List X → List A → Type 0
    AreValued make item xs answers = Valued p same_id identity s.tree tree_is s.header s.index
        header_is index_is make item xs answers

    -- its glyphs are drawn
    pub record Drawn : Type 0 where
      pub flats : List p.Flat
      pub glyphs_drawn : AllDrawn p s.tree s.header s.index (p.numbers s.index) flats

    module _ (d : Drawn) where
      pub flats_are : AreValued job.Flat (λ glyph. an.Flat) (p.numbers s.index) d.flats
      flats_are = all_drawn p same_id identity s.tree tree_is s.header s.index header_is index_is
          (p.numbers s.index) d.flats d.glyphs_drawn

      -- they are put in order
      pub record Ordered : Type 0 where
        pub order : p.Order
        pub glyphs_ordered : p.order s.header s.index d.flats ≡ Ok order

      module _ (o : Ordered) where
        pub order_is : order_value p same_id ≡ Done (an.Order o.order)
        order_is = of_answer p same_id identity an.Order (p.order s.header s.index d.flats)
            (order_value p same_id) o.order (order_by p same_id identity s.tree tree_is s.header
            s.index header_is index_is d.flats flats_are) o.glyphs_ordered

        -- measured and written
        pub record Written : Type 0 where
          pub measures : p.Measures
          pub parts : List p.Data
          pub variations : List p.Data
          pub glyphs_measured : p.measures s.header o.order d.flats ≡ Ok measures
          pub glyphs_written : AllMade (part p s.header o.order) d.flats parts
          pub glyphs_varied : AllMade (p.variations s.header s.index) (varying p s.header d.flats)
              variations

        module _ (w : Written) where
          pub measures_are : advances_value p same_id ≡ Done (an.Advances w.measures)
          measures_are = of_answer p same_id identity an.Advances
              (p.measures s.header o.order d.flats) (advances_value p same_id) w.measures
              (advances_by p same_id identity s.tree tree_is s.header s.index header_is index_is
              d.flats flats_are o.order order_is) w.glyphs_measured

          pub parts_are : AreValued (part_of p same_id) (part_item p same_id identity)
              (p.numbers s.index) w.parts
          parts_are = all_written p same_id identity s.tree tree_is s.header s.index header_is
              index_is o.order order_is (p.numbers s.index) d.flats w.parts flats_are
              w.glyphs_written

          pub variations_are : AreValued job.Variations (λ glyph. an.Variations)
              (varied_of (p.is_variable s.header) (p.numbers s.index)) w.variations
          variations_are = all_varied p same_id identity s.tree tree_is s.header s.index header_is
              index_is (p.numbers s.index) d.flats w.variations flats_are w.glyphs_varied

          abbrev pub make_table : Tag → Result p.Table Refusal
          make_table tag = table p s.header s.index o.order w.measures w.parts w.variations tag

          pub tables_by : (tag : Tag)
              → table_value p same_id tag ≡ plain_of p same_id identity an.Table (make_table tag)
          tables_by = table_by p same_id identity s.tree tree_is s.header s.index header_is index_is
              d.flats flats_are o.order order_is w.measures measures_are w.parts w.variations
              parts_are
              variations_are

          -- and the tables are made
          pub record Tabled : Type 0 where
            pub tables : List p.Table
            pub tables_made : AllMade make_table p.tags tables

          pub tables_are : (t : Tabled) → AreValued job.Table (λ tag. an.Table) p.tags t.tables
          tables_are t = all_made p same_id identity s.tree tree_is s.header s.index header_is
              index_is make_table tables_by p.tags t.tables t.tables_made
