-- Where the font of a source is made each of its jobs has a value, so none fails. Lemmas.
use Rattle.std.proofs.Common.{◌≡◌, ℕ, true, subst, sym}
use Rattle.access_context.specs.Plain.{is_done}
use Rattle.font_ir.specs.declared.tag.Tag.{Tag}
use Rattle.job_graph.specs.Members.{In}
use Rattle.font_graph.specs.Parts.{Parts}
use Rattle.font_graph.specs.Fonts.{IsFontOf}
use Rattle.font_graph.specs.Graph.{exported, varied, varied_of, value_of, tree_value, header_value}
use Rattle.font_graph.specs.Graph.{index_value, order_value}
use Rattle.font_graph.specs.Graph.{advances_value, font_value}
use Rattle.font_graph.specs.Graph.{There, Reached, by_export, by_base, bases}
use Rattle.font_graph.specs.Graph.{part_in, part_of}
use Rattle.font_graph.specs.Solved.{numbers_are, raw_done}
use Rattle.std.proofs.Common.{inr}
use Rattle.font_graph.specs.Outcomes.{map-In}
use Rattle.font_graph.specs.Made.{is_done_by, valued_done, varied_are, made_font, part_item}
use Rattle.font_graph.specs.Same.{same_id, identity}
use Rattle.font_graph.specs.Values.{Source, tree_is, header_is, index_is, Drawn, flats_are, Ordered}
use Rattle.font_graph.specs.Values.{order_is, Written, measures_are, parts_are, variations_are}
use Rattle.font_graph.specs.Values.{Tabled, tables_are}
use Rattle.font_graph.specs.declared.ids.JobId.{JobId}
use Rattle.font_graph.specs.declared.ids.JobId.TheVariants as job
use Rattle.font_graph.specs.declared.items.Item.TheVariants as an

module _ (p : Parts) (font : p.File) (f : IsFontOf p font) where
  abbrev s : Source p
  s = record {
    tree = f.tree;
    header = f.header;
    index = f.index;
    tree_read = f.tree_read;
    header_read = f.header_read;
    index_read = f.index_read;
  }

  abbrev d : Drawn p s
  d = record { flats = f.flats; glyphs_drawn = f.glyphs_drawn }

  abbrev o : Ordered p s d
  o = record { order = f.order; glyphs_ordered = f.glyphs_ordered }

  abbrev w : Written p s d o
  w = record {
    measures = f.measures;
    parts = f.parts;
    variations = f.variations;
    glyphs_measured = f.glyphs_measured;
    glyphs_written = f.glyphs_written;
    glyphs_varied = f.glyphs_varied;
  }

  abbrev t : Tabled p s d o w
  t = record { tables = f.tables; tables_made = f.tables_made }

  abbrev HasValue : JobId → Type 0
  HasValue id = is_done (value_of p same_id id) ≡ true

  in_index : (glyph : ℕ) → In glyph (exported p same_id) → In glyph (p.numbers f.index)
  in_index glyph i = subst (λ ns. In glyph ns)
      (sym (numbers_are p same_id f.index (index_is p s))) i

  flat_done : (glyph : ℕ) → In glyph (exported p same_id) → HasValue (job.Flat glyph)
  flat_done glyph i = valued_done p same_id identity f.tree (tree_is p s) f.header f.index
      (header_is p s) (index_is p s) job.Flat (λ glyph. an.Flat) (p.numbers f.index) f.flats
      (flats_are p s d)
      glyph (in_index glyph i)

  part_done : (glyph : ℕ) → In glyph (exported p same_id) → HasValue (part_of p same_id glyph)
  part_done glyph i = valued_done p same_id identity f.tree (tree_is p s) f.header f.index
      (header_is p s) (index_is p s) (part_of p same_id) (part_item p same_id identity)
      (p.numbers f.index) f.parts (parts_are p s d o w) glyph (in_index glyph i)

  simple_done : (glyph : ℕ) → There p same_id (job.Simple glyph) → HasValue (job.Simple glyph)
  simple_done glyph there = subst (λ kind. HasValue (part_in p same_id kind glyph)) there.1
      (part_done glyph there.0)

  composite_done : (glyph : ℕ) → There p same_id (job.Composite glyph)
      → HasValue (job.Composite glyph)
  composite_done glyph there = subst (λ kind. HasValue (part_in p same_id kind glyph)) there.1
      (part_done glyph there.0)

  -- a base of a glyph that is drawn is drawn
  reached_done : (glyph : ℕ) → Reached p same_id glyph → HasValue (job.Flat glyph)
  reached_done glyph (by_export _ i) = flat_done glyph i
  reached_done glyph (by_base other _ reached i) = Rattle.font_graph.specs.Made.part_done p same_id
      identity (job.Flat other)
      (reached_done other reached) (job.Flat glyph)
      (inr (inr (map-In job.Flat (bases p same_id other) glyph i)))

  variations_done : (glyph : ℕ) → In glyph (varied p same_id) → HasValue (job.Variations glyph)
  variations_done glyph i = valued_done p same_id identity f.tree (tree_is p s) f.header f.index
      (header_is p s) (index_is p s) job.Variations (λ glyph. an.Variations)
      (varied_of (p.is_variable f.header) (p.numbers f.index)) f.variations
      (variations_are p s d o w) glyph
      (subst (λ ns. In glyph ns) (sym (varied_are p same_id identity f.tree (tree_is p s) f.header
      f.index (header_is p s) (index_is p s))) i)

  table_done : (tag : Tag) → In tag p.tags → HasValue (job.Table tag)
  table_done = valued_done p same_id identity f.tree (tree_is p s) f.header f.index
      (header_is p s) (index_is p s) job.Table (λ tag. an.Table) p.tags f.tables (tables_are p s d o
      w t)

  -- a font that is made leaves no job without a value
  pub all_done : (id : JobId) → There p same_id id → is_done (value_of p same_id id) ≡ true
  all_done job.Tree there =
      is_done_by p same_id identity (tree_value p same_id) (an.Tree f.tree) (tree_is p s)
  all_done job.Header there =
      is_done_by p same_id identity (header_value p same_id) (an.Header f.header) (header_is p s)
  all_done job.Index there =
      is_done_by p same_id identity (index_value p same_id) (an.Index f.index) (index_is p s)
  all_done (job.Raw glyph) there = raw_done p same_id identity glyph (reached_done glyph there)
  all_done (job.Flat glyph) there = reached_done glyph there.0
  all_done (job.Simple glyph) there = simple_done glyph there
  all_done (job.Composite glyph) there = composite_done glyph there
  all_done (job.Variations glyph) there = variations_done glyph there.0
  all_done job.Order there =
      is_done_by p same_id identity (order_value p same_id) (an.Order f.order) (order_is p s d o)
  all_done job.Advances there = is_done_by p same_id identity (advances_value p same_id)
      (an.Advances f.measures) (measures_are p s d o w)
  all_done (job.Table tag) there = table_done tag there.0
  all_done job.Font there = is_done_by p same_id identity (font_value p same_id) (an.Font font)
      (made_font p same_id identity font f)
  all_done _ there = absurd there
