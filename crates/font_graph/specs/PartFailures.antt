-- A job fails exactly where its part does, and by the same refusal. For the plans of crates above.
-- fontc's own.
use Rattle.std.proofs.Common.{◌≡◌, ℕ, Bool, true, false, inl, inr, List, [], ◌∷◌, map, Option}
use Rattle.std.proofs.Common.{Some, Result, Ok, Err, refl, ap}
use Rattle.std.specs.Prelude.{option_and_then}
use Rattle.std.proofs.Common.{sym, ◌∙◌, subst}
use Rattle.refusal_codes.specs.declared.refusal.Refusal.{Refusal}
use Rattle.access_context.specs.Plain.{Done, Refused, is_done, done_value}
use Rattle.access_context.specs.Read.{all_done}
use Rattle.font_ir.specs.declared.tag.Tag.{Tag}
use Rattle.job_graph.specs.Members.{In}
use Rattle.font_graph.specs.Parts.{Parts, Needs, Nothing, TheIndex, TheMeasures}
use Rattle.font_graph.specs.Parts.{TheMeasuresAndIndex, TheOutlines, TheVariations, Extra}
use Rattle.font_graph.specs.Parts.{nothing, with_index, with_measures, with_both, with_data}
use Rattle.font_graph.specs.Fonts.{AreInOrder, IsExtraOf, IsTableOf, AreTablesOf}
use Rattle.font_graph.specs.Fonts.{AllDrawn, DrawnSo}
use Rattle.font_graph.specs.Descent.{Leads, LeadsToCycle}
use Rattle.font_graph.specs.Fails.{Fails, EndsNever, IsEndless}
use Rattle.font_graph.specs.FailsBy.{IsRead, IsDrawn, HeaderFails, IndexFails, GlyphFails}
use Rattle.font_graph.specs.FailsBy.{OutlineFails, DataFails, VariationsFail, OrderFails}
use Rattle.font_graph.specs.FailsBy.{AdvancesFail, TableFails, FontFails, FailsBy, CompositeFails}
use Rattle.font_graph.specs.FailsBy.{EndlessFails, FlatFails, IsReached, of_font, of_base, is_made}
use Rattle.font_graph.specs.FailsBy.{bases_in, reads_of, bases_of}
use Rattle.font_graph.specs.Failing.{all_read, refused_reads}
use Rattle.font_graph.specs.Graph.{exported, varied, numbers, needed, varied_of, value_of}
use Rattle.font_graph.specs.Graph.{tree_value, header_value, index_value, raw_value, flat_value}
use Rattle.font_graph.specs.Graph.{simple_value, variations_value, order_value, advances_value}
use Rattle.font_graph.specs.Graph.{table_value, font_value, extra_read, There, Reached, by_export}
use Rattle.font_graph.specs.Graph.{by_base, bases, raw_known, index_known, as_raw, as_index}
use Rattle.font_graph.specs.Graph.{kind_of}
use Rattle.font_graph.specs.Graph.{part_of, part_ids, composite_value}
use Rattle.font_graph.specs.Graph as graph
use Rattle.font_graph.specs.Made.{plain_of, of_answer, is_done_by, tree_by, header_by}
use Rattle.font_graph.specs.Made.{index_by, font_by, valued_done, Valued, varied_are, all_written}
use Rattle.font_graph.specs.Made.{all_varied, index_needed, measures_needed, both_needed}
use Rattle.font_graph.specs.Made.{outlines_read, variations_read, all_from, part_done, bases_are}
use Rattle.font_graph.specs.Made.{Drawings, drawings, part_item, kind_is}
use Rattle.font_graph.specs.Made as made
use Rattle.font_graph.specs.Outcomes.{items, with_value, map-In, In-map}
use Rattle.font_graph.specs.PartRefusals.{refusal_of_part, refused_by_part, IsMade, tree_made}
use Rattle.font_graph.specs.PartRefusals.{source_made, raw_source, in_index, in_jobs, raw_so}
use Rattle.font_graph.specs.PartRefusals.{flat_so, composite_so, simple_so, variations_so, raw_made}
use Rattle.font_graph.specs.PartRefusals.{flat_made}
use Rattle.font_graph.specs.PartRefusals.{all_drawn, order_so, advances_so, InOrder, in_order}
use Rattle.font_graph.specs.Running.{kind_so, are_in_order, table_found, table_so, of_glyphs}
use Rattle.font_graph.specs.Running.{tables_made}
use Rattle.font_graph.specs.Same.{same_id, identity}
use Rattle.font_graph.specs.Solved.{varied_in, varies_is, in_varied, based_read}
use Rattle.font_graph.specs.Values.{Source, tree_is, header_is, index_is, Drawn, flats_are}
use Rattle.font_graph.specs.Values.{order_is, AreValued}
use Rattle.font_graph.specs.declared.ids.JobId.{JobId}
use Rattle.font_graph.specs.declared.ids.JobId.TheVariants as job
use Rattle.font_graph.specs.declared.items.Item.TheVariants as an

module _ (p : Parts) where
  abbrev IsRefused : JobId → Refusal → Type 0
  IsRefused id r = value_of p same_id id ≡ Refused r

  is_read : (s : Source p) → IsRead p s.tree s.header s.index
  is_read s = record {
    tree_read = s.tree_read;
    header_read = s.header_read;
    index_read = s.index_read;
  }

  abbrev of_read : (tree : p.Tree) (header : p.Header) (index : p.Index) → IsRead p tree header
      index
      → Source p
  of_read tree header index read = record {
    tree = tree;
    header = header;
    index = index;
    tree_read = read.tree_read;
    header_read = read.header_read;
    index_read = read.index_read;
  }

  -- a job that draws no glyph fails by its own refusal
  own_refused : (id : JobId) (r : Refusal) → (IsEndless p id r → ⊥) → Fails p id r
      → IsRefused id r
  own_refused id r none f = elim f.refused [ inl e ↦ e | inr e ↦ absurd (none e) ]

  -- ---- glyphs that are reached

  bases_so : (s : Source p) (glyph : ℕ) (raw : p.Raw)
      → raw_value p same_id glyph ≡ Done (an.Raw raw)
      → bases p same_id glyph ≡ p.bases raw s.index
  bases_so s = bases_are p same_id identity s.tree (tree_is p s) s.header s.index (header_is p s)
      (index_is p s)

  reached_so : (s : Source p) (glyph : ℕ) → Reached p same_id glyph
      → IsReached p s.tree s.header s.index glyph
  reached_so s glyph (by_export _ i) = of_font glyph (in_index p s glyph i)
  reached_so s glyph (by_base other _ reached i) =
      let raw = raw_made p s other (based_read p same_id other glyph i) in
      of_base other glyph raw.0 (reached_so s other reached) raw.1
      (subst (λ bs. In glyph bs) (bases_so s other raw.0 raw.2) i)

  raw_is : (s : Source p) (glyph : ℕ) (raw : p.Raw)
      → p.raw s.tree s.header s.index glyph ≡ Ok raw
      → raw_value p same_id glyph ≡ Done (an.Raw raw)
  raw_is s glyph raw e = of_answer p same_id identity an.Raw (p.raw s.tree s.header s.index glyph)
      (raw_value p same_id glyph) raw (raw_so p s glyph) e

  in_reached : (s : Source p) (glyph : ℕ) → IsReached p s.tree s.header s.index glyph
      → Reached p same_id glyph
  in_reached s glyph (of_font _ i) = by_export glyph (in_jobs p s glyph i)
  in_reached s glyph (of_base other _ raw reached e i) = by_base other glyph
      (in_reached s other reached)
      (subst (λ bs. In glyph bs) (sym (bases_so s other raw (raw_is s other raw e))) i)

  -- the bases by the parts are those of the jobs
  agree : (s : Source p) (glyph : ℕ) (made : Result p.Raw Refusal)
      → p.raw s.tree s.header s.index glyph ≡ made
      → (bases p same_id glyph ≡ bases_in p s.tree s.header s.index made)
      × (graph.is_read p same_id glyph ≡ is_made p s.tree s.header s.index made)
  agree s glyph (Ok raw) e =
      let is = raw_is s glyph raw e in
      (bases_so s glyph raw is, ap is_done is)
  agree s glyph (Err refusal) e =
      let is = refused_by_part p an.Raw (p.raw s.tree s.header s.index glyph)
      (raw_value p same_id glyph) refusal (raw_so p s glyph) e in (
        ap (λ v. graph.bases_in p same_id (option_and_then (as_raw p) (done_value v))
            (index_known p same_id)) is,
        ap is_done is,
      )

  same_bases : (s : Source p) → bases p same_id ≡ bases_of p s.tree s.header s.index
  same_bases s = λ i glyph. (agree s glyph (p.raw s.tree s.header s.index glyph) refl).0 i

  same_reads : (s : Source p) → graph.is_read p same_id ≡ reads_of p s.tree s.header s.index
  same_reads s = λ i glyph. (agree s glyph (p.raw s.tree s.header s.index glyph) refl).1 i

  -- a glyph leads to a cycle, and all glyphs that it leads to are read
  abbrev Never : (ℕ → List ℕ) → (ℕ → Bool) → ℕ → Type 0
  Never by_bases reads glyph =
      ((other : ℕ) → Leads by_bases reads glyph other → reads other ≡ true)
      × LeadsToCycle by_bases reads glyph

  into_parts : (s : Source p) (glyph : ℕ) → Never (bases p same_id) (graph.is_read p same_id) glyph
      → Never (bases_of p s.tree s.header s.index) (reads_of p s.tree s.header s.index) glyph
  into_parts s glyph n = subst
      (λ reads. Never (bases_of p s.tree s.header s.index) reads glyph) (same_reads s)
      (subst (λ by_bases. Never by_bases (graph.is_read p same_id) glyph) (same_bases s) n)

  from_parts : (s : Source p) (glyph : ℕ)
      → Never (bases_of p s.tree s.header s.index) (reads_of p s.tree s.header s.index) glyph
      → Never (bases p same_id) (graph.is_read p same_id) glyph
  from_parts s glyph n = subst (λ by_bases. Never by_bases (graph.is_read p same_id) glyph)
      (sym (same_bases s)) (subst
      (λ reads. Never (bases_of p s.tree s.header s.index) reads glyph) (sym (same_reads s)) n)

  index_so : (s : Source p) → index_known p same_id ≡ Some s.index
  index_so s = ap (λ v. option_and_then (as_index p) (done_value v)) (index_is p s)

  raw_known_is : (glyph : ℕ) (raw : p.Raw) → raw_value p same_id glyph ≡ Done (an.Raw raw)
      → raw_known p same_id glyph ≡ Some raw
  raw_known_is glyph raw e = ap (λ v. option_and_then (as_raw p) (done_value v)) e

  same_raw : (a b : p.Raw) → ◌≡◌ {A = Option p.Raw} (Some a) (Some b) → a ≡ b
  same_raw a b e = cc

  same_index : (a b : p.Index) → ◌≡◌ {A = Option p.Index} (Some a) (Some b) → a ≡ b
  same_index a b e = cc

  -- ---- a job that fails

  header_fails : (r : Refusal) → IsRefused job.Header r → HeaderFails p r
  header_fails r e =
      let tree = tree_made p (refused_reads p job.Header r e job.Tree (inl refl)) in
      record {
        tree = tree.0;
        tree_read = tree.1;
        refused = refusal_of_part p an.Header (p.header tree.0) (header_value p same_id) r
            (header_by p same_id identity tree.0 tree.2) e;
      }

  index_fails : (r : Refusal) → IsRefused job.Index r → IndexFails p r
  index_fails r e =
      let tree = tree_made p (refused_reads p job.Index r e job.Tree (inl refl)) in
      record {
        tree = tree.0;
        tree_read = tree.1;
        refused = refusal_of_part p an.Index (p.index tree.0) (index_value p same_id) r
            (index_by p same_id identity tree.0 tree.2) e;
      }

  raw_fails : (glyph : ℕ) (r : Refusal) → Reached p same_id glyph
      → IsRefused (job.Raw glyph) r → GlyphFails p glyph r
  raw_fails glyph r i e =
      let s = source_made p (refused_reads p (job.Raw glyph) r e job.Header (inr (inl refl)))
      (refused_reads p (job.Raw glyph) r e job.Index (inr (inr (inl refl)))) in
      record {
        tree = s.tree;
        header = s.header;
        index = s.index;
        read = is_read s;
        there = reached_so s glyph i;
        refused = refusal_of_part p an.Raw (p.raw s.tree s.header s.index glyph)
            (raw_value p same_id glyph) r (raw_so p s glyph) e;
      }

  -- bases that have values were drawn
  bases_drawings : (s : Source p) (raw : p.Raw) → ((base : ℕ) → In base (p.bases raw s.index)
      → IsMade p (job.Flat base)) → Drawings p same_id identity s.tree (tree_is p s) s.header
      s.index (header_is p s) (index_is p s) (p.bases raw s.index)
  bases_drawings s raw done = drawings p same_id identity s.tree (tree_is p s) s.header s.index
      (header_is p s) (index_is p s) (p.bases raw s.index) done

  bases_valued : (s : Source p) (glyphs : List ℕ) (flats : List p.Flat)
      → AllDrawn p s.tree s.header s.index glyphs flats
      → AreValued p s job.Flat (λ glyph. an.Flat) glyphs flats
  bases_valued s = made.all_drawn p same_id identity s.tree (tree_is p s) s.header s.index
      (header_is p s) (index_is p s)

  outline_fails : (glyph : ℕ) (r : Refusal) → Reached p same_id glyph
      → IsRefused (job.Flat glyph) r → OutlineFails p glyph r
  outline_fails glyph r i e =
      let done = refused_reads p (job.Flat glyph) r e (job.Raw glyph) (inl refl) in
      let s = raw_source p glyph done in
      let raw = raw_made p s glyph done in
      let below = bases_drawings s raw.0 (λ base j. refused_reads p (job.Flat glyph) r e
      (job.Flat base) (inr (inr (map-In job.Flat (bases p same_id glyph) base
      (subst (λ bs. In base bs) (sym (bases_so s glyph raw.0 raw.2)) j))))) in
      record {
        tree = s.tree;
        header = s.header;
        index = s.index;
        raw = raw.0;
        of_bases = below.flats;
        read = is_read s;
        there = reached_so s glyph i;
        layers_read = raw.1;
        bases_drawn = below.drawn_are;
        refused = refusal_of_part p an.Flat (p.flat raw.0 s.index below.flats)
            (flat_value p same_id glyph) r (flat_so p s glyph raw.0 below.flats raw.2
            (bases_valued s (p.bases raw.0 s.index) below.flats below.drawn_are)) e;
      }

  endless_fails : (glyph : ℕ) (r : Refusal) → There p same_id (job.Flat glyph)
      → EndsNever p glyph r → EndlessFails p glyph r
  endless_fails glyph r there e =
      let s = raw_source p glyph there.1 in
      let raw = raw_made p s glyph there.1 in
      let never = into_parts s glyph (e.all_read, e.cycle) in
      let raw_same = same_raw e.raw raw.0 (sym e.raw_is ∙ raw_known_is glyph raw.0 raw.2) in
      let index_same = same_index e.index s.index (sym e.index_is ∙ index_so s) in
      record {
        tree = s.tree;
        header = s.header;
        index = s.index;
        raw = raw.0;
        read = is_read s;
        there = reached_so s glyph there.0;
        layers_read = raw.1;
        all_read = never.0;
        cycle = never.1;
        refused = sym (ap (λ g. p.endless g e.index) raw_same
            ∙ ap (λ i. p.endless raw.0 i) index_same) ∙ e.refusal_is;
      }

  flat_fails : (glyph : ℕ) (r : Refusal) → Fails p (job.Flat glyph) r → FlatFails p glyph r
  flat_fails glyph r f = elim f.refused [
    | inl e ↦ inl (outline_fails glyph r f.there.0 e)
    | inr e ↦ inr (endless_fails glyph r f.there e)
  ]

  -- the source of a glyph that was drawn
  flat_source : (glyph : ℕ) → IsMade p (job.Flat glyph) → Source p
  flat_source glyph done = raw_source p glyph
      (part_done p same_id identity (job.Flat glyph) done (job.Raw glyph) (inl refl))

  is_drawn : (s : Source p) (glyph : ℕ) (flat : p.Flat) → In glyph (exported p same_id)
      → DrawnSo p s.tree s.header s.index glyph flat → IsDrawn p s.header s.index glyph flat
  is_drawn s glyph flat i e = record {
    tree = s.tree;
    read = is_read s;
    there = in_index p s glyph i;
    drawn_so = e;
  }

  composite_fails : (glyph : ℕ) (r : Refusal) → There p same_id (job.Composite glyph)
      → IsRefused (job.Composite glyph) r → CompositeFails p glyph r
  unfolding are_in_order
  composite_fails glyph r there e =
      let k = in_order p (refused_reads p (job.Composite glyph) r e job.Order (inr (inl refl))) in
      let flat = flat_made p k.s glyph
      (refused_reads p (job.Composite glyph) r e (job.Flat glyph) (inr (inr (inl refl)))) in
      record {
        header = k.s.header;
        index = k.s.index;
        flats = k.d.flats;
        order = k.o.order;
        flat = flat.0;
        in_order = are_in_order p k;
        there = in_index p k.s glyph there.0;
        drawn_so = flat.1;
        is_composite = kind_so p glyph flat.0 true flat.2 there.1;
        refused = refusal_of_part p an.Composite (p.composite k.s.header k.o.order flat.0)
            (composite_value p same_id glyph) r
            (composite_so p k.s glyph k.o.order flat.0 (order_is p k.s k.d k.o) flat.2) e;
      }

  simple_fails : (glyph : ℕ) (r : Refusal) → There p same_id (job.Simple glyph)
      → IsRefused (job.Simple glyph) r → DataFails p glyph r
  simple_fails glyph r there e =
      let done = refused_reads p (job.Simple glyph) r e (job.Flat glyph) (inr (inl refl)) in
      let s = flat_source glyph done in
      let flat = flat_made p s glyph done in
      record {
        header = s.header;
        index = s.index;
        flat = flat.0;
        is_drawn = is_drawn s glyph flat.0 there.0 flat.1;
        is_simple = kind_so p glyph flat.0 false flat.2 there.1;
        refused = refusal_of_part p an.Simple (p.simple s.header flat.0)
            (simple_value p same_id glyph) r (simple_so p s glyph flat.0 flat.2) e;
      }

  variations_fail : (glyph : ℕ) (r : Refusal) → In glyph (varied p same_id)
      → IsRefused (job.Variations glyph) r → VariationsFail p glyph r
  variations_fail glyph r i e =
      let done = refused_reads p (job.Variations glyph) r e (job.Flat glyph)
      (inr (inr (inl refl))) in
      let s = flat_source glyph done in
      let flat = flat_made p s glyph done in
      let known = varied_in p same_id glyph i in
      record {
        header = s.header;
        index = s.index;
        flat = flat.0;
        is_drawn = is_drawn s glyph flat.0 known.0 flat.1;
        varies = varies_is p same_id s.header (header_is p s) ∙ known.1;
        refused = refusal_of_part p an.Variations (p.variations s.header s.index flat.0)
            (variations_value p same_id glyph) r (variations_so p s glyph flat.0 flat.2) e;
      }

  order_fails : (r : Refusal) → IsRefused job.Order r → OrderFails p r
  order_fails r e =
      let s = source_made p (refused_reads p job.Order r e job.Header (inl refl))
      (refused_reads p job.Order r e job.Index (inr (inl refl))) in
      let d = all_drawn p s (λ glyph i. refused_reads p job.Order r e (job.Flat glyph)
      (inr (inr (map-In job.Flat (exported p same_id) glyph i)))) in
      record {
        tree = s.tree;
        header = s.header;
        index = s.index;
        flats = d.flats;
        read = is_read s;
        glyphs_drawn = d.glyphs_drawn;
        refused = refusal_of_part p an.Order (p.order s.header s.index d.flats)
            (order_value p same_id) r (order_so p s d) e;
      }

  advances_fail : (r : Refusal) → IsRefused job.Advances r → AdvancesFail p r
  advances_fail r e =
      let k = in_order p (refused_reads p job.Advances r e job.Order (inr (inl refl))) in
      record {
        header = k.s.header;
        index = k.s.index;
        flats = k.d.flats;
        order = k.o.order;
        in_order = are_in_order p k;
        refused = refusal_of_part p an.Advances (p.measures k.s.header k.o.order k.d.flats)
            (advances_value p same_id) r (advances_so p k.s k.d k.o) e;
      }

  table_fails : (tag : Tag) (r : Refusal) → In tag p.tags → IsRefused (job.Table tag) r
      → TableFails p tag r
  table_fails tag r i e =
      let k = in_order p (refused_reads p (job.Table tag) r e job.Order (inr (inl refl))) in
      let all : all_done (items p same_id (job.Table tag)) ≡ true
      = all_read p (job.Table tag) r e in
      let f = table_found p k tag all in
      record {
        header = k.s.header;
        order = k.o.order;
        more = f.more;
        there = i;
        of_glyphs = of_glyphs p k (p.needs tag) f.more f.is_extra;
        refused = refusal_of_part p an.Table (p.table tag k.s.header k.o.order f.more)
            (table_value p same_id tag) r (table_so p k tag f.more all f.more_is) e;
      }

  font_fails : (r : Refusal) → is_done (order_value p same_id) ≡ true → IsRefused job.Font r
      → FontFails p r
  font_fails r done e =
      let k = in_order p done in
      let t = tables_made p k p.tags (λ tag i. refused_reads p job.Font r e (job.Table tag)
      (map-In job.Table p.tags tag i)) in
      record {
        header = k.s.header;
        index = k.s.index;
        flats = k.d.flats;
        order = k.o.order;
        in_order = are_in_order p k;
        tables = t.tables;
        tables_made = t.are;
        refused = refusal_of_part p an.Font (p.font t.tables) (font_value p same_id) r
            (font_by p same_id identity k.s.tree (tree_is p k.s) k.s.header k.s.index
            (header_is p k.s) (index_is p k.s) t.tables t.valued) e;
      }

  pub fails_by : (id : JobId) (r : Refusal) → Fails p id r → FailsBy p id r
  fails_by job.Tree r f = refusal_of_part p an.Tree p.tree (tree_value p same_id) r
      (tree_by p same_id identity) (own_refused job.Tree r (λ e. e) f)
  fails_by job.Header r f = header_fails r (own_refused job.Header r (λ e. e) f)
  fails_by job.Index r f = index_fails r (own_refused job.Index r (λ e. e) f)
  fails_by (job.Raw glyph) r f =
      raw_fails glyph r f.there (own_refused (job.Raw glyph) r (λ e. e) f)
  fails_by (job.Flat glyph) r f = flat_fails glyph r f
  fails_by (job.Simple glyph) r f =
      simple_fails glyph r f.there (own_refused (job.Simple glyph) r (λ e. e) f)
  fails_by (job.Composite glyph) r f =
      composite_fails glyph r f.there (own_refused (job.Composite glyph) r (λ e. e) f)
  fails_by (job.Variations glyph) r f =
      variations_fail glyph r f.there.0 (own_refused (job.Variations glyph) r (λ e. e) f)
  fails_by job.Order r f = order_fails r (own_refused job.Order r (λ e. e) f)
  fails_by job.Advances r f = advances_fail r (own_refused job.Advances r (λ e. e) f)
  fails_by (job.Table tag) r f =
      table_fails tag r f.there.0 (own_refused (job.Table tag) r (λ e. e) f)
  fails_by job.Font r f = font_fails r f.there (own_refused job.Font r (λ e. e) f)
  fails_by _ r f = f.there

  -- ---- a part that fails

  header_refused : (r : Refusal) → HeaderFails p r → Fails p job.Header r
  header_refused r f =
      let tree_is = of_answer p same_id identity an.Tree p.tree (tree_value p same_id) f.tree
      (tree_by p same_id identity) f.tree_read in
      record {
        there = tt;
        refused = inl (refused_by_part p an.Header (p.header f.tree) (header_value p same_id) r
            (header_by p same_id identity f.tree tree_is) f.refused);
      }

  index_refused : (r : Refusal) → IndexFails p r → Fails p job.Index r
  index_refused r f =
      let tree_is = of_answer p same_id identity an.Tree p.tree (tree_value p same_id) f.tree
      (tree_by p same_id identity) f.tree_read in
      record {
        there = tt;
        refused = inl (refused_by_part p an.Index (p.index f.tree) (index_value p same_id) r
            (index_by p same_id identity f.tree tree_is) f.refused);
      }

  raw_refused : (glyph : ℕ) (r : Refusal) → GlyphFails p glyph r → Fails p (job.Raw glyph) r
  raw_refused glyph r f =
      let s = of_read f.tree f.header f.index f.read in
      record {
        there = in_reached s glyph f.there;
        refused = inl (refused_by_part p an.Raw (p.raw f.tree f.header f.index glyph)
            (raw_value p same_id glyph) r (raw_so p s glyph) f.refused);
      }

  outline_refused : (glyph : ℕ) (r : Refusal) → OutlineFails p glyph r
      → Fails p (job.Flat glyph) r
  outline_refused glyph r f =
      let s = of_read f.tree f.header f.index f.read in
      let is = raw_is s glyph f.raw f.layers_read in
      record {
        there = (
          in_reached s glyph f.there,
          is_done_by p same_id identity (raw_value p same_id glyph) (an.Raw f.raw) is,
        );
        refused = inl (refused_by_part p an.Flat (p.flat f.raw f.index f.of_bases)
            (flat_value p same_id glyph) r (flat_so p s glyph f.raw f.of_bases is
            (bases_valued s (p.bases f.raw f.index) f.of_bases f.bases_drawn)) f.refused);
      }

  endless_refused : (glyph : ℕ) (r : Refusal) → EndlessFails p glyph r
      → Fails p (job.Flat glyph) r
  endless_refused glyph r f =
      let s = of_read f.tree f.header f.index f.read in
      let is = raw_is s glyph f.raw f.layers_read in
      let never = from_parts s glyph (f.all_read, f.cycle) in
      record {
        there = (
          in_reached s glyph f.there,
          is_done_by p same_id identity (raw_value p same_id glyph) (an.Raw f.raw) is,
        );
        refused = inr (record {
          raw = f.raw;
          index = f.index;
          raw_is = raw_known_is glyph f.raw is;
          index_is = index_so s;
          all_read = never.0;
          cycle = never.1;
          refusal_is = f.refused;
        });
      }

  flat_refused : (glyph : ℕ) (r : Refusal) → FlatFails p glyph r → Fails p (job.Flat glyph) r
  flat_refused glyph r (inl f) = outline_refused glyph r f
  flat_refused glyph r (inr f) = endless_refused glyph r f

  -- a glyph that was drawn has its values
  record HasFlat (s : Source p) (glyph : ℕ) (flat : p.Flat) : Type 0 where
    raw_done : is_done (raw_value p same_id glyph) ≡ true
    flat_is : flat_value p same_id glyph ≡ Done (an.Flat flat)

  has_flat : (s : Source p) (glyph : ℕ) (flat : p.Flat)
      → DrawnSo p s.tree s.header s.index glyph flat → HasFlat s glyph flat
  has_flat s glyph flat d =
      let is = raw_is s glyph d.raw d.raw_made in
      record {
        raw_done = is_done_by p same_id identity (raw_value p same_id glyph) (an.Raw d.raw) is;
        flat_is = of_answer p same_id identity an.Flat (p.flat d.raw s.index d.of_bases)
            (flat_value p same_id glyph) flat (flat_so p s glyph d.raw d.of_bases is
            (bases_valued s (p.bases d.raw s.index) d.of_bases d.bases_drawn)) d.flat_made;
      }

  simple_refused : (glyph : ℕ) (r : Refusal) → DataFails p glyph r → Fails p (job.Simple glyph) r
  simple_refused glyph r f =
      let d = f.is_drawn in
      let s = of_read d.tree f.header f.index d.read in
      let h = has_flat s glyph f.flat d.drawn_so in
      record {
        there = (
          in_jobs p s glyph d.there,
          kind_is p same_id identity glyph f.flat h.flat_is ∙ ap Some f.is_simple,
        );
        refused = inl (refused_by_part p an.Simple (p.simple f.header f.flat)
            (simple_value p same_id glyph) r (simple_so p s glyph f.flat h.flat_is) f.refused);
      }

  variations_refused : (glyph : ℕ) (r : Refusal) → VariationsFail p glyph r
      → Fails p (job.Variations glyph) r
  variations_refused glyph r f =
      let d = f.is_drawn in
      let s = of_read d.tree f.header f.index d.read in
      let h = has_flat s glyph f.flat d.drawn_so in
      record {
        there = (
          in_varied p same_id glyph (in_jobs p s glyph d.there)
              (sym (varies_is p same_id f.header (header_is p s))
              ∙ f.varies),
          h.raw_done,
        );
        refused = inl (refused_by_part p an.Variations (p.variations f.header f.index f.flat)
            (variations_value p same_id glyph) r (variations_so p s glyph f.flat h.flat_is)
            f.refused);
      }

  order_refused : (r : Refusal) → OrderFails p r → Fails p job.Order r
  order_refused r f =
      let s = of_read f.tree f.header f.index f.read in
      let d : Drawn p s = record { flats = f.flats; glyphs_drawn = f.glyphs_drawn } in
      record {
        there = is_done_by p same_id identity (index_value p same_id) (an.Index f.index)
            (index_is p s);
        refused = inl (refused_by_part p an.Order (p.order f.header f.index f.flats)
            (order_value p same_id) r (order_so p s d) f.refused);
      }

  -- glyphs in order, by what is known of them
  abbrev in_order_of : (header : p.Header) (index : p.Index) (flats : List p.Flat) (order : p.Order)
      → AreInOrder p header index flats order → InOrder p
  in_order_of header index flats order are =
      let s : Source p = record {
        tree = are.tree;
        header = header;
        index = index;
        tree_read = are.tree_read;
        header_read = are.header_read;
        index_read = are.index_read;
      } in
      let d : Drawn p s = record { flats = flats; glyphs_drawn = are.glyphs_drawn } in
      record { s = s; d = d; o = record { order = order; glyphs_ordered = are.glyphs_ordered } }

  order_made : (k : InOrder p) → is_done (order_value p same_id) ≡ true
  order_made k = is_done_by p same_id identity (order_value p same_id) (an.Order k.o.order)
      (order_is p k.s k.d k.o)

  composite_refused : (glyph : ℕ) (r : Refusal) → CompositeFails p glyph r
      → Fails p (job.Composite glyph) r
  composite_refused glyph r f =
      let k = in_order_of f.header f.index f.flats f.order f.in_order in
      let h = has_flat k.s glyph f.flat f.drawn_so in
      record {
        there = (
          in_jobs p k.s glyph f.there,
          kind_is p same_id identity glyph f.flat h.flat_is ∙ ap Some f.is_composite,
        );
        refused = inl (refused_by_part p an.Composite (p.composite f.header f.order f.flat)
            (composite_value p same_id glyph) r
            (composite_so p k.s glyph f.order f.flat (order_is p k.s k.d k.o) h.flat_is) f.refused);
      }

  advances_refused : (r : Refusal) → AdvancesFail p r → Fails p job.Advances r
  advances_refused r f =
      let k = in_order_of f.header f.index f.flats f.order f.in_order in
      record {
        there = order_made k;
        refused = inl (refused_by_part p an.Advances (p.measures f.header f.order f.flats)
            (advances_value p same_id) r (advances_so p k.s k.d k.o) f.refused);
      }

  -- what a table is made of is found by its job
  module _ (k : InOrder p) where
    abbrev HasValue : JobId → Type 0
    HasValue id = is_done (value_of p same_id id) ≡ true

    record Finds (needs : Needs) (more : Extra p.Index p.Measures p.Data) : Type 0 where
      done : (id : JobId) → In id (needed (part_ids p same_id) (varied p same_id) needs) → HasValue
          id
      more_is : extra_read p same_id (map (with_value p same_id)
          (job.Header ∷ job.Order ∷ needed (part_ids p same_id) (varied p same_id) needs)) needs ≡
          Some more

    one_done : (id other : JobId) → HasValue id → In other (id ∷ []) → HasValue other
    one_done id other done i = elim i
        [ inl e ↦ subst HasValue e done | inr none ↦ absurd none ]

    index_done : HasValue job.Index
    index_done = is_done_by p same_id identity (index_value p same_id) (an.Index k.s.index)
        (index_is p k.s)

    abbrev MeasuresAre : p.Measures → Type 0
    MeasuresAre measures = advances_value p same_id ≡ Done (an.Advances measures)

    measures_are : (measures : p.Measures)
        → p.measures k.s.header k.o.order k.d.flats ≡ Ok measures → MeasuresAre measures
    measures_are measures e = of_answer p same_id identity an.Advances
        (p.measures k.s.header k.o.order k.d.flats) (advances_value p same_id) measures
        (advances_so p k.s k.d k.o) e

    measures_done : (measures : p.Measures) → MeasuresAre measures → HasValue job.Advances
    measures_done measures is = is_done_by p same_id identity (advances_value p same_id)
        (an.Advances measures) is

    finds_index : Finds TheIndex (with_index k.s.index)
    finds_index = record {
      done = λ id i. one_done job.Index id index_done i;
      more_is = index_needed p same_id identity k.s.tree (tree_is p k.s) k.s.header k.s.index
          (header_is p k.s) (index_is p k.s) k.d.flats (flats_are p k.s k.d) k.o.order
          (order_is p k.s k.d k.o);
    }

    finds_measures : (measures : p.Measures)
        → p.measures k.s.header k.o.order k.d.flats ≡ Ok measures
        → Finds TheMeasures (with_measures measures)
    finds_measures measures e =
        let is = measures_are measures e in
        record {
          done = λ id i. one_done job.Advances id (measures_done measures is) i;
          more_is = measures_needed p same_id identity k.s.tree (tree_is p k.s) k.s.header
              k.s.index (header_is p k.s) (index_is p k.s) k.d.flats (flats_are p k.s k.d)
              k.o.order (order_is p k.s k.d k.o) measures is;
        }

    finds_both : (measures : p.Measures)
        → p.measures k.s.header k.o.order k.d.flats ≡ Ok measures
        → Finds TheMeasuresAndIndex (with_both measures k.s.index)
    finds_both measures e =
        let is = measures_are measures e in
        record {
          done = λ id i. elim i [
            | inl e ↦ subst HasValue e (measures_done measures is)
            | inr i ↦ one_done job.Index id index_done i
          ];
          more_is = both_needed p same_id identity k.s.tree (tree_is p k.s) k.s.header
              k.s.index (header_is p k.s) (index_is p k.s) k.d.flats (flats_are p k.s k.d)
              k.o.order (order_is p k.s k.d k.o) measures is;
        }

    finds : (needs : Needs) (more : Extra p.Index p.Measures p.Data)
        → IsExtraOf p k.s.header k.s.index k.d.flats k.o.order needs more → Finds needs more
    finds Nothing nothing is = record { done = λ id i. absurd i; more_is = refl }
    finds TheIndex (with_index index) is =
        subst (λ index. Finds TheIndex (with_index index))
        (sym is) finds_index
    finds TheMeasures (with_measures measures) is = finds_measures measures is
    finds TheMeasuresAndIndex (with_both measures index) is =
        subst (λ index. Finds TheMeasuresAndIndex (with_both measures index))
        (sym is.1) (finds_both measures is.0)
    finds TheOutlines (with_data parts) is =
        let valued = all_written p same_id identity k.s.tree (tree_is p k.s) k.s.header k.s.index
        (header_is p k.s) (index_is p k.s) k.o.order (order_is p k.s k.d k.o)
        (p.numbers k.s.index) k.d.flats parts (flats_are p k.s k.d) is in
        record {
          done = λ id i. let m = In-map (part_of p same_id) (exported p same_id) id i in
              subst HasValue m.2 (valued_done p same_id identity k.s.tree (tree_is p k.s)
              k.s.header k.s.index (header_is p k.s) (index_is p k.s) (part_of p same_id)
              (part_item p same_id identity) (p.numbers k.s.index) parts valued m.0 (in_index p k.s
              m.0 m.1));
          more_is = outlines_read p same_id identity k.s.tree (tree_is p k.s) k.s.header
              k.s.index (header_is p k.s) (index_is p k.s) k.d.flats (flats_are p k.s k.d)
              k.o.order (order_is p k.s k.d k.o) parts valued;
        }
    finds TheVariations (with_data variations) is =
        let valued = all_varied p same_id identity k.s.tree (tree_is p k.s) k.s.header k.s.index
        (header_is p k.s) (index_is p k.s) (p.numbers k.s.index) k.d.flats variations
        (flats_are p k.s k.d) is in
        let known = varied_are p same_id identity k.s.tree (tree_is p k.s) k.s.header k.s.index
        (header_is p k.s) (index_is p k.s) in
        record {
          done = λ id i. let m = In-map job.Variations (varied p same_id) id i in
              subst HasValue m.2 (valued_done p same_id identity k.s.tree (tree_is p k.s)
              k.s.header k.s.index (header_is p k.s) (index_is p k.s) job.Variations (λ glyph.
              an.Variations)
              (varied_of (p.is_variable k.s.header) (p.numbers k.s.index)) variations valued m.0
              (subst (λ ns. In m.0 ns) (sym known) m.1));
          more_is = variations_read p same_id identity k.s.tree (tree_is p k.s) k.s.header
              k.s.index (header_is p k.s) (index_is p k.s) k.d.flats (flats_are p k.s k.d)
              k.o.order (order_is p k.s k.d k.o) variations valued;
        }
    finds _ _ is = absurd is

    -- and so its value is what is made of it
    made_of : (tag : Tag) (more : Extra p.Index p.Measures p.Data)
        → IsExtraOf p k.s.header k.s.index k.d.flats k.o.order (p.needs tag) more
        → table_value p same_id tag
        ≡ plain_of p same_id identity an.Table (p.table tag k.s.header k.o.order more)
    made_of tag more is =
        let f = finds (p.needs tag) more is in
        table_so p k tag more (all_from p same_id identity
        (job.Header ∷ job.Order ∷ needed (part_ids p same_id) (varied p same_id) (p.needs tag)) (λ
        id i. elim i [
          | inl e ↦ subst HasValue e (is_done_by p same_id identity (header_value p same_id)
              (an.Header k.s.header) (header_is p k.s))
          | inr i ↦ elim i [
            | inl e ↦ subst HasValue e (order_made k)
            | inr i ↦ f.done id i
          ]
        ])) f.more_is

  table_refused : (tag : Tag) (r : Refusal) → TableFails p tag r → Fails p (job.Table tag) r
  table_refused tag r f =
      let g = f.of_glyphs in
      let k = in_order_of f.header g.index g.flats f.order g.in_order in
      record {
        there = (f.there, order_made k);
        refused = inl (refused_by_part p an.Table (p.table tag f.header f.order f.more)
            (table_value p same_id tag) r (made_of k tag f.more g.is_extra) f.refused);
      }

  table_is : (tag : Tag) (made : p.Table) → IsTableOf p tag made
      → table_value p same_id tag ≡ Done (an.Table made)
  table_is tag made t =
      let g = t.of_glyphs in
      let k = in_order_of t.header g.index g.flats t.order g.in_order in
      of_answer p same_id identity an.Table (p.table tag t.header t.order t.more)
      (table_value p same_id tag) made (made_of k tag t.more g.is_extra) t.table_made

  module _ (k : InOrder p) where
    abbrev ValuedTables : List Tag → List p.Table → Type 0
    ValuedTables tags tables = Valued p same_id identity k.s.tree (tree_is p k.s) k.s.header
        k.s.index (header_is p k.s) (index_is p k.s) job.Table (λ tag. an.Table) tags tables

    tables_are : (tags : List Tag) (tables : List p.Table) → AreTablesOf p tags tables
        → ValuedTables tags tables
    unfolding Valued
    tables_are [] [] t = tt
    tables_are [] (made ∷ tables) t = absurd t
    tables_are (tag ∷ tags) [] t = absurd t
    tables_are (tag ∷ tags) (made ∷ tables) t = (table_is tag made t.0, tables_are tags tables t.1)

  font_refused : (r : Refusal) → FontFails p r → Fails p job.Font r
  font_refused r f =
      let k = in_order_of f.header f.index f.flats f.order f.in_order in
      record {
        there = order_made k;
        refused = inl (refused_by_part p an.Font (p.font f.tables) (font_value p same_id) r
            (font_by p same_id identity k.s.tree (tree_is p k.s) k.s.header k.s.index
            (header_is p k.s) (index_is p k.s) f.tables (tables_are k p.tags f.tables
            f.tables_made)) f.refused);
      }

  pub by_fails : (id : JobId) (r : Refusal) → FailsBy p id r → Fails p id r
  by_fails job.Tree r f = record {
    there = tt;
    refused = inl (refused_by_part p an.Tree p.tree (tree_value p same_id) r
        (tree_by p same_id identity) f);
  }
  by_fails job.Header r f = header_refused r f
  by_fails job.Index r f = index_refused r f
  by_fails (job.Raw glyph) r f = raw_refused glyph r f
  by_fails (job.Flat glyph) r f = flat_refused glyph r f
  by_fails (job.Simple glyph) r f = simple_refused glyph r f
  by_fails (job.Composite glyph) r f = composite_refused glyph r f
  by_fails (job.Variations glyph) r f = variations_refused glyph r f
  by_fails job.Order r f = order_refused r f
  by_fails job.Advances r f = advances_refused r f
  by_fails (job.Table tag) r f = table_refused tag r f
  by_fails job.Font r f = font_refused r f
  by_fails _ r f = absurd f
