-- What a job of a source's graph finds where it is run: each item that it reads is there, and is
-- what its part answered. And what comes of the job by its part. For the plans of crates above.
-- fontc's own.
use Rattle.std.proofs.Common.{◌≡◌, ℕ, Bool, true, false, inl, inr, List, [], ◌∷◌, map, Option}
use Rattle.std.proofs.Common.{Some, Ok, refl, sym, ap, ◌∙◌, subst}
use Rattle.std.specs.Prelude.{IsSome, ◌&&◌, option_and_then}
use Rattle.access_context.specs.Plain.{Plain, Done, is_done, done_value}
use Rattle.access_context.specs.Read.{all_done}
use Rattle.font_ir.specs.declared.tag.Tag.{Tag}
use Rattle.job_graph.specs.Rounds.{IsDue}
use Rattle.job_graph.specs.Members.{In, list_all-In}
use Rattle.font_graph.specs.Parts.{Parts, Needs, Nothing, TheIndex, TheMeasures}
use Rattle.font_graph.specs.Parts.{TheMeasuresAndIndex, TheOutlines, TheVariations, Extra}
use Rattle.font_graph.specs.Parts.{nothing, with_index, with_measures, with_both, with_data}
use Rattle.font_graph.specs.Fonts.{AllDrawn, DrawnSo}
use Rattle.font_graph.specs.Fonts.{AreInOrder, IsExtraOf, IsOfGlyphs, IsTableOf, AreTablesOf}
use Rattle.font_graph.specs.Graph.{Item, as_tree, as_header, as_index, as_raw, as_flat, as_order}
use Rattle.font_graph.specs.Graph.{as_measures, as_table, needed, of_index}
use Rattle.font_graph.specs.Graph.{of_order, settle, none, outcome, extra_read}
use Rattle.font_graph.specs.Graph.{read_as, read_all, reads_with, numbers, exported, varied}
use Rattle.font_graph.specs.Graph.{value_of, plan, tree_value}
use Rattle.font_graph.specs.Graph.{flat_value, advances_value, table_value}
use Rattle.font_graph.specs.Graph.{after_index, after_raw, after_flat, after_order, all_in, bases}
use Rattle.font_graph.specs.Graph.{Reached, kind_of, part_of, part_ids}
use Rattle.font_graph.specs.Outcomes.{items, map-In, with_value, reads_done}
use Rattle.font_graph.specs.Outcomes.{value}
use Rattle.font_graph.specs.Solved.{numbers_are, varied_in, raw_done, reached_there}
use Rattle.font_graph.specs.Made.{on_some, answered, plain_of, read_is, tree_by, raw_by, flat_by}
use Rattle.font_graph.specs.Made.{Valued, read_all_is, varied_are, index_needed, measures_needed}
use Rattle.font_graph.specs.Made.{both_needed, outlines_read, variations_read, table_from}
use Rattle.font_graph.specs.Made.{all_written, all_varied, writings, varyings, drawings, bases_are}
use Rattle.font_graph.specs.Made.{kind_is}
use Rattle.font_graph.specs.PartRefusals.{source_made, raw_source, all_drawn, advances_so, InOrder}
use Rattle.font_graph.specs.PartRefusals.{in_order, raw_made, flat_made, FlatMade}
use Rattle.font_graph.specs.Values.{Source, tree_is, header_is, index_is, Drawn, flats_are}
use Rattle.font_graph.specs.Values.{order_is}
use Rattle.font_graph.specs.Same.{same_id, identity}
use Rattle.font_graph.specs.Due.{due}
use Rattle.font_graph.specs.declared.ids.JobId.{JobId}
use Rattle.font_graph.specs.declared.ids.JobId.TheVariants as job
use Rattle.font_graph.specs.declared.items.Item.TheVariants as an

-- what is read is what is known to be read
as_read : {A : Type 0} (P : A → Type 0) (o : Option A) (a b : A) → o ≡ Some a → o ≡ Some b → P a
    → P b
as_read P o a b e f holds = subst P (same (sym e ∙ f)) holds
  where
    same : Some a ≡ Some b → a ≡ b
    same g = cc

some_read : {A : Type 0} (o : Option A) (a : A) → o ≡ Some a → IsSome o
some_read o a e = subst IsSome (sym e) refl

module _ (p : Parts) where
  abbrev pub Reads : Type 0
  Reads = List (JobId × Plain (Item p))

  -- ---- what is read, by kinds

  abbrev pub tree_read : Reads → Option p.Tree
  tree_read reads = read_as p same_id (as_tree p) reads job.Tree

  abbrev pub header_read : Reads → Option p.Header
  header_read reads = read_as p same_id (as_header p) reads job.Header

  abbrev pub index_read : Reads → Option p.Index
  index_read reads = read_as p same_id (as_index p) reads job.Index

  abbrev pub raw_read : ℕ → Reads → Option p.Raw
  raw_read glyph reads = read_as p same_id (as_raw p) reads (job.Raw glyph)

  abbrev pub flat_read : ℕ → Reads → Option p.Flat
  flat_read glyph reads = read_as p same_id (as_flat p) reads (job.Flat glyph)

  abbrev pub order_read : Reads → Option p.Order
  order_read reads = read_as p same_id (as_order p) reads job.Order

  abbrev pub measures_read : Reads → Option p.Measures
  measures_read reads = read_as p same_id (as_measures p) reads job.Advances

  abbrev pub flats_read : List ℕ → Reads → Option (List p.Flat)
  flats_read glyphs reads = read_all p same_id (as_flat p) reads (map job.Flat glyphs)

  -- what a table of these needs reads
  abbrev pub more_read : Needs → Reads → Option (Extra p.Index p.Measures p.Data)
  more_read needs reads = extra_read p same_id reads needs

  abbrev pub tables_read : Reads → Option (List p.Table)
  tables_read reads = read_all p same_id (as_table p) reads (map job.Table p.tags)

  -- ---- what comes of a job by what it reads

  pub header_runs : (reads : Reads) (tree : p.Tree) → tree_read reads ≡ Some tree
      → outcome p same_id job.Header reads
      ≡ settle p same_id an.Header (none p same_id) (p.header tree)
  header_runs reads tree a = on_some p same_id identity _ _ tree a

  pub index_runs : (reads : Reads) (tree : p.Tree) → tree_read reads ≡ Some tree
      → outcome p same_id job.Index reads
      ≡ settle p same_id an.Index (λ index. after_index p same_id (of_index p same_id index))
      (p.index tree)
  index_runs reads tree a = on_some p same_id identity _ _ tree a

  pub raw_runs : (glyph : ℕ) (reads : Reads) (tree : p.Tree) (header : p.Header) (index : p.Index)
      → tree_read reads ≡ Some tree → header_read reads ≡ Some header
      → index_read reads ≡ Some index
      → outcome p same_id (job.Raw glyph) reads
      ≡ settle p same_id an.Raw (λ raw. after_raw p same_id
      (p.is_variable header && p.is_exported index glyph) (p.bases raw index) glyph)
      (p.raw tree header index glyph)
  raw_runs glyph reads tree header index a b c = on_some p same_id identity _ _ tree a
      ∙ on_some p same_id identity _ _ header b ∙ on_some p same_id identity _ _ index c

  pub flat_runs : (glyph : ℕ) (reads : Reads) (raw : p.Raw) (index : p.Index) (flats : List p.Flat)
      → raw_read glyph reads ≡ Some raw → index_read reads ≡ Some index
      → flats_read (p.bases raw index) reads ≡ Some flats
      → outcome p same_id (job.Flat glyph) reads
      ≡ settle p same_id an.Flat (λ flat. after_flat p same_id (p.is_exported index glyph)
      (p.is_composite flat) glyph) (p.flat raw index flats)
  flat_runs glyph reads raw index flats a b c = on_some p same_id identity _ _ raw a
      ∙ on_some p same_id identity _ _ index b ∙ on_some p same_id identity _ _ flats c

  pub composite_runs : (glyph : ℕ) (reads : Reads) (header : p.Header) (order : p.Order)
      (flat : p.Flat) → header_read reads ≡ Some header → order_read reads ≡ Some order
      → flat_read glyph reads ≡ Some flat
      → outcome p same_id (job.Composite glyph) reads
      ≡ settle p same_id an.Composite (none p same_id) (p.composite header order flat)
  composite_runs glyph reads header order flat a b c = on_some p same_id identity _ _ header a
      ∙ on_some p same_id identity _ _ order b ∙ on_some p same_id identity _ _ flat c

  pub simple_runs : (glyph : ℕ) (reads : Reads) (header : p.Header) (flat : p.Flat)
      → header_read reads ≡ Some header → flat_read glyph reads ≡ Some flat
      → outcome p same_id (job.Simple glyph) reads
      ≡ settle p same_id an.Simple (none p same_id) (p.simple header flat)
  simple_runs glyph reads header flat a b = on_some p same_id identity _ _ header a
      ∙ on_some p same_id identity _ _ flat b

  pub variations_runs : (glyph : ℕ) (reads : Reads) (header : p.Header) (index : p.Index)
      (flat : p.Flat) → header_read reads ≡ Some header → index_read reads ≡ Some index
      → flat_read glyph reads ≡ Some flat
      → outcome p same_id (job.Variations glyph) reads
      ≡ settle p same_id an.Variations (none p same_id) (p.variations header index flat)
  variations_runs glyph reads header index flat a b c = on_some p same_id identity _ _ header a
      ∙ on_some p same_id identity _ _ index b ∙ on_some p same_id identity _ _ flat c

  pub order_runs : (reads : Reads) (header : p.Header) (index : p.Index) (flats : List p.Flat)
      → header_read reads ≡ Some header → index_read reads ≡ Some index
      → flats_read (p.numbers index) reads ≡ Some flats
      → outcome p same_id job.Order reads
      ≡ settle p same_id an.Order
      (λ order. after_order p same_id (of_order p same_id header (p.numbers index) flats))
      (p.order header index flats)
  order_runs reads header index flats a b c = on_some p same_id identity _ _ header a
      ∙ on_some p same_id identity _ _ index b ∙ on_some p same_id identity _ _ flats c

  pub advances_runs : (reads : Reads) (header : p.Header) (order : p.Order) (flats : List p.Flat)
      → header_read reads ≡ Some header → order_read reads ≡ Some order
      → flats_read (p.ordered order) reads ≡ Some flats
      → outcome p same_id job.Advances reads
      ≡ settle p same_id an.Advances (none p same_id) (p.measures header order flats)
  advances_runs reads header order flats a b c = on_some p same_id identity _ _ header a
      ∙ on_some p same_id identity _ _ order b ∙ on_some p same_id identity _ _ flats c

  pub table_runs : (tag : Tag) (reads : Reads) (header : p.Header) (order : p.Order)
      (more : Extra p.Index p.Measures p.Data) → header_read reads ≡ Some header
      → order_read reads ≡ Some order → more_read (p.needs tag) reads ≡ Some more
      → outcome p same_id (job.Table tag) reads
      ≡ settle p same_id an.Table (none p same_id) (p.table tag header order more)
  table_runs tag reads header order more a b c = on_some p same_id identity _ _ header a
      ∙ on_some p same_id identity _ _ order b ∙ on_some p same_id identity _ _ more c

  pub font_runs : (reads : Reads) (tables : List p.Table) → tables_read reads ≡ Some tables
      → outcome p same_id job.Font reads
      ≡ settle p same_id an.Font (none p same_id) (p.font tables)
  font_runs reads tables a = on_some p same_id identity _ _ tables a

  -- ---- what the values below are

  done_of : (id : JobId) → all_done (items p same_id id) ≡ true → (read : JobId)
      → In read (reads_with p same_id (numbers p same_id) id)
      → is_done (value_of p same_id read) ≡ true
  done_of id done read there = list_all-In (λ (item : JobId × Plain (Item p)). is_done item.1)
      (items p same_id id) (with_value p same_id read) done
      (map-In (with_value p same_id) (reads_with p same_id (numbers p same_id) id) read there)

  -- the source's three, of a job that reads them
  tree_known : (s : Source p) (id : JobId)
      → In job.Tree (reads_with p same_id (numbers p same_id) id)
      → tree_read (items p same_id id) ≡ Some s.tree
  tree_known s id there = read_is p same_id identity (as_tree p)
      (reads_with p same_id (numbers p same_id) id) job.Tree (an.Tree s.tree) s.tree there (tree_is
      p s)
      refl

  header_known : (s : Source p) (id : JobId)
      → In job.Header (reads_with p same_id (numbers p same_id) id)
      → header_read (items p same_id id) ≡ Some s.header
  header_known s id there = read_is p same_id identity (as_header p)
      (reads_with p same_id (numbers p same_id) id) job.Header (an.Header s.header) s.header there
      (header_is p s) refl

  index_known : (s : Source p) (id : JobId)
      → In job.Index (reads_with p same_id (numbers p same_id) id)
      → index_read (items p same_id id) ≡ Some s.index
  index_known s id there = read_is p same_id identity (as_index p)
      (reads_with p same_id (numbers p same_id) id) job.Index (an.Index s.index) s.index there
      (index_is p s) refl

  from_numbers : (s : Source p) (glyph : ℕ) → In glyph (exported p same_id)
      → In glyph (p.numbers s.index)
  from_numbers s glyph i = subst (λ ns. In glyph ns)
      (sym (numbers_are p same_id s.index (index_is p s))) i

  into_numbers : (s : Source p) (glyph : ℕ) → In glyph (p.numbers s.index)
      → In glyph (exported p same_id)
  into_numbers s glyph i = subst (λ ns. In glyph ns) (numbers_are p same_id s.index (index_is p s))
      i

  -- what is reached is a glyph of the index
  in_all : (s : Source p) (glyph : ℕ) → Reached p same_id glyph → In glyph (p.all s.index)
  in_all s glyph reached = subst (λ o. In glyph (all_in p same_id o))
      (ap (λ v. option_and_then (as_index p) (done_value v)) (index_is p s))
      (reached_there p same_id glyph reached)

  abbrev Due : JobId → Reads → Type 0
  Due id reads = IsDue same_id (plan p same_id) id reads

  -- ---- what each job finds

  pub record TreeFound (reads : Reads) : Type 0 where
    pub tree : IsSome (tree_read reads)

  found_tree : (id : JobId) → In job.Tree (reads_with p same_id (numbers p same_id) id)
      → all_done (items p same_id id) ≡ true → TreeFound (items p same_id id)
  found_tree id there done =
      let tree = answered p same_id identity an.Tree p.tree (tree_value p same_id)
      (tree_by p same_id identity) (done_of id done job.Tree there) in
      record {
        tree = some_read (tree_read (items p same_id id)) tree.0
            (read_is p same_id identity (as_tree p) (reads_with p same_id (numbers p same_id) id)
            job.Tree (an.Tree tree.0) tree.0 there tree.2 refl);
      }

  pub header_finds : (reads : Reads) → Due job.Header reads → all_done reads ≡ true
      → TreeFound reads
  header_finds reads d done =
      let is = (due p job.Header reads d).1 in
      subst TreeFound (sym is)
      (found_tree job.Header (inl refl) (subst (λ rs. all_done rs ≡ true) is done))

  pub index_finds : (reads : Reads) → Due job.Index reads → all_done reads ≡ true
      → TreeFound reads
  index_finds reads d done =
      let is = (due p job.Index reads d).1 in
      subst TreeFound (sym is)
      (found_tree job.Index (inl refl) (subst (λ rs. all_done rs ≡ true) is done))

  pub record RawFound (glyph : ℕ) (reads : Reads) : Type 0 where
    pub tree : IsSome (tree_read reads)
    pub header : IsSome (header_read reads)
    pub index : IsSome (index_read reads)
    pub header_is : (t : p.Tree) (h : p.Header) → tree_read reads ≡ Some t
        → header_read reads ≡ Some h → p.header t ≡ Ok h
    pub index_is : (t : p.Tree) (i : p.Index) → tree_read reads ≡ Some t
        → index_read reads ≡ Some i → p.index t ≡ Ok i
    pub glyph_is : (i : p.Index) → index_read reads ≡ Some i → In glyph (p.all i)

  pub raw_finds : (glyph : ℕ) (reads : Reads) → Due (job.Raw glyph) reads
      → all_done reads ≡ true → RawFound glyph reads
  raw_finds glyph reads d done =
      let id = job.Raw glyph in
      let known = due p id reads d in
      let all : all_done (items p same_id id) ≡ true
      = subst (λ rs. all_done rs ≡ true) known.1 done in
      let s = source_made p (done_of id all job.Header (inr (inl refl)))
      (done_of id all job.Index (inr (inr (inl refl)))) in
      let tree = tree_known s id (inl refl) in
      let header = header_known s id (inr (inl refl)) in
      let index = index_known s id (inr (inr (inl refl))) in
      subst (RawFound glyph) (sym known.1) (record {
        tree = some_read (tree_read (items p same_id id)) s.tree tree;
        header = some_read (header_read (items p same_id id)) s.header header;
        index = some_read (index_read (items p same_id id)) s.index index;
        header_is = λ t h a b. as_read (λ t. p.header t ≡ Ok h) (tree_read (items p same_id id))
            s.tree t tree a (as_read (λ h. p.header s.tree ≡ Ok h)
            (header_read (items p same_id id)) s.header h header b s.header_read);
        index_is = λ t i a b. as_read (λ t. p.index t ≡ Ok i) (tree_read (items p same_id id))
            s.tree t tree a (as_read (λ i. p.index s.tree ≡ Ok i)
            (index_read (items p same_id id)) s.index i index b s.index_read);
        glyph_is = λ i a. as_read (λ i. In glyph (p.all i)) (index_read (items p same_id id))
            s.index i index a (in_all s glyph known.0);
      })

  -- a glyph was read so, of this index
  pub record IsReadOf (index : p.Index) (glyph : ℕ) (raw : p.Raw) : Type 0 where
    pub tree : p.Tree
    pub header : p.Header
    pub header_made : p.header tree ≡ Ok header
    pub index_made : p.index tree ≡ Ok index
    pub raw_made : p.raw tree header index glyph ≡ Ok raw

  -- and its bases were drawn so
  pub record HasBasesOf (index : p.Index) (glyph : ℕ) (raw : p.Raw) (flats : List p.Flat)
      : Type 0 where
    pub tree : p.Tree
    pub header : p.Header
    pub header_made : p.header tree ≡ Ok header
    pub index_made : p.index tree ≡ Ok index
    pub raw_made : p.raw tree header index glyph ≡ Ok raw
    pub bases_drawn : AllDrawn p tree header index (p.bases raw index) flats

  pub record FlatFound (glyph : ℕ) (reads : Reads) : Type 0 where
    pub raw : IsSome (raw_read glyph reads)
    pub index : IsSome (index_read reads)
    pub flats : (r : p.Raw) (i : p.Index) → raw_read glyph reads ≡ Some r
        → index_read reads ≡ Some i → IsSome (flats_read (p.bases r i) reads)
    pub glyph_is : (i : p.Index) → index_read reads ≡ Some i → In glyph (p.all i)
    pub raw_is : (r : p.Raw) (i : p.Index) → raw_read glyph reads ≡ Some r
        → index_read reads ≡ Some i → IsReadOf i glyph r
    pub flats_are : (r : p.Raw) (i : p.Index) (fs : List p.Flat) → raw_read glyph reads ≡ Some r
        → index_read reads ≡ Some i → flats_read (p.bases r i) reads ≡ Some fs
        → HasBasesOf i glyph r fs

  pub flat_finds : (glyph : ℕ) (reads : Reads) → Due (job.Flat glyph) reads
      → all_done reads ≡ true → FlatFound glyph reads
  flat_finds glyph reads d done =
      let id = job.Flat glyph in
      let known = due p id reads d in
      let rs = items p same_id id in
      let all : all_done rs ≡ true = subst (λ rs. all_done rs ≡ true) known.1 done in
      let raw_done = done_of id all (job.Raw glyph) (inl refl) in
      let s = raw_source p glyph raw_done in
      let made = raw_made p s glyph raw_done in
      let raw : raw_read glyph rs ≡ Some made.0
      = read_is p same_id identity (as_raw p) (reads_with p same_id (numbers p same_id) id)
      (job.Raw glyph) (an.Raw made.0) made.0 (inl refl) made.2 refl in
      let index = index_known s id (inr (inl refl)) in
      let there : (base : ℕ) → In base (p.bases made.0 s.index)
      → In (job.Flat base) (reads_with p same_id (numbers p same_id) id)
      = λ base i. inr (inr (map-In job.Flat (bases p same_id glyph) base
      (subst (λ bs. In base bs) (sym (bases_are p same_id identity s.tree (tree_is p s) s.header
      s.index (header_is p s) (index_is p s) glyph made.0 made.2)) i))) in
      let below = drawings p same_id identity s.tree (tree_is p s) s.header s.index
      (header_is p s) (index_is p s) (p.bases made.0 s.index)
      (λ base i. done_of id all (job.Flat base) (there base i)) in
      let flats : flats_read (p.bases made.0 s.index) rs ≡ Some below.flats
      = read_all_is p same_id identity s.tree (tree_is p s) s.header s.index (header_is p s)
      (index_is p s) (as_flat p) id job.Flat (λ base. an.Flat) (λ base flat. refl)
      (p.bases made.0 s.index) below.flats
      (Rattle.font_graph.specs.Made.all_drawn p same_id identity s.tree (tree_is p s) s.header
      s.index (header_is p s) (index_is p s) (p.bases made.0 s.index) below.flats below.drawn_are)
      there in
      let is : IsReadOf s.index glyph made.0 = record {
        tree = s.tree;
        header = s.header;
        header_made = s.header_read;
        index_made = s.index_read;
        raw_made = made.1;
      } in
      let has : HasBasesOf s.index glyph made.0 below.flats = record {
        tree = s.tree;
        header = s.header;
        header_made = s.header_read;
        index_made = s.index_read;
        raw_made = made.1;
        bases_drawn = below.drawn_are;
      } in
      subst (FlatFound glyph) (sym known.1) (record {
        raw = some_read (raw_read glyph rs) made.0 raw;
        index = some_read (index_read rs) s.index index;
        flats = λ r i a b. as_read (λ r. IsSome (flats_read (p.bases r i) rs))
            (raw_read glyph rs) made.0 r raw a
            (as_read (λ i. IsSome (flats_read (p.bases made.0 i) rs)) (index_read rs) s.index i
            index b (some_read (flats_read (p.bases made.0 s.index) rs) below.flats flats));
        glyph_is = λ i a. as_read (λ i. In glyph (p.all i)) (index_read rs) s.index i index a
            (in_all s glyph known.0.0);
        raw_is = λ r i a b. as_read (λ r. IsReadOf i glyph r) (raw_read glyph rs) made.0 r raw a
            (as_read (λ i. IsReadOf i glyph made.0) (index_read rs) s.index i index b is);
        flats_are = λ r i fs a b e.
            as_read (λ r. (fs : List p.Flat) → flats_read (p.bases r i) rs ≡ Some fs
            → HasBasesOf i glyph r fs) (raw_read glyph rs) made.0 r raw a
            (as_read (λ i. (fs : List p.Flat) → flats_read (p.bases made.0 i) rs ≡ Some fs
            → HasBasesOf i glyph made.0 fs) (index_read rs) s.index i index b
            (λ fs f. as_read (λ fs. HasBasesOf s.index glyph made.0 fs)
            (flats_read (p.bases made.0 s.index) rs) below.flats fs flats f has)) fs e;
      })

  -- a glyph was drawn so, of this header
  pub record IsDrawnOf (header : p.Header) (flat : p.Flat) : Type 0 where
    pub tree : p.Tree
    pub index : p.Index
    pub glyph : ℕ
    pub header_made : p.header tree ≡ Ok header
    pub index_made : p.index tree ≡ Ok index
    pub drawn_so : DrawnSo p tree header index glyph flat

  pub record SimpleFound (glyph : ℕ) (reads : Reads) : Type 0 where
    pub header : IsSome (header_read reads)
    pub flat : IsSome (flat_read glyph reads)
    pub flat_is : (h : p.Header) (f : p.Flat) → header_read reads ≡ Some h
        → flat_read glyph reads ≡ Some f → IsDrawnOf h f
    pub is_simple : (f : p.Flat) → flat_read glyph reads ≡ Some f → p.is_composite f ≡ false

  -- a flat glyph is of the kind of the job of its data
  same_kind : (a b : Bool) → ◌≡◌ {A = Option Bool} (Some a) (Some b) → a ≡ b
  same_kind a b e = cc

  pub kind_so : (glyph : ℕ) (flat : p.Flat) (kind : Bool)
      → flat_value p same_id glyph ≡ Done (an.Flat flat) → kind_of p same_id glyph ≡ Some kind
      → p.is_composite flat ≡ kind
  kind_so glyph flat kind is e = same_kind (p.is_composite flat) kind
      (sym (kind_is p same_id identity glyph flat is) ∙ e)

  drawing : (s : Source p) (glyph : ℕ) → is_done (flat_value p same_id glyph) ≡ true
      → FlatMade p s glyph
  drawing s glyph done = flat_made p s glyph done

  drawing_of : (s : Source p) (glyph : ℕ) (d : FlatMade p s glyph) → IsDrawnOf s.header d.0
  drawing_of s glyph d = record {
    tree = s.tree;
    index = s.index;
    glyph = glyph;
    header_made = s.header_read;
    index_made = s.index_read;
    drawn_so = d.1;
  }

  pub simple_finds : (glyph : ℕ) (reads : Reads) → Due (job.Simple glyph) reads
      → all_done reads ≡ true → SimpleFound glyph reads
  simple_finds glyph reads d done =
      let id = job.Simple glyph in
      let known = due p id reads d in
      let all : all_done (items p same_id id) ≡ true
      = subst (λ rs. all_done rs ≡ true) known.1 done in
      let flat_done = done_of id all (job.Flat glyph) (inr (inl refl)) in
      let s = raw_source p glyph (raw_done p same_id identity glyph flat_done) in
      let made = drawing s glyph flat_done in
      let header = header_known s id (inl refl) in
      let flat : flat_read glyph (items p same_id id) ≡ Some made.0
      = read_is p same_id identity (as_flat p) (reads_with p same_id (numbers p same_id) id)
      (job.Flat glyph) (an.Flat made.0) made.0 (inr (inl refl)) made.2 refl in
      subst (SimpleFound glyph) (sym known.1) (record {
        header = some_read (header_read (items p same_id id)) s.header header;
        flat = some_read (flat_read glyph (items p same_id id)) made.0 flat;
        flat_is = λ h f a b. as_read (λ h. IsDrawnOf h f) (header_read (items p same_id id))
            s.header h header a (as_read (λ f. IsDrawnOf s.header f)
            (flat_read glyph (items p same_id id)) made.0 f flat b (drawing_of s glyph made));
        is_simple = λ f a. as_read (λ f. p.is_composite f ≡ false)
            (flat_read glyph (items p same_id id)) made.0 f flat a
            (kind_so glyph made.0 false made.2 known.0.1);
      })

  -- a glyph was drawn so, of this header and this index
  pub record IsDrawnIn (header : p.Header) (index : p.Index) (flat : p.Flat) : Type 0 where
    pub tree : p.Tree
    pub glyph : ℕ
    pub header_made : p.header tree ≡ Ok header
    pub index_made : p.index tree ≡ Ok index
    pub glyph_is : In glyph (p.numbers index)
    pub drawn_so : DrawnSo p tree header index glyph flat

  pub record VariationsFound (glyph : ℕ) (reads : Reads) : Type 0 where
    pub header : IsSome (header_read reads)
    pub index : IsSome (index_read reads)
    pub flat : IsSome (flat_read glyph reads)
    pub flat_is : (h : p.Header) (i : p.Index) (f : p.Flat) → header_read reads ≡ Some h
        → index_read reads ≡ Some i → flat_read glyph reads ≡ Some f → IsDrawnIn h i f

  pub variations_finds : (glyph : ℕ) (reads : Reads) → Due (job.Variations glyph) reads
      → all_done reads ≡ true → VariationsFound glyph reads
  variations_finds glyph reads d done =
      let id = job.Variations glyph in
      let known = due p id reads d in
      let all : all_done (items p same_id id) ≡ true
      = subst (λ rs. all_done rs ≡ true) known.1 done in
      let flat_done = done_of id all (job.Flat glyph) (inr (inr (inl refl))) in
      let s = raw_source p glyph (raw_done p same_id identity glyph flat_done) in
      let made = drawing s glyph flat_done in
      let header = header_known s id (inl refl) in
      let index = index_known s id (inr (inl refl)) in
      let flat : flat_read glyph (items p same_id id) ≡ Some made.0
      = read_is p same_id identity (as_flat p) (reads_with p same_id (numbers p same_id) id)
      (job.Flat glyph) (an.Flat made.0) made.0 (inr (inr (inl refl))) made.2 refl in
      let is : IsDrawnIn s.header s.index made.0 = record {
        tree = s.tree;
        glyph = glyph;
        header_made = s.header_read;
        index_made = s.index_read;
        glyph_is = from_numbers s glyph (varied_in p same_id glyph known.0.0).0;
        drawn_so = made.1;
      } in
      subst (VariationsFound glyph) (sym known.1) (record {
        header = some_read (header_read (items p same_id id)) s.header header;
        index = some_read (index_read (items p same_id id)) s.index index;
        flat = some_read (flat_read glyph (items p same_id id)) made.0 flat;
        flat_is = λ h i f a b c. as_read (λ h. IsDrawnIn h i f)
            (header_read (items p same_id id)) s.header h header a
            (as_read (λ i. IsDrawnIn s.header i f) (index_read (items p same_id id)) s.index i
            index b (as_read (λ f. IsDrawnIn s.header s.index f)
            (flat_read glyph (items p same_id id)) made.0 f flat c is));
      })

  -- ---- jobs that read all glyphs

  -- all flat glyphs, of a job that reads them
  flats_known : (s : Source p) (g : Drawn p s) (id : JobId)
      → ((glyph : ℕ) → In glyph (exported p same_id)
      → In (job.Flat glyph) (reads_with p same_id (numbers p same_id) id))
      → flats_read (p.numbers s.index) (items p same_id id) ≡ Some g.flats
  flats_known s g id there = read_all_is p same_id identity s.tree (tree_is p s) s.header s.index
      (header_is p s) (index_is p s) (as_flat p) id job.Flat (λ glyph. an.Flat)
      (λ glyph flat. refl) (p.numbers s.index)
      g.flats (flats_are p s g) (λ n i. there n (into_numbers s n i))

  pub record OrderFound (reads : Reads) : Type 0 where
    pub header : IsSome (header_read reads)
    pub index : IsSome (index_read reads)
    pub flats : (i : p.Index) → index_read reads ≡ Some i → IsSome (flats_read (p.numbers i) reads)

  pub order_finds : (reads : Reads) → Due job.Order reads → all_done reads ≡ true
      → OrderFound reads
  order_finds reads d done =
      let id = job.Order in
      let known = due p id reads d in
      let all : all_done (items p same_id id) ≡ true
      = subst (λ rs. all_done rs ≡ true) known.1 done in
      let s = source_made p (done_of id all job.Header (inl refl))
      (done_of id all job.Index (inr (inl refl))) in
      let there : (glyph : ℕ) → In glyph (exported p same_id)
      → In (job.Flat glyph) (reads_with p same_id (numbers p same_id) id)
      = λ n i. inr (inr (map-In job.Flat (exported p same_id) n i)) in
      let d = all_drawn p s (λ n i. done_of id all (job.Flat n) (there n i)) in
      let header = header_known s id (inl refl) in
      let index = index_known s id (inr (inl refl)) in
      let flats = flats_known s d id there in
      subst OrderFound (sym known.1) (record {
        header = some_read (header_read (items p same_id id)) s.header header;
        index = some_read (index_read (items p same_id id)) s.index index;
        flats = λ i a. as_read (λ i. IsSome (flats_read (p.numbers i) (items p same_id id)))
            (index_read (items p same_id id)) s.index i index a
            (some_read (flats_read (p.numbers s.index) (items p same_id id)) d.flats flats);
      })

  -- ---- jobs behind the order

  ordered_are : (k : InOrder p) → p.ordered k.o.order ≡ p.numbers k.s.index
  ordered_are k = p.ordered_is k.s.header k.s.index k.d.flats k.o.order k.o.glyphs_ordered

  order_known : (k : InOrder p) (id : JobId)
      → In job.Order (reads_with p same_id (numbers p same_id) id)
      → order_read (items p same_id id) ≡ Some k.o.order
  order_known k id there = read_is p same_id identity (as_order p)
      (reads_with p same_id (numbers p same_id) id) job.Order (an.Order k.o.order) k.o.order there
      (order_is p k.s k.d k.o) refl

  unfoldable pub are_in_order : (k : InOrder p) → AreInOrder p k.s.header k.s.index k.d.flats
      k.o.order
  are_in_order k = record {
    tree = k.s.tree;
    tree_read = k.s.tree_read;
    header_read = k.s.header_read;
    index_read = k.s.index_read;
    glyphs_drawn = k.d.glyphs_drawn;
    glyphs_ordered = k.o.glyphs_ordered;
  }

  -- a composite was drawn so, and its font's glyphs ordered
  pub record IsCompositeOf (header : p.Header) (order : p.Order) (flat : p.Flat) : Type 0 where
    pub index : p.Index
    pub flats : List p.Flat
    pub in_order : AreInOrder p header index flats order
    pub glyph : ℕ
    pub glyph_is : In glyph (p.numbers index)
    pub drawn_so : DrawnSo p in_order.tree header index glyph flat
    pub is_composite : p.is_composite flat ≡ true

  pub record CompositeFound (glyph : ℕ) (reads : Reads) : Type 0 where
    pub header : IsSome (header_read reads)
    pub order : IsSome (order_read reads)
    pub flat : IsSome (flat_read glyph reads)
    pub flat_is : (h : p.Header) (o : p.Order) (f : p.Flat) → header_read reads ≡ Some h
        → order_read reads ≡ Some o → flat_read glyph reads ≡ Some f → IsCompositeOf h o f

  pub composite_finds : (glyph : ℕ) (reads : Reads) → Due (job.Composite glyph) reads
      → all_done reads ≡ true → CompositeFound glyph reads
  unfolding are_in_order
  composite_finds glyph reads d done =
      let id = job.Composite glyph in
      let known = due p id reads d in
      let rs = items p same_id id in
      let all : all_done rs ≡ true = subst (λ rs. all_done rs ≡ true) known.1 done in
      let k = in_order p (done_of id all job.Order (inr (inl refl))) in
      let made = drawing k.s glyph (done_of id all (job.Flat glyph) (inr (inr (inl refl)))) in
      let header = header_known k.s id (inl refl) in
      let order = order_known k id (inr (inl refl)) in
      let flat : flat_read glyph rs ≡ Some made.0
      = read_is p same_id identity (as_flat p) (reads_with p same_id (numbers p same_id) id)
      (job.Flat glyph) (an.Flat made.0) made.0 (inr (inr (inl refl))) made.2 refl in
      let is : IsCompositeOf k.s.header k.o.order made.0 = record {
        index = k.s.index;
        flats = k.d.flats;
        in_order = are_in_order k;
        glyph = glyph;
        glyph_is = from_numbers k.s glyph known.0.0;
        drawn_so = made.1;
        is_composite = kind_so glyph made.0 true made.2 known.0.1;
      } in
      subst (CompositeFound glyph) (sym known.1) (record {
        header = some_read (header_read rs) k.s.header header;
        order = some_read (order_read rs) k.o.order order;
        flat = some_read (flat_read glyph rs) made.0 flat;
        flat_is = λ h o f a b c. as_read (λ h. IsCompositeOf h o f) (header_read rs) k.s.header h
            header a (as_read (λ o. IsCompositeOf k.s.header o f) (order_read rs) k.o.order o order
            b (as_read (λ f. IsCompositeOf k.s.header k.o.order f) (flat_read glyph rs) made.0 f
            flat c is));
      })

  abbrev IsOrderedOf : p.Header → p.Order → List p.Flat → Type 0
  IsOrderedOf header order flats = (index : p.Index) × AreInOrder p header index flats order

  pub record AdvancesFound (reads : Reads) : Type 0 where
    pub header : IsSome (header_read reads)
    pub order : IsSome (order_read reads)
    pub flats : (o : p.Order) → order_read reads ≡ Some o → IsSome (flats_read (p.ordered o) reads)
    pub flats_are : (h : p.Header) (o : p.Order) (fs : List p.Flat) → header_read reads ≡ Some h
        → order_read reads ≡ Some o → flats_read (p.ordered o) reads ≡ Some fs
        → (index : p.Index) × AreInOrder p h index fs o

  pub advances_finds : (reads : Reads) → Due job.Advances reads → all_done reads ≡ true
      → AdvancesFound reads
  advances_finds reads d done =
      let id = job.Advances in
      let known = due p id reads d in
      let k = in_order p known.0 in
      let there : (glyph : ℕ) → In glyph (exported p same_id)
      → In (job.Flat glyph) (reads_with p same_id (numbers p same_id) id)
      = λ n i. inr (inr (map-In job.Flat (exported p same_id) n i)) in
      let rs = items p same_id id in
      let header = header_known k.s id (inl refl) in
      let order = order_known k id (inr (inl refl)) in
      let flats : flats_read (p.ordered k.o.order) rs ≡ Some k.d.flats
      = ap (λ ns. flats_read ns rs) (ordered_are k) ∙ flats_known k.s k.d id there in
      let are : IsOrderedOf k.s.header k.o.order k.d.flats = (k.s.index, are_in_order k) in
      subst AdvancesFound (sym known.1) (record {
        header = some_read (header_read rs) k.s.header header;
        order = some_read (order_read rs) k.o.order order;
        flats = λ n a. as_read (λ n. IsSome (flats_read (p.ordered n) rs))
            (order_read rs) k.o.order n order a
            (some_read (flats_read (p.ordered k.o.order) rs) k.d.flats flats);
        flats_are = λ h n fs a b e.
            as_read (λ h. (fs : List p.Flat) → flats_read (p.ordered n) rs ≡ Some fs
            → IsOrderedOf h n fs) (header_read rs) k.s.header h header a
            (as_read (λ n. (fs : List p.Flat) → flats_read (p.ordered n) rs ≡ Some fs
            → IsOrderedOf k.s.header n fs) (order_read rs) k.o.order n order b
            (λ fs f. as_read (λ fs. IsOrderedOf k.s.header k.o.order fs)
            (flats_read (p.ordered k.o.order) rs) k.d.flats fs flats f are)) fs e;
      })

  -- ---- tables

  -- a job of a table finds what it needs
  pub record Found (k : InOrder p) (needs : Needs) (reads : Reads) : Type 0 where
    pub more : Extra p.Index p.Measures p.Data
    pub more_is : more_read needs reads ≡ Some more
    pub is_extra : IsExtraOf p k.s.header k.s.index k.d.flats k.o.order needs more

  module _ (k : InOrder p) where
    abbrev Measured : Type 0
    Measured = (measures : p.Measures)
        × (p.measures k.s.header k.o.order k.d.flats ≡ Ok measures)
        × (advances_value p same_id ≡ Done (an.Advances measures))

    measured : is_done (advances_value p same_id) ≡ true → Measured
    measured done = answered p same_id identity an.Advances
        (p.measures k.s.header k.o.order k.d.flats) (advances_value p same_id)
        (advances_so p k.s k.d k.o) done

    abbrev TableReads : Needs → Reads
    TableReads needs = map (with_value p same_id)
        (job.Header ∷ job.Order ∷ needed (part_ids p same_id) (varied p same_id) needs)

    abbrev HasValue : JobId → Type 0
    HasValue id = is_done (value_of p same_id id) ≡ true

    found : (needs : Needs) → ((id : JobId) → In id (needed (part_ids p same_id) (varied p same_id)
        needs)
        → HasValue id) → Found k needs (TableReads needs)
    found Nothing all = record { more = nothing; more_is = refl; is_extra = tt }
    found TheIndex all = record {
      more = with_index k.s.index;
      more_is = index_needed p same_id identity k.s.tree (tree_is p k.s) k.s.header k.s.index
          (header_is p k.s) (index_is p k.s) k.d.flats (flats_are p k.s k.d) k.o.order
          (order_is p k.s k.d k.o);
      is_extra = refl;
    }
    found TheMeasures all =
        let m = measured (all job.Advances (inl refl)) in
        record {
          more = with_measures m.0;
          more_is = measures_needed p same_id identity k.s.tree (tree_is p k.s) k.s.header k.s.index
              (header_is p k.s) (index_is p k.s) k.d.flats (flats_are p k.s k.d) k.o.order
              (order_is p k.s k.d k.o) m.0 m.2;
          is_extra = m.1;
        }
    found TheMeasuresAndIndex all =
        let m = measured (all job.Advances (inl refl)) in
        record {
          more = with_both m.0 k.s.index;
          more_is = both_needed p same_id identity k.s.tree (tree_is p k.s) k.s.header k.s.index
              (header_is p k.s) (index_is p k.s) k.d.flats (flats_are p k.s k.d) k.o.order
              (order_is p k.s k.d k.o) m.0 m.2;
          is_extra = (m.1, refl);
        }
    found TheOutlines all =
        let made = writings p same_id identity k.s.tree (tree_is p k.s) k.s.header k.s.index
        (header_is p k.s) (index_is p k.s) k.o.order (order_is p k.s k.d k.o)
        (p.numbers k.s.index) k.d.flats (flats_are p k.s k.d)
        (λ n i. all (part_of p same_id n)
        (map-In (part_of p same_id) (exported p same_id) n (into_numbers k.s n i))) in
        let valued = all_written p same_id identity k.s.tree (tree_is p k.s) k.s.header k.s.index
        (header_is p k.s) (index_is p k.s) k.o.order (order_is p k.s k.d k.o)
        (p.numbers k.s.index) k.d.flats made.parts
        (flats_are p k.s k.d) made.written_are in
        record {
          more = with_data made.parts;
          more_is = outlines_read p same_id identity k.s.tree (tree_is p k.s) k.s.header k.s.index
              (header_is p k.s) (index_is p k.s) k.d.flats (flats_are p k.s k.d) k.o.order
              (order_is p k.s k.d k.o) made.parts valued;
          is_extra = made.written_are;
        }
    found TheVariations all =
        let known = varied_are p same_id identity k.s.tree (tree_is p k.s) k.s.header k.s.index
        (header_is p k.s) (index_is p k.s) in
        let made = varyings p same_id identity k.s.tree (tree_is p k.s) k.s.header k.s.index
        (header_is p k.s) (index_is p k.s) (p.numbers k.s.index) k.d.flats (flats_are p k.s k.d)
        (λ n i. all (job.Variations n) (map-In job.Variations (varied p same_id) n
        (subst (λ ns. In n ns) known i))) in
        let valued = all_varied p same_id identity k.s.tree (tree_is p k.s) k.s.header k.s.index
        (header_is p k.s) (index_is p k.s) (p.numbers k.s.index) k.d.flats made.variations
        (flats_are p k.s k.d) made.varied_are in
        record {
          more = with_data made.variations;
          more_is = variations_read p same_id identity k.s.tree (tree_is p k.s) k.s.header k.s.index
              (header_is p k.s) (index_is p k.s) k.d.flats (flats_are p k.s k.d) k.o.order
              (order_is p k.s k.d k.o) made.variations valued;
          is_extra = made.varied_are;
        }

    pub table_found : (tag : Tag) → all_done (items p same_id (job.Table tag)) ≡ true
        → Found k (p.needs tag) (items p same_id (job.Table tag))
    table_found tag all = found (p.needs tag) (λ id i. done_of (job.Table tag) all id (inr (inr i)))

    pub table_so : (tag : Tag) (more : Extra p.Index p.Measures p.Data)
        → all_done (items p same_id (job.Table tag)) ≡ true
        → more_read (p.needs tag) (items p same_id (job.Table tag)) ≡ Some more
        → table_value p same_id tag
        ≡ plain_of p same_id identity an.Table (p.table tag k.s.header k.o.order more)
    table_so = table_from p same_id identity k.s.tree (tree_is p k.s) k.s.header k.s.index
        (header_is p k.s) (index_is p k.s) k.d.flats (flats_are p k.s k.d) k.o.order
        (order_is p k.s k.d k.o)

    pub of_glyphs : (needs : Needs) (more : Extra p.Index p.Measures p.Data)
        → IsExtraOf p k.s.header k.s.index k.d.flats k.o.order needs more
        → IsOfGlyphs p k.s.header k.o.order needs more
    of_glyphs needs more is = record {
      index = k.s.index;
      flats = k.d.flats;
      in_order = are_in_order k;
      is_extra = is;
    }

  -- the header and the order of a table, and what it is made of
  pub record TableFound (tag : Tag) (reads : Reads) : Type 0 where
    pub header : IsSome (header_read reads)
    pub order : IsSome (order_read reads)
    pub more : IsSome (more_read (p.needs tag) reads)
    pub are : (h : p.Header) (o : p.Order) (e : Extra p.Index p.Measures p.Data)
        → header_read reads ≡ Some h → order_read reads ≡ Some o
        → more_read (p.needs tag) reads ≡ Some e → IsOfGlyphs p h o (p.needs tag) e

  pub table_finds : (tag : Tag) (reads : Reads) → Due (job.Table tag) reads
      → all_done reads ≡ true → TableFound tag reads
  table_finds tag reads d done =
      let id = job.Table tag in
      let known = due p id reads d in
      let all : all_done (items p same_id id) ≡ true
      = subst (λ rs. all_done rs ≡ true) known.1 done in
      let k = in_order p known.0.1 in
      let rs = items p same_id id in
      let header = header_known k.s id (inl refl) in
      let order = order_known k id (inr (inl refl)) in
      let f = table_found k tag all in
      let n = p.needs tag in
      subst (TableFound tag) (sym known.1) (record {
        header = some_read (header_read rs) k.s.header header;
        order = some_read (order_read rs) k.o.order order;
        more = some_read (more_read n rs) f.more f.more_is;
        are = λ h o e a b c. as_read (λ h. IsOfGlyphs p h o n e) (header_read rs) k.s.header h
            header a (as_read (λ o. IsOfGlyphs p k.s.header o n e) (order_read rs) k.o.order o order
            b (as_read (λ e. IsOfGlyphs p k.s.header k.o.order n e) (more_read n rs) f.more e
            f.more_is c (of_glyphs k n f.more f.is_extra)));
      })

  record TableMade (tag : Tag) : Type 0 where
    made : p.Table
    made_is : table_value p same_id tag ≡ Done (an.Table made)
    is_table : IsTableOf p tag made

  table_made : InOrder p → (tag : Tag) → is_done (table_value p same_id tag) ≡ true
      → TableMade tag
  table_made k tag e =
      let all = reads_done p same_id (job.Table tag) (items p same_id (job.Table tag))
      (ap is_done (value p same_id (job.Table tag)) ∙ e) in
      let f = table_found k tag all in
      let made = answered p same_id identity an.Table (p.table tag k.s.header k.o.order f.more)
      (table_value p same_id tag) (table_so k tag f.more all f.more_is) e in
      record {
        made = made.0;
        made_is = made.2;
        is_table = record {
          header = k.s.header;
          order = k.o.order;
          more = f.more;
          of_glyphs = of_glyphs k (p.needs tag) f.more f.is_extra;
          table_made = made.1;
        };
      }

  pub record TablesMade (k : InOrder p) (tags : List Tag) : Type 0 where
    pub tables : List p.Table
    pub valued : Valued p same_id identity k.s.tree (tree_is p k.s) k.s.header k.s.index
        (header_is p k.s) (index_is p k.s) job.Table (λ tag. an.Table) tags tables
    pub are : AreTablesOf p tags tables

  pub tables_made : (k : InOrder p) (tags : List Tag)
      → ((tag : Tag) → In tag tags → is_done (table_value p same_id tag) ≡ true)
      → TablesMade k tags
  unfolding Valued
  tables_made k [] each = record { tables = []; valued = tt; are = tt }
  tables_made k (tag ∷ tags) each =
      let m = table_made k tag (each tag (inl refl)) in
      let more = tables_made k tags (λ t i. each t (inr i)) in
      record {
        tables = m.made ∷ more.tables;
        valued = (m.made_is, more.valued);
        are = (m.is_table, more.are);
      }

  pub record FontFound (reads : Reads) : Type 0 where
    pub tables : IsSome (tables_read reads)
    pub tables_are : (ts : List p.Table) → tables_read reads ≡ Some ts → AreTablesOf p p.tags ts

  pub font_finds : (reads : Reads) → Due job.Font reads → all_done reads ≡ true → FontFound reads
  font_finds reads d done =
      let id = job.Font in
      let known = due p id reads d in
      let all : all_done (items p same_id id) ≡ true
      = subst (λ rs. all_done rs ≡ true) known.1 done in
      let k = in_order p known.0 in
      let m = tables_made k p.tags
      (λ tag i. done_of id all (job.Table tag) (map-In job.Table p.tags tag i)) in
      let rs = items p same_id id in
      let read : tables_read rs ≡ Some m.tables = read_all_is p same_id identity k.s.tree
      (tree_is p k.s) k.s.header k.s.index (header_is p k.s) (index_is p k.s) (as_table p) id
      job.Table (λ tag. an.Table) (λ tag made. refl) p.tags m.tables m.valued
      (λ tag i. map-In job.Table p.tags tag i) in
      subst FontFound (sym known.1) (record {
        tables = some_read (tables_read rs) m.tables read;
        tables_are = λ ts a. as_read (AreTablesOf p p.tags) (tables_read rs) m.tables ts read a
            m.are;
      })
