-- Where no job of a source fails its font is made: each part is asked, and answers. Lemmas.
use Rattle.std.proofs.Common.{◌≡◌, ℕ, zero, suc, Bool, true, false, inl, inr, length}
use Rattle.std.proofs.Common.{Some, Result, Ok, Err, refl, sym, ap, ◌∙◌, subst}
use Rattle.std.specs.Prelude.{option_and_then}
use Rattle.std.proofs.lemmas.Bool.{cases_Bool}
use Rattle.refusal_codes.specs.declared.refusal.Refusal.{Refusal}
use Rattle.access_context.specs.Plain.{Done, is_done, done_value}
use Rattle.font_ir.specs.declared.tag.Tag.{Tag}
use Rattle.job_graph.specs.Members.{In}
use Rattle.font_graph.specs.Parts.{Parts}
use Rattle.font_graph.specs.Fonts.{IsFontOf}
use Rattle.font_graph.specs.Graph.{Item, settle, none, exported, varied, varied_of, value_of, There}
use Rattle.font_graph.specs.Descent.{none_at_once, ended_base}
use Rattle.font_graph.specs.Graph.{tree_value, variations_value, all, bases, is_read, is_found}
use Rattle.font_graph.specs.Graph.{is_found_within, kind_of, part_in, part_of, part_job}
use Rattle.font_graph.specs.Graph.{as_raw, as_index, Reached, by_export, by_base}
use Rattle.font_graph.specs.Graph.{header_value, index_value, raw_value, flat_value}
use Rattle.font_graph.specs.Graph.{order_value, advances_value, table_value, font_value}
use Rattle.font_graph.specs.Made.{bases_are, part_by, item_of, kind_is, drawing, all_drawn}
use Rattle.font_graph.specs.Failing.{stuck_fails}
use Rattle.font_graph.specs.Made.{plain_of, settle_value, answered, of_answer, is_done_by, tree_by}
use Rattle.font_graph.specs.Made.{header_by, index_by, raw_by, flat_by, order_by}
use Rattle.font_graph.specs.Made.{advances_by, font_by, in_numbers, drawings, writings, varyings}
use Rattle.font_graph.specs.Made.{variations_by, varied_are, tables_of}
use Rattle.font_graph.specs.Solved.{varied_in}
use Rattle.font_graph.specs.Same.{same_id, identity}
use Rattle.font_graph.specs.Fails.{Fails}
use Rattle.font_graph.specs.Values.{Source, tree_is, header_is, index_is, Drawn, flats_are, Ordered}
use Rattle.font_graph.specs.Values.{order_is, Written, make_table, tables_by, Tabled}
use Rattle.font_graph.specs.Values.{tables_are}
use Rattle.font_graph.specs.declared.ids.JobId.{JobId}
use Rattle.font_graph.specs.declared.ids.JobId.TheVariants as job
use Rattle.font_graph.specs.declared.items.Item.TheVariants as an

module _ (p : Parts) (sound : (id : JobId) (r : Refusal) → Fails p id r → ⊥) where
  -- a job that is there has a value, where its part was asked
  answers : {A : Type 0} (item : A → Item p) (r : Result A Refusal) (id : JobId)
      → There p same_id id → value_of p same_id id ≡ plain_of p same_id identity item r
      → is_done (value_of p same_id id) ≡ true
  unfolding settle
  answers item (Ok a) id there e = is_done_by p same_id identity (value_of p same_id id) (item a)
      (of_answer p same_id identity item (Ok a) (value_of p same_id id) a e refl)
  answers item (Err r) id there e = absurd (sound id r (record {
    there = there;
    refused = inl (e ∙ sym (settle_value p same_id identity item (none p same_id) (Err r)));
  }))

  abbrev Made : Type 0
  Made = (font : p.File) × IsFontOf p font

  module _ (s : Source p) where
    -- ---- the glyphs

    raw_done : (glyph : ℕ) → Reached p same_id glyph
        → is_done (raw_value p same_id glyph) ≡ true
    raw_done glyph reached = answers an.Raw (p.raw s.tree s.header s.index glyph) (job.Raw glyph)
        reached (raw_by p same_id identity s.tree (tree_is p s) s.header s.index (header_is p s)
        (index_is p s) glyph)

    raw_at : (glyph : ℕ) → Reached p same_id glyph
        → (raw : p.Raw) × (raw_value p same_id glyph ≡ Done (an.Raw raw))
    raw_at glyph reached =
        let raw = answered p same_id identity an.Raw (p.raw s.tree s.header s.index glyph)
        (raw_value p same_id glyph) (raw_by p same_id identity s.tree (tree_is p s) s.header s.index
        (header_is p s) (index_is p s) glyph) (raw_done glyph reached) in
        (raw.0, raw.2)

    -- none is stuck, since none that it leads to fails
    all_found : (glyph : ℕ) → Reached p same_id glyph → is_found p same_id glyph ≡ true
    all_found glyph reached = elim (cases_Bool (is_found p same_id glyph)) [
      | inl is ↦ is
      | inr not ↦ stuck not
    ]
      where
        stuck : is_found p same_id glyph ≡ false → is_found p same_id glyph ≡ true
        stuck not =
            let raw = raw_at glyph reached in
            absurd (sound (job.Flat glyph) (p.endless raw.0 s.index)
            (stuck_fails p glyph (p.endless raw.0 s.index) (record {
              there = (reached, raw_done glyph reached);
              raw = raw.0;
              index = s.index;
              raw_is = ap (λ v. option_and_then (as_raw p) (done_value v)) raw.1;
              index_is = ap (λ v. option_and_then (as_index p) (done_value v)) (index_is p s);
              not_found = not;
              refusal_is = refl;
            }) (λ less. sound (job.Raw less.other) less.refusal less.fails)))

    drawn_within : (depth glyph : ℕ) → is_found_within p same_id depth glyph ≡ true
        → Reached p same_id glyph → is_done (flat_value p same_id glyph) ≡ true
    drawn_within zero glyph e reached =
        absurd (none_at_once (bases p same_id) (is_read p same_id) glyph e)
    drawn_within (suc depth) glyph e reached =
        let raw = raw_at glyph reached in
        let below = drawings p same_id identity s.tree (tree_is p s) s.header s.index
        (header_is p s) (index_is p s) (p.bases raw.0 s.index) (λ base i.
        let there = subst (λ bs. In base bs) (sym (bases_are p same_id identity s.tree (tree_is p s)
        s.header s.index (header_is p s) (index_is p s) glyph raw.0 raw.1)) i in
        drawn_within depth base
        (ended_base (bases p same_id) (is_read p same_id) depth glyph base e there)
        (by_base glyph base reached there)) in
        answers an.Flat (p.flat raw.0 s.index below.flats) (job.Flat glyph)
        (reached, raw_done glyph reached)
        (flat_by p same_id identity s.tree (tree_is p s) s.header s.index (header_is p s)
        (index_is p s) glyph raw.0 below.flats raw.1
        (all_drawn p same_id identity s.tree (tree_is p s) s.header s.index (header_is p s)
        (index_is p s) (p.bases raw.0 s.index) below.flats below.drawn_are))

    flat_done : (glyph : ℕ) → In glyph (exported p same_id)
        → is_done (flat_value p same_id glyph) ≡ true
    flat_done glyph i = drawn_within (suc (length (all p same_id))) glyph
        (all_found glyph (by_export glyph i)) (by_export glyph i)

    flat_at : (glyph : ℕ) → In glyph (exported p same_id)
        → (flat : p.Flat) × (flat_value p same_id glyph ≡ Done (an.Flat flat))
    flat_at glyph i =
        let flat = drawing p same_id identity s.tree (tree_is p s) s.header s.index (header_is p s)
        (index_is p s) glyph (flat_done glyph i) in
        (flat.flat, flat.flat_is)

    part_done : (order : p.Order) → order_value p same_id ≡ Done (an.Order order) → (glyph : ℕ)
        → In glyph (exported p same_id)
        → is_done (value_of p same_id (part_of p same_id glyph)) ≡ true
    part_done order order_so glyph i =
        let flat = flat_at glyph i in
        let kind = kind_is p same_id identity glyph flat.0 flat.1 in
        subst (λ k. is_done (value_of p same_id (part_in p same_id k glyph)) ≡ true) (sym kind)
        (by flat.0 flat.1 (p.is_composite flat.0) kind)
      where
        by : (flat : p.Flat) → flat_value p same_id glyph ≡ Done (an.Flat flat) → (kind : Bool)
            → kind_of p same_id glyph ≡ Some kind
            → is_done (value_of p same_id (part_job kind glyph)) ≡ true
        by flat is true e = answers (item_of p same_id identity (Some true))
            (p.composite s.header order flat) (job.Composite glyph) (i, e)
            (part_by p same_id identity s.tree (tree_is p s) s.header s.index (header_is p s)
            (index_is p s) glyph order flat true order_so is)
        by flat is false e = answers (item_of p same_id identity (Some false))
            (p.simple s.header flat) (job.Simple glyph) (i, e)
            (part_by p same_id identity s.tree (tree_is p s) s.header s.index (header_is p s)
            (index_is p s) glyph order flat false order_so is)

    variations_done : (glyph : ℕ) → In glyph (varied p same_id)
        → is_done (variations_value p same_id glyph) ≡ true
    variations_done glyph i =
        let exported_so = (varied_in p same_id glyph i).0 in
        let flat = flat_at glyph exported_so in
        answers an.Variations (p.variations s.header s.index flat.0) (job.Variations glyph)
        (i, raw_done glyph (by_export glyph exported_so))
        (variations_by p same_id identity s.tree (tree_is p s) s.header s.index (header_is p s)
        (index_is p s) glyph flat.0 flat.1)

    known_varied : (glyph : ℕ)
        → In glyph (varied_of (p.is_variable s.header) (p.numbers s.index))
        → In glyph (varied p same_id)
    known_varied glyph i = subst (λ ns. In glyph ns) (varied_are p same_id identity s.tree
        (tree_is p s) s.header s.index (header_is p s) (index_is p s)) i

    known : (glyph : ℕ) → In glyph (p.numbers s.index) → In glyph (exported p same_id)
    known = in_numbers p same_id identity s.tree (tree_is p s) s.header s.index (header_is p s)
        (index_is p s)

    -- ---- what is made of them

    module _ (d : Drawn p s) where
      abbrev order_is_by : order_value p same_id
          ≡ plain_of p same_id identity an.Order (p.order s.header s.index d.flats)
      order_is_by = order_by p same_id identity s.tree (tree_is p s) s.header s.index
          (header_is p s) (index_is p s) d.flats (flats_are p s d)

      order_done : is_done (order_value p same_id) ≡ true
      order_done = answers an.Order (p.order s.header s.index d.flats) job.Order
          (is_done_by p same_id identity (index_value p same_id) (an.Index s.index) (index_is p s))
          order_is_by

      module _ (o : Ordered p s d) where
        abbrev measures_by : advances_value p same_id
            ≡ plain_of p same_id identity an.Advances (p.measures s.header o.order d.flats)
        measures_by = advances_by p same_id identity s.tree (tree_is p s) s.header s.index
            (header_is p s) (index_is p s) d.flats (flats_are p s d) o.order (order_is p s d o)

        module _ (w : Written p s d o) where
          table_done : (tag : Tag) → In tag p.tags → is_done (table_value p same_id tag) ≡ true
          table_done tag i = answers an.Table (make_table p s d o w tag) (job.Table tag)
              (i, order_done) (tables_by p s d o w tag)

          with_tables : Tabled p s d o w → Made
          with_tables t =
              let by = font_by p same_id identity s.tree (tree_is p s) s.header s.index
              (header_is p s) (index_is p s) t.tables (tables_are p s d o w t) in
              let done = answers an.Font (p.font t.tables) job.Font order_done by in
              let font = answered p same_id identity an.Font (p.font t.tables)
              (font_value p same_id) by done in (
                font.0,
                record {
                  tree = s.tree;
                  header = s.header;
                  index = s.index;
                  flats = d.flats;
                  parts = w.parts;
                  variations = w.variations;
                  order = o.order;
                  measures = w.measures;
                  tables = t.tables;
                  tree_read = s.tree_read;
                  header_read = s.header_read;
                  index_read = s.index_read;
                  glyphs_drawn = d.glyphs_drawn;
                  glyphs_written = w.glyphs_written;
                  glyphs_varied = w.glyphs_varied;
                  glyphs_ordered = o.glyphs_ordered;
                  glyphs_measured = w.glyphs_measured;
                  tables_made = t.tables_made;
                  is_font = font.1;
                },
              )

          with_parts : Made
          with_parts =
              let made = tables_of p same_id identity s.tree (tree_is p s) s.header s.index
              (header_is p s) (index_is p s) (make_table p s d o w) (tables_by p s d o w) p.tags
              table_done in
              with_tables (record { tables = made.tables; tables_made = made.made_are })

        with_order : Made
        with_order =
            let measures = answered p same_id identity an.Advances
            (p.measures s.header o.order d.flats) (advances_value p same_id) measures_by
            (answers an.Advances (p.measures s.header o.order d.flats) job.Advances order_done
            measures_by) in
            let written = writings p same_id identity s.tree (tree_is p s) s.header s.index
            (header_is p s) (index_is p s) o.order (order_is p s d o) (p.numbers s.index) d.flats
            (flats_are p s d)
            (λ glyph i. part_done o.order (order_is p s d o) glyph (known glyph i)) in
            let varying_so = varyings p same_id identity s.tree (tree_is p s) s.header s.index
            (header_is p s) (index_is p s) (p.numbers s.index) d.flats (flats_are p s d)
            (λ glyph i. variations_done glyph (known_varied glyph i)) in
            with_parts (record {
              measures = measures.0;
              parts = written.parts;
              variations = varying_so.variations;
              glyphs_measured = measures.1;
              glyphs_written = written.written_are;
              glyphs_varied = varying_so.varied_are;
            })

      with_glyphs : Made
      with_glyphs =
          let order = answered p same_id identity an.Order (p.order s.header s.index d.flats)
          (order_value p same_id) order_is_by order_done in
          with_order (record { order = order.0; glyphs_ordered = order.1 })

    with_source : Made
    with_source =
        let glyphs = drawings p same_id identity s.tree (tree_is p s) s.header s.index
        (header_is p s) (index_is p s) (p.numbers s.index)
        (λ glyph i. flat_done glyph (known glyph i)) in
        with_glyphs (record { flats = glyphs.flats; glyphs_drawn = glyphs.drawn_are })

  with_tree : (tree : p.Tree) → p.tree ≡ Ok tree → tree_value p same_id ≡ Done (an.Tree tree) → Made
  with_tree tree read is =
      let header = answered p same_id identity an.Header (p.header tree) (header_value p same_id)
      (header_by p same_id identity tree is) (answers an.Header (p.header tree) job.Header tt
      (header_by p same_id identity tree is)) in
      let index = answered p same_id identity an.Index (p.index tree) (index_value p same_id)
      (index_by p same_id identity tree is) (answers an.Index (p.index tree) job.Index tt
      (index_by p same_id identity tree is)) in
      with_source (record {
        tree = tree;
        header = header.0;
        index = index.0;
        tree_read = read;
        header_read = header.1;
        index_read = index.1;
      })

  -- a source whose jobs don't fail has a font
  pub unrefused_made : (font : p.File) × IsFontOf p font
  unrefused_made =
      let tree = answered p same_id identity an.Tree p.tree (tree_value p same_id)
      (tree_by p same_id identity)
      (answers an.Tree p.tree job.Tree tt (tree_by p same_id identity)) in
      with_tree tree.0 tree.1 tree.2
