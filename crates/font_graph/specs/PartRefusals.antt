-- What the refusal of a job says of its part, and what was made before it. For the plans of crates
-- above. fontc's own.
use Rattle.std.proofs.Common.{◌≡◌, ℕ, true, inl, inr, List, Result, Ok, Err, refl, sym, ap, ◌∙◌}
use Rattle.std.proofs.Common.{subst}
use Rattle.refusal_codes.specs.declared.refusal.Refusal.{Refusal}
use Rattle.access_context.specs.Plain.{Plain, Done, Refused, is_done}
use Rattle.job_graph.specs.Members.{In}
use Rattle.font_graph.specs.Parts.{Parts}
use Rattle.font_graph.specs.Fonts.{DrawnSo}
use Rattle.font_graph.specs.Graph.{Item, settle, none, value_of, tree_value}
use Rattle.font_graph.specs.Graph.{header_value, index_value, raw_value, flat_value, simple_value}
use Rattle.font_graph.specs.Graph.{exported, variations_value, composite_value}
use Rattle.font_graph.specs.Graph.{order_value, advances_value}
use Rattle.font_graph.specs.Solved.{numbers_are, flats_done}
use Rattle.font_graph.specs.Made.{plain_of, settle_value, answered, tree_by, header_by, index_by}
use Rattle.font_graph.specs.Made.{raw_by, flat_by, simple_by, variations_by, order_by, advances_by}
use Rattle.font_graph.specs.Made.{drawing, drawings, composite_by}
use Rattle.font_graph.specs.Made.{part_done}
use Rattle.font_graph.specs.Same.{same_id, identity}
use Rattle.font_graph.specs.Values.{Source, tree_is, header_is, index_is, Drawn, flats_are, Ordered}
use Rattle.font_graph.specs.Values.{order_is, AreValued}
use Rattle.font_graph.specs.declared.ids.JobId.{JobId}
use Rattle.font_graph.specs.declared.ids.JobId.TheVariants as job
use Rattle.font_graph.specs.declared.items.Item.TheVariants as an

module _ (p : Parts) where
  -- ---- a value and its part

  same_refusal : (a b : Refusal) → ◌≡◌ {A = Plain (Item p)} (Refused a) (Refused b) → a ≡ b
  same_refusal a b e = cc

  done≢refused : (item : Item p) (r : Refusal)
      → ◌≡◌ {A = Plain (Item p)} (Done item) (Refused r) → ⊥
  done≢refused item r e = cc

  pub refusal_of_part : {A : Type 0} (item : A → Item p) (made : Result A Refusal)
      (v : Plain (Item p)) (r : Refusal) → v ≡ plain_of p same_id identity item made
      → v ≡ Refused r → made ≡ Err r
  unfolding settle
  refusal_of_part item (Ok a) v r e f = absurd (done≢refused (item a) r
      (settle_value p same_id identity item (none p same_id) (Ok a) ∙ sym e ∙ f))
  refusal_of_part item (Err s) v r e f = ap Err (same_refusal s r
      (settle_value p same_id identity item (none p same_id) (Err s) ∙ sym e ∙ f))

  pub refused_by_part : {A : Type 0} (item : A → Item p) (made : Result A Refusal)
      (v : Plain (Item p)) (r : Refusal) → v ≡ plain_of p same_id identity item made
      → made ≡ Err r → v ≡ Refused r
  unfolding settle
  refused_by_part item made v r e f = e ∙ ap (plain_of p same_id identity item) f
      ∙ sym (settle_value p same_id identity item (none p same_id) (Err r))

  -- ---- what was made where a job has a value

  abbrev pub IsMade : JobId → Type 0
  IsMade id = is_done (value_of p same_id id) ≡ true

  abbrev pub TreeMade : Type 0
  TreeMade = (tree : p.Tree) × (p.tree ≡ Ok tree) × (tree_value p same_id ≡ Done (an.Tree tree))

  pub tree_made : IsMade job.Tree → TreeMade
  tree_made done = answered p same_id identity an.Tree p.tree (tree_value p same_id)
      (tree_by p same_id identity) done

  pub source_made : IsMade job.Header → IsMade job.Index → Source p
  source_made header_done index_done =
      let tree = tree_made
      (part_done p same_id identity job.Header header_done job.Tree (inl refl)) in
      let header = answered p same_id identity an.Header (p.header tree.0)
      (header_value p same_id) (header_by p same_id identity tree.0 tree.2) header_done in
      let index = answered p same_id identity an.Index (p.index tree.0)
      (index_value p same_id) (index_by p same_id identity tree.0 tree.2) index_done in
      record {
        tree = tree.0;
        header = header.0;
        index = index.0;
        tree_read = tree.1;
        header_read = header.1;
        index_read = index.1;
      }

  pub raw_source : (glyph : ℕ) → IsMade (job.Raw glyph) → Source p
  raw_source glyph done = source_made
      (part_done p same_id identity (job.Raw glyph) done job.Header (inr (inl refl)))
      (part_done p same_id identity (job.Raw glyph) done job.Index (inr (inr (inl refl))))

  module _ (s : Source p) where
    pub in_index : (glyph : ℕ) → In glyph (exported p same_id) → In glyph (p.numbers s.index)
    in_index glyph i = subst (λ ns. In glyph ns)
        (sym (numbers_are p same_id s.index (index_is p s))) i

    pub in_jobs : (glyph : ℕ) → In glyph (p.numbers s.index) → In glyph (exported p same_id)
    in_jobs glyph i = subst (λ ns. In glyph ns) (numbers_are p same_id s.index (index_is p s)) i

    pub raw_so : (glyph : ℕ) → raw_value p same_id glyph
        ≡ plain_of p same_id identity an.Raw (p.raw s.tree s.header s.index glyph)
    raw_so = raw_by p same_id identity s.tree (tree_is p s) s.header s.index (header_is p s)
        (index_is p s)

    pub flat_so : (glyph : ℕ) (raw : p.Raw) (flats : List p.Flat)
        → raw_value p same_id glyph ≡ Done (an.Raw raw)
        → AreValued p s job.Flat (λ base. an.Flat) (p.bases raw s.index) flats
        → flat_value p same_id glyph
        ≡ plain_of p same_id identity an.Flat (p.flat raw s.index flats)
    flat_so = flat_by p same_id identity s.tree (tree_is p s) s.header s.index (header_is p s)
        (index_is p s)

    pub simple_so : (glyph : ℕ) (flat : p.Flat) → flat_value p same_id glyph ≡ Done (an.Flat flat)
        → simple_value p same_id glyph
        ≡ plain_of p same_id identity an.Simple (p.simple s.header flat)
    simple_so = simple_by p same_id identity s.tree (tree_is p s) s.header s.index (header_is p s)
        (index_is p s)

    pub composite_so : (glyph : ℕ) (order : p.Order) (flat : p.Flat)
        → order_value p same_id ≡ Done (an.Order order)
        → flat_value p same_id glyph ≡ Done (an.Flat flat)
        → composite_value p same_id glyph
        ≡ plain_of p same_id identity an.Composite (p.composite s.header order flat)
    composite_so = composite_by p same_id identity s.tree (tree_is p s) s.header s.index
        (header_is p s) (index_is p s)

    pub variations_so : (glyph : ℕ) (flat : p.Flat)
        → flat_value p same_id glyph ≡ Done (an.Flat flat)
        → variations_value p same_id glyph
        ≡ plain_of p same_id identity an.Variations (p.variations s.header s.index flat)
    variations_so = variations_by p same_id identity s.tree (tree_is p s) s.header s.index
        (header_is p s) (index_is p s)

    abbrev pub RawMade : ℕ → Type 0
    RawMade glyph = (raw : p.Raw) × (p.raw s.tree s.header s.index glyph ≡ Ok raw)
        × (raw_value p same_id glyph ≡ Done (an.Raw raw))

    pub raw_made : (glyph : ℕ) → IsMade (job.Raw glyph) → RawMade glyph
    raw_made glyph done = answered p same_id identity an.Raw (p.raw s.tree s.header s.index glyph)
        (raw_value p same_id glyph) (raw_so glyph) done

    abbrev pub FlatMade : ℕ → Type 0
    FlatMade glyph = (flat : p.Flat) × DrawnSo p s.tree s.header s.index glyph flat
        × (flat_value p same_id glyph ≡ Done (an.Flat flat))

    pub flat_made : (glyph : ℕ) → IsMade (job.Flat glyph) → FlatMade glyph
    flat_made glyph done =
        let d = drawing p same_id identity s.tree (tree_is p s) s.header s.index (header_is p s)
        (index_is p s) glyph done in (
          d.flat,
          record {
            raw = d.raw;
            of_bases = d.of_bases;
            raw_made = d.raw_made;
            bases_drawn = d.bases_drawn;
            flat_made = d.flat_made;
          },
          d.flat_is,
        )

    pub all_drawn : ((glyph : ℕ) → In glyph (exported p same_id) → IsMade (job.Flat glyph))
        → Drawn p s
    all_drawn done =
        let glyphs = drawings p same_id identity s.tree (tree_is p s) s.header s.index
        (header_is p s) (index_is p s) (p.numbers s.index)
        (λ glyph i. done glyph (in_jobs glyph i)) in
        record { flats = glyphs.flats; glyphs_drawn = glyphs.drawn_are }

    module _ (d : Drawn p s) where
      pub order_so : order_value p same_id
          ≡ plain_of p same_id identity an.Order (p.order s.header s.index d.flats)
      order_so = order_by p same_id identity s.tree (tree_is p s) s.header s.index (header_is p s)
          (index_is p s) d.flats (flats_are p s d)

      pub order_made : IsMade job.Order → Ordered p s d
      order_made done =
          let order = answered p same_id identity an.Order (p.order s.header s.index d.flats)
          (order_value p same_id) order_so done in
          record { order = order.0; glyphs_ordered = order.1 }

      pub advances_so : (o : Ordered p s d) → advances_value p same_id
          ≡ plain_of p same_id identity an.Advances (p.measures s.header o.order d.flats)
      advances_so o = advances_by p same_id identity s.tree (tree_is p s) s.header s.index
          (header_is p s) (index_is p s) d.flats (flats_are p s d) o.order (order_is p s d o)

  -- the glyphs are in order
  pub record InOrder : Type 0 where
    pub s : Source p
    pub d : Drawn p s
    pub o : Ordered p s d

  pub in_order : IsMade job.Order → InOrder
  in_order done =
      let s = source_made (part_done p same_id identity job.Order done job.Header (inl refl))
      (part_done p same_id identity job.Order done job.Index (inr (inl refl))) in
      let d = all_drawn s (flats_done p same_id identity done) in
      record { s = s; d = d; o = order_made s d done }
