-- A graph has a font exactly where each part answers and the font is made of their answers. For the
-- plans of crates above. fontc's own.
use Rattle.std.proofs.Common.{◌≡◌, ℕ, zero, suc, Bool, true, false, cond, inl, inr, List, [], ◌∷◌}
use Rattle.std.proofs.Common.{map}
use Rattle.std.proofs.Common.{length, Option, None}
use Rattle.std.proofs.Common.{Some, Result, Ok, Err, refl, sym, ap, ◌∙◌, subst}
use Rattle.std.specs.Prelude.{◌↔◌, IsTrue, option_and_then}
use Rattle.std.proofs.lemmas.Bool.{false≢true, and_from}
use Rattle.refusal_codes.specs.declared.refusal.Refusal.{Refusal}
use Rattle.access_context.specs.Plain.{Plain, Done, PlainOutcome, is_done, done_value}
use Rattle.access_context.specs.Read.{all_done}
use Rattle.font_ir.specs.declared.tag.Tag.{Tag}
use Rattle.job_graph.specs.Rounds.{blocked}
use Rattle.job_graph.specs.Members.{In, list_all-In}
use Rattle.font_graph.specs.Parts.{Parts, Needs, Nothing, TheIndex, TheMeasures}
use Rattle.font_graph.specs.Parts.{TheMeasuresAndIndex, TheOutlines, TheVariations, Extra}
use Rattle.font_graph.specs.Parts.{with_index, with_measures, with_both, with_data}
use Rattle.font_graph.specs.Descent.{none_at_once, ended_base}
use Rattle.font_graph.specs.Fonts.{AllMade, AllDrawn, no_more, one_more, part, varying, extra}
use Rattle.font_graph.specs.Fonts.{table}
use Rattle.font_graph.specs.Fonts.{IsFontOf}
use Rattle.font_graph.specs.Graph.{Item}
use Rattle.font_graph.specs.Graph.{as_tree, as_header, as_index, as_raw, as_flat, as_order}
use Rattle.font_graph.specs.Graph.{as_measures, as_data, as_table, as_font, all_of, on, settle}
use Rattle.font_graph.specs.Graph.{none, outcome, needed, varied_of, data_behind, data_in}
use Rattle.font_graph.specs.Graph.{extra_read, exported, varied, variations_value, composite_value}
use Rattle.font_graph.specs.Graph.{settled, all, bases, bases_in, index_known, is_read}
use Rattle.font_graph.specs.Graph.{is_found_within, kind_in, kind_of, part_in, part_of, part_job}
use Rattle.font_graph.specs.Graph.{part_ids}
use Rattle.font_graph.specs.Graph.{read_as, read_all, reads_with, numbers, value_of, tree_value}
use Rattle.font_graph.specs.Graph.{header_value, index_value, raw_value, flat_value, simple_value}
use Rattle.font_graph.specs.Graph.{order_value, advances_value, table_value, font_value}
use Rattle.font_graph.specs.Outcomes.{map-In, In-map, with_value, items, reads_done, value}
use Rattle.font_graph.specs.Outcomes.{found_of_done}
use Rattle.font_graph.specs.Solved.{found, numbers_are, varies_is}
use Rattle.font_graph.specs.declared.ids.JobId.{JobId}
use Rattle.font_graph.specs.declared.ids.JobId.TheVariants as job
use Rattle.font_graph.specs.declared.items.Item.TheVariants as an

module _ (p : Parts) (same : JobId → JobId → Bool)
    (identity : (x y : JobId) → IsTrue (same x y) ↔ (x ≡ y)) where
  -- what a part answers, as a value
  pub plain_of : {A : Type 0} → (A → Item p) → Result A Refusal → Plain (Item p)
  plain_of item r = (settle p same item (none p same) r).value

  pub on_some : {A : Type 0} (x : Option A) (f : A → PlainOutcome (Item p) JobId) (a : A)
      → x ≡ Some a → on p same x f ≡ f a
  unfolding on
  on_some x f a e = ap (λ o. on p same o f) e

  pub settle_value : {A : Type 0} (item : A → Item p) (adds : A → List _) (r : Result A Refusal)
      → (settle p same item adds r).value ≡ plain_of item r
  unfolding settle plain_of
  settle_value item adds (Ok a) = refl
  settle_value item adds (Err r) = refl

  -- a value is that of an answer
  pub answered : {A : Type 0} (item : A → Item p) (r : Result A Refusal) (v : Plain (Item p))
      → v ≡ plain_of item r → is_done v ≡ true → (a : A) × (r ≡ Ok a) × (v ≡ Done (item a))
  unfolding settle plain_of
  answered item (Ok a) v e d = (a, refl, e)
  answered item (Err r) v e d = absurd (false≢true (ap is_done (sym e) ∙ d))

  -- and an answer has its value
  pub of_answer : {A : Type 0} (item : A → Item p) (r : Result A Refusal) (v : Plain (Item p))
      (a : A) → v ≡ plain_of item r → r ≡ Ok a → v ≡ Done (item a)
  unfolding settle plain_of
  of_answer item r v a e f = e ∙ ap (plain_of item) f

  same_order : (made order : p.Order) → ◌≡◌ {A = Plain (Item p)} (Done (an.Order made))
      (Done (an.Order order)) → made ≡ order
  same_order made order e = some_same (ap (λ v. option_and_then (as_order p) (done_value v)) e)
    where
      some_same : Some made ≡ Some order → made ≡ order
      some_same e = cc

  settled_is : (id : JobId) (reads : List (JobId × Plain (Item p))) → all_done reads ≡ true
      → (settled p same id reads).value ≡ (outcome p same id reads).value
  settled_is id reads e = ap (λ b. (cond b (outcome p same id reads) blocked).value) e

  -- what is read of an item with a value
  pub read_is : {A : Type 0} (kind : Item p → Option A) (ids : List JobId) (id : JobId) (i : Item p)
      (a : A) → In id ids → value_of p same id ≡ Done i → kind i ≡ Some a
      → read_as p same kind (map (with_value p same) ids) id ≡ Some a
  read_is kind ids id i a there is kinded =
      ap (λ o. option_and_then kind (option_and_then done_value o))
      (found p same identity ids id there ∙ ap Some is) ∙ kinded

  pub all_from : (ids : List JobId) → ((id : JobId) → In id ids → is_done (value_of p same id) ≡
      true)
      → all_done (map (with_value p same) ids) ≡ true
  all_from [] every = refl
  all_from (id ∷ ids) every = and_from (is_done (value_of p same id))
      (all_done (map (with_value p same) ids)) (every id (inl refl))
      (all_from ids (λ other there. every other (inr there)))

  by_outcome : (id : JobId) → all_done (items p same id) ≡ true
      → value_of p same id ≡ (outcome p same id (items p same id)).value
  by_outcome id e = sym (value p same id) ∙ settled_is id (items p same id) e

  pub is_done_by : (v : Plain (Item p)) (i : Item p) → v ≡ Done i → is_done v ≡ true
  is_done_by v i e = ap is_done e

  -- a job that reads two items, or three
  both : (a b : JobId) → is_done (value_of p same a) ≡ true → is_done (value_of p same b) ≡ true
      → all_done (map (with_value p same) (a ∷ b ∷ [])) ≡ true
  both a b e f = all_from (a ∷ b ∷ []) (λ id there. elim there [
    | inl is ↦ subst (λ id. is_done (value_of p same id) ≡ true) is e
    | inr there ↦ elim there [
      | inl is ↦ subst (λ id. is_done (value_of p same id) ≡ true) is f
      | inr none ↦ absurd none
    ]
  ])

  -- what a job with a value reads has values
  pub part_done : (id : JobId) → is_done (value_of p same id) ≡ true → (read : JobId)
      → In read (reads_with p same (numbers p same) id) → is_done (value_of p same read) ≡ true
  part_done id done read there = list_all-In (λ (item : JobId × Plain (Item p)). is_done item.1)
      (items p same id) (with_value p same read)
      (reads_done p same id (items p same id) (ap is_done (value p same id) ∙ done))
      (map-In (with_value p same) (reads_with p same (numbers p same) id) read there)

  -- the data of a glyph, by whether it is a composite
  abbrev pub item_of : Option Bool → p.Data → Item p
  item_of None bytes = an.Simple bytes
  item_of (Some true) bytes = an.Composite bytes
  item_of (Some false) bytes = an.Simple bytes

  abbrev pub part_item : ℕ → p.Data → Item p
  part_item glyph = item_of (kind_of p same glyph)

  pub is_data : (kind : Option Bool) (bytes : p.Data) → as_data p (item_of kind bytes) ≡ Some bytes
  is_data None bytes = refl
  is_data (Some true) bytes = refl
  is_data (Some false) bytes = refl

  pub kind_is : (glyph : ℕ) (flat : p.Flat) → flat_value p same glyph ≡ Done (an.Flat flat)
      → kind_of p same glyph ≡ Some (p.is_composite flat)
  kind_is glyph flat is = ap (λ v. kind_in p same (option_and_then (as_flat p) (done_value v))) is

  -- ---- each value by its part

  pub tree_by : tree_value p same ≡ plain_of an.Tree p.tree
  tree_by = settle_value an.Tree (none p same) p.tree

  module _ (tree : p.Tree) (tree_is : tree_value p same ≡ Done (an.Tree tree)) where
    tree_read : (id : JobId) → In job.Tree (reads_with p same (numbers p same) id)
        → read_as p same (as_tree p) (items p same id) job.Tree ≡ Some tree
    tree_read id there = read_is (as_tree p) (reads_with p same (numbers p same) id) job.Tree
        (an.Tree tree) tree there tree_is refl

    tree_done : all_done (map (with_value p same) (job.Tree ∷ [])) ≡ true
    tree_done = all_from (job.Tree ∷ []) (λ id there. elim there [
      | inl is ↦ subst (λ id. is_done (value_of p same id) ≡ true) is
          (is_done_by (tree_value p same) (an.Tree tree) tree_is)
      | inr none ↦ absurd none
    ])

    pub header_by : header_value p same ≡ plain_of an.Header (p.header tree)
    header_by = by_outcome job.Header tree_done
        ∙ ap (λ o. o.value) (on_some _ _ tree (tree_read job.Header (inl refl)))
        ∙ settle_value an.Header (none p same) (p.header tree)

    pub index_by : index_value p same ≡ plain_of an.Index (p.index tree)
    index_by = by_outcome job.Index tree_done
        ∙ ap (λ o. o.value) (on_some _ _ tree (tree_read job.Index (inl refl)))
        ∙ settle_value an.Index _ (p.index tree)

    module _ (header : p.Header) (index : p.Index)
        (header_is : header_value p same ≡ Done (an.Header header))
        (index_is : index_value p same ≡ Done (an.Index index)) where
      header_read : (id : JobId) → In job.Header (reads_with p same (numbers p same) id)
          → read_as p same (as_header p) (items p same id) job.Header ≡ Some header
      header_read id there = read_is (as_header p) (reads_with p same (numbers p same) id)
          job.Header (an.Header header) header there header_is refl

      index_read : (id : JobId) → In job.Index (reads_with p same (numbers p same) id)
          → read_as p same (as_index p) (items p same id) job.Index ≡ Some index
      index_read id there = read_is (as_index p) (reads_with p same (numbers p same) id)
          job.Index (an.Index index) index there index_is refl

      source_done : all_done (map (with_value p same) (job.Tree ∷ job.Header ∷ job.Index ∷ []))
          ≡ true
      source_done = and_from (is_done (tree_value p same)) _
          (is_done_by (tree_value p same) (an.Tree tree) tree_is)
          (both job.Header job.Index
          (is_done_by (header_value p same) (an.Header header) header_is)
          (is_done_by (index_value p same) (an.Index index) index_is))

      pub raw_by : (glyph : ℕ)
          → raw_value p same glyph ≡ plain_of an.Raw (p.raw tree header index glyph)
      raw_by glyph = by_outcome (job.Raw glyph) source_done
          ∙ ap (λ o. o.value) (on_some _ _ tree (tree_read (job.Raw glyph) (inl refl)))
          ∙ ap (λ o. o.value) (on_some _ _ header (header_read (job.Raw glyph) (inr (inl refl))))
          ∙ ap (λ o. o.value)
          (on_some _ _ index (index_read (job.Raw glyph) (inr (inr (inl refl)))))
          ∙ settle_value an.Raw _ (p.raw tree header index glyph)

      pub simple_by : (glyph : ℕ) (flat : p.Flat) → flat_value p same glyph ≡ Done (an.Flat flat)
          → simple_value p same glyph ≡ plain_of an.Simple (p.simple header flat)
      simple_by glyph flat is = by_outcome (job.Simple glyph) (both job.Header (job.Flat glyph)
          (is_done_by (header_value p same) (an.Header header) header_is)
          (is_done_by (flat_value p same glyph) (an.Flat flat) is))
          ∙ ap (λ o. o.value)
          (on_some _ _ header (header_read (job.Simple glyph) (inl refl)))
          ∙ ap (λ o. o.value) (on_some _ _ flat (read_is (as_flat p)
          (reads_with p same (numbers p same) (job.Simple glyph)) (job.Flat glyph) (an.Flat flat)
          flat (inr (inl refl)) is refl))
          ∙ settle_value an.Simple (none p same) (p.simple header flat)

      three : (a b c : JobId) → is_done (value_of p same a) ≡ true
          → is_done (value_of p same b) ≡ true → is_done (value_of p same c) ≡ true
          → all_done (map (with_value p same) (a ∷ b ∷ c ∷ [])) ≡ true
      three a b c e f g = and_from (is_done (value_of p same a)) _ e (both b c f g)

      pub composite_by : (glyph : ℕ) (order : p.Order) (flat : p.Flat)
          → order_value p same ≡ Done (an.Order order)
          → flat_value p same glyph ≡ Done (an.Flat flat)
          → composite_value p same glyph
          ≡ plain_of an.Composite (p.composite header order flat)
      composite_by glyph order flat order_is is = by_outcome (job.Composite glyph)
          (three job.Header job.Order (job.Flat glyph)
          (is_done_by (header_value p same) (an.Header header) header_is)
          (is_done_by (order_value p same) (an.Order order) order_is)
          (is_done_by (flat_value p same glyph) (an.Flat flat) is))
          ∙ ap (λ o. o.value)
          (on_some _ _ header (header_read (job.Composite glyph) (inl refl)))
          ∙ ap (λ o. o.value) (on_some _ _ order (read_is (as_order p)
          (reads_with p same (numbers p same) (job.Composite glyph)) job.Order (an.Order order)
          order (inr (inl refl)) order_is refl))
          ∙ ap (λ o. o.value) (on_some _ _ flat (read_is (as_flat p)
          (reads_with p same (numbers p same) (job.Composite glyph)) (job.Flat glyph)
          (an.Flat flat) flat (inr (inr (inl refl))) is refl))
          ∙ settle_value an.Composite (none p same) (p.composite header order flat)

      pub variations_by : (glyph : ℕ) (flat : p.Flat)
          → flat_value p same glyph ≡ Done (an.Flat flat)
          → variations_value p same glyph
          ≡ plain_of an.Variations (p.variations header index flat)
      variations_by glyph flat is = by_outcome (job.Variations glyph)
          (three job.Header job.Index (job.Flat glyph)
          (is_done_by (header_value p same) (an.Header header) header_is)
          (is_done_by (index_value p same) (an.Index index) index_is)
          (is_done_by (flat_value p same glyph) (an.Flat flat) is))
          ∙ ap (λ o. o.value)
          (on_some _ _ header (header_read (job.Variations glyph) (inl refl)))
          ∙ ap (λ o. o.value)
          (on_some _ _ index (index_read (job.Variations glyph) (inr (inl refl))))
          ∙ ap (λ o. o.value) (on_some _ _ flat (read_is (as_flat p)
          (reads_with p same (numbers p same) (job.Variations glyph)) (job.Flat glyph)
          (an.Flat flat) flat (inr (inr (inl refl))) is refl))
          ∙ settle_value an.Variations (none p same) (p.variations header index flat)

      -- ---- of the glyphs together

      -- each of these jobs has a value of one kind
      unfoldable pub Valued : {X A : Type 0} → (X → JobId) → (X → A → Item p)
          → List X → List A → Type 0
      Valued make item [] [] = Unit {0}
      Valued make item (x ∷ xs) (a ∷ others) = (value_of p same (make x) ≡ Done (item x a))
          × Valued make item xs others
      Valued make item [] (a ∷ others) = ⊥
      Valued make item (x ∷ xs) [] = ⊥

      pub valued_done : {X A : Type 0} (make : X → JobId) (item : X → A → Item p) (xs : List X)
          (answers : List A) → Valued make item xs answers → (x : X) → In x xs
          → is_done (value_of p same (make x)) ≡ true
      unfolding Valued
      valued_done make item [] answers v x i = absurd i
      valued_done make item (y ∷ xs) [] v x i = absurd v
      valued_done make item (y ∷ xs) (a ∷ others) v x i = elim i [
        | inl is ↦ subst (λ z. is_done (value_of p same (make z)) ≡ true) is
            (is_done_by (value_of p same (make y)) (item y a) v.0)
        | inr there ↦ valued_done make item xs others v.1 x there
      ]

      pub valued_length : {X A : Type 0} (make : X → JobId) (item : X → A → Item p) (xs : List X)
          (answers : List A) → Valued make item xs answers → length answers ≡ length xs
      unfolding Valued
      valued_length make item [] [] v = refl
      valued_length make item [] (a ∷ others) v = absurd v
      valued_length make item (x ∷ xs) [] v = absurd v
      valued_length make item (x ∷ xs) (a ∷ others) v =
          ap suc (valued_length make item xs others v.1)

      pub read_all_is : {X A : Type 0} (kind : Item p → Option A) (id : JobId) (make : X → JobId)
          (item : X → A → Item p) → ((x : X) (a : A) → kind (item x a) ≡ Some a) → (xs : List X)
          (answers : List A) → Valued make item xs answers
          → ((x : X) → In x xs → In (make x) (reads_with p same (numbers p same) id))
          → read_all p same kind (items p same id) (map make xs) ≡ Some answers
      unfolding Valued
      read_all_is kind id make item kinded [] [] v read = refl
      read_all_is kind id make item kinded [] (a ∷ others) v read = absurd v
      read_all_is kind id make item kinded (x ∷ xs) [] v read = absurd v
      read_all_is kind id make item kinded (x ∷ xs) (a ∷ others) v read =
          ap (λ o. all_of (o ∷ map (λ i. read_as p same kind (items p same id) i) (map make xs)))
          (read_is kind (reads_with p same (numbers p same) id) (make x) (item x a) a
          (read x (inl refl)) v.0 (kinded x a))
          ∙ ap (option_and_then (λ rest. Some (a ∷ rest)))
          (read_all_is kind id make item kinded xs others v.1 (λ y i. read y (inr i)))

      -- ---- a glyph, by its bases

      index_so : index_known p same ≡ Some index
      index_so = ap (λ v. option_and_then (as_index p) (done_value v)) index_is

      pub bases_are : (glyph : ℕ) (raw : p.Raw) → raw_value p same glyph ≡ Done (an.Raw raw)
          → bases p same glyph ≡ p.bases raw index
      bases_are glyph raw is =
          ap (λ v. bases_in p same (option_and_then (as_raw p) (done_value v)) (index_known p same))
          is ∙ ap (λ o. bases_in p same (Some raw) o) index_so

      pub flat_by : (glyph : ℕ) (raw : p.Raw) (flats : List p.Flat)
          → raw_value p same glyph ≡ Done (an.Raw raw)
          → Valued job.Flat (λ base. an.Flat) (p.bases raw index) flats
          → flat_value p same glyph ≡ plain_of an.Flat (p.flat raw index flats)
      flat_by glyph raw flats is drawn =
          let from : (base : ℕ) → In base (p.bases raw index) → In base (bases p same glyph)
          = λ base i. subst (λ bs. In base bs) (sym (bases_are glyph raw is)) i in
          let into : (base : ℕ) → In base (bases p same glyph) → In base (p.bases raw index)
          = λ base i. subst (λ bs. In base bs) (bases_are glyph raw is) i in
          by_outcome (job.Flat glyph) (all_from
          (job.Raw glyph ∷ job.Index ∷ map job.Flat (bases p same glyph)) (λ id i. elim i [
            | inl e ↦ subst (λ id. is_done (value_of p same id) ≡ true) e
                (is_done_by (raw_value p same glyph) (an.Raw raw) is)
            | inr i ↦ elim i [
              | inl e ↦ subst (λ id. is_done (value_of p same id) ≡ true) e
                  (is_done_by (index_value p same) (an.Index index) index_is)
              | inr i ↦ let m = In-map job.Flat (bases p same glyph) id i in
                  subst (λ id. is_done (value_of p same id) ≡ true) m.2
                  (valued_done job.Flat (λ base. an.Flat) (p.bases raw index) flats drawn m.0
                  (into m.0 m.1))
            ]
          ]))
          ∙ ap (λ o. o.value) (on_some _ _ raw (read_is (as_raw p)
          (reads_with p same (numbers p same) (job.Flat glyph)) (job.Raw glyph) (an.Raw raw) raw
          (inl refl) is refl))
          ∙ ap (λ o. o.value) (on_some _ _ index (index_read (job.Flat glyph) (inr (inl refl))))
          ∙ ap (λ o. o.value) (on_some _ _ flats (read_all_is (as_flat p) (job.Flat glyph) job.Flat
          (λ base. an.Flat) (λ base flat. refl) (p.bases raw index) flats drawn
          (λ base i. inr (inr (map-In job.Flat (bases p same glyph) base (from base i))))))
          ∙ settle_value an.Flat _ (p.flat raw index flats)

      -- its data, of either kind
      pub part_by : (glyph : ℕ) (order : p.Order) (flat : p.Flat) (kind : Bool)
          → order_value p same ≡ Done (an.Order order)
          → flat_value p same glyph ≡ Done (an.Flat flat)
          → value_of p same (part_job kind glyph) ≡ plain_of (item_of (Some kind))
          (cond kind (p.composite header order flat) (p.simple header flat))
      part_by glyph order flat true order_is is = composite_by glyph order flat order_is is
      part_by glyph order flat false order_is is = simple_by glyph flat is

      -- and these are the data of glyphs that are read
      data_are : {X : Type 0} (make : X → JobId) (item : X → p.Data → Item p)
          → ((x : X) (bytes : p.Data) → as_data p (item x bytes) ≡ Some bytes) → (xs : List X)
          (answers : List p.Data) → Valued make item xs answers
          → data_in p same (map (with_value p same) (map make xs)) ≡ answers
      unfolding Valued
      data_are make item kinded [] [] v = refl
      data_are make item kinded [] (a ∷ others) v = absurd v
      data_are make item kinded (x ∷ xs) [] v = absurd v
      data_are make item kinded (x ∷ xs) (a ∷ others) v =
          ap (λ plain. data_behind p same (option_and_then (as_data p) (done_value plain))
          (data_in p same (map (with_value p same) (map make xs)))) v.0
          ∙ ap (λ o. data_behind p same o (data_in p same (map (with_value p same) (map make xs))))
          (kinded x a)
          ∙ ap (λ rest. a ∷ rest) (data_are make item kinded xs others v.1)

      pub in_numbers : (glyph : ℕ) → In glyph (p.numbers index) → In glyph (exported p same)
      in_numbers glyph i = subst (λ ns. In glyph ns) (numbers_are p same index index_is) i

      -- the glyphs that vary are these
      pub varied_are : varied_of (p.is_variable header) (p.numbers index) ≡ varied p same
      varied_are = ap (λ ns. varied_of (p.is_variable header) ns)
          (numbers_are p same index index_is)
          ∙ ap (λ b. varied_of b (exported p same)) (varies_is p same header header_is)

      from_numbers : (glyph : ℕ) → In glyph (exported p same) → In glyph (p.numbers index)
      from_numbers glyph i = subst (λ ns. In glyph ns) (sym (numbers_are p same index index_is)) i

      abbrev IsDoneJob : JobId → Type 0
      IsDoneJob id = is_done (value_of p same id) ≡ true

      header_done : IsDoneJob job.Header
      header_done = is_done_by (header_value p same) (an.Header header) header_is

      index_done : IsDoneJob job.Index
      index_done = is_done_by (index_value p same) (an.Index index) index_is

      module _ (flats : List p.Flat) (drawn : Valued job.Flat (λ glyph. an.Flat) (p.numbers index)
          flats) where
        flat_reads_done : (id : JobId) → In id (map job.Flat (exported p same)) → IsDoneJob id
        flat_reads_done id i = let m = In-map job.Flat (exported p same) id i in
            subst IsDoneJob m.2 (valued_done job.Flat (λ glyph. an.Flat) (p.numbers index) flats
            drawn m.0
            (from_numbers m.0 m.1))

        pub order_by : order_value p same ≡ plain_of an.Order (p.order header index flats)
        order_by = by_outcome job.Order (all_from
            (job.Header ∷ job.Index ∷ map job.Flat (exported p same)) (λ id i. elim i [
              | inl is ↦ subst IsDoneJob is header_done
              | inr i ↦ elim i [
                | inl is ↦ subst IsDoneJob is index_done
                | inr i ↦ flat_reads_done id i
              ]
            ]))
            ∙ ap (λ o. o.value) (on_some _ _ header (header_read job.Order (inl refl)))
            ∙ ap (λ o. o.value) (on_some _ _ index (index_read job.Order (inr (inl refl))))
            ∙ ap (λ o. o.value) (on_some _ _ flats (read_all_is (as_flat p) job.Order job.Flat
            (λ glyph. an.Flat) (λ glyph flat. refl) (p.numbers index) flats drawn
            (λ g i. inr (inr (map-In job.Flat (exported p same) g (in_numbers g i))))))
            ∙ settle_value an.Order _ (p.order header index flats)

        module _ (order : p.Order) (order_is : order_value p same ≡ Done (an.Order order)) where
          order_done : IsDoneJob job.Order
          order_done = is_done_by (order_value p same) (an.Order order) order_is

          order_read : (id : JobId) → In job.Order (reads_with p same (numbers p same) id)
              → read_as p same (as_order p) (items p same id) job.Order ≡ Some order
          order_read id there = read_is (as_order p) (reads_with p same (numbers p same) id)
              job.Order (an.Order order) order there order_is refl

          -- it holds the numbers of its index
          order_made : p.order header index flats ≡ Ok order
          order_made =
              let made = answered an.Order (p.order header index flats) (order_value p same)
              order_by order_done in
              made.1 ∙ ap Ok (same_order made.0 order (sym made.2 ∙ order_is))

          ordered_are : p.ordered order ≡ p.numbers index
          ordered_are = p.ordered_is header index flats order order_made

          pub advances_by : advances_value p same
              ≡ plain_of an.Advances (p.measures header order flats)
          advances_by = by_outcome job.Advances (all_from
              (job.Header ∷ job.Order ∷ map job.Flat (exported p same)) (λ id i. elim i [
                | inl is ↦ subst IsDoneJob is header_done
                | inr i ↦ elim i [
                  | inl is ↦ subst IsDoneJob is order_done
                  | inr i ↦ flat_reads_done id i
                ]
              ]))
              ∙ ap (λ o. o.value) (on_some _ _ header (header_read job.Advances (inl refl)))
              ∙ ap (λ o. o.value) (on_some _ _ order (order_read job.Advances (inr (inl refl))))
              ∙ ap (λ o. o.value) (on_some _ _ flats
              (ap (λ ns. read_all p same (as_flat p) (items p same job.Advances) (map job.Flat ns))
              ordered_are
              ∙ read_all_is (as_flat p) job.Advances job.Flat (λ glyph. an.Flat) (λ glyph flat.
              refl)
              (p.numbers index) flats drawn
              (λ g i. inr (inr (map-In job.Flat (exported p same) g (in_numbers g i))))))
              ∙ settle_value an.Advances (none p same) (p.measures header order flats)

          -- ---- what a table reads

          abbrev pub table_reads : Needs → List JobId
          table_reads needs = job.Header ∷ job.Order ∷ needed (part_ids p same) (varied p same)
              needs

          -- neither the header nor the order is a glyph's data
          pub needed_data : (needs : Needs)
              → data_in p same (map (with_value p same) (table_reads needs))
              ≡ data_in p same (map (with_value p same) (needed (part_ids p same) (varied p same)
              needs))
          needed_data needs =
              ap (λ v. data_behind p same (option_and_then (as_data p) (done_value v))
              (data_behind p same (option_and_then (as_data p) (done_value (order_value p same)))
              (data_in p same (map (with_value p same) (needed (part_ids p same) (varied p same)
              needs)))))
              header_is
              ∙ ap (λ v. data_behind p same (option_and_then (as_data p) (done_value v))
              (data_in p same (map (with_value p same) (needed (part_ids p same) (varied p same)
              needs))))
              order_is

          pub outlines_read : (parts : List p.Data)
              → Valued (part_of p same) part_item (p.numbers index) parts
              → extra_read p same (map (with_value p same) (table_reads TheOutlines)) TheOutlines
              ≡ Some (with_data parts)
          outlines_read parts written = ap (λ ds. Some (with_data ds)) (needed_data TheOutlines
              ∙ ap (λ ns. data_in p same (map (with_value p same) (map (part_of p same) ns)))
              (sym (numbers_are p same index index_is))
              ∙ data_are (part_of p same) part_item (λ glyph bytes. is_data (kind_of p same glyph)
              bytes) (p.numbers index) parts written)

          pub variations_read : (variations : List p.Data)
              → Valued job.Variations (λ glyph. an.Variations)
              (varied_of (p.is_variable header) (p.numbers index)) variations
              → extra_read p same (map (with_value p same) (table_reads TheVariations))
              TheVariations ≡ Some (with_data variations)
          variations_read variations varied_so = ap (λ ds. Some (with_data ds))
              (needed_data TheVariations
              ∙ ap (λ ns. data_in p same (map (with_value p same) (map job.Variations ns)))
              (sym varied_are)
              ∙ data_are job.Variations (λ glyph. an.Variations) (λ glyph bytes. refl)
              (varied_of (p.is_variable header) (p.numbers index)) variations varied_so)

          index_among : (needs : Needs) → In job.Index (table_reads needs)
              → read_as p same (as_index p) (map (with_value p same) (table_reads needs))
              job.Index ≡ Some index
          index_among needs there = read_is (as_index p) (table_reads needs) job.Index
              (an.Index index) index there index_is refl

          pub index_needed : extra_read p same (map (with_value p same) (table_reads TheIndex))
              TheIndex ≡ Some (with_index index)
          index_needed = ap (option_and_then (λ index. Some (with_index index)))
              (index_among TheIndex (inr (inr (inl refl))))

          module _ (measures : p.Measures)
              (measures_is : advances_value p same ≡ Done (an.Advances measures)) where
            measures_among : (needs : Needs) → In job.Advances (table_reads needs)
                → read_as p same (as_measures p) (map (with_value p same) (table_reads needs))
                job.Advances ≡ Some measures
            measures_among needs there = read_is (as_measures p) (table_reads needs) job.Advances
                (an.Advances measures) measures there measures_is refl

            pub measures_needed : extra_read p same
                (map (with_value p same) (table_reads TheMeasures)) TheMeasures
                ≡ Some (with_measures measures)
            measures_needed = ap (option_and_then (λ measures. Some (with_measures measures)))
                (measures_among TheMeasures (inr (inr (inl refl))))

            pub both_needed : extra_read p same
                (map (with_value p same) (table_reads TheMeasuresAndIndex)) TheMeasuresAndIndex
                ≡ Some (with_both measures index)
            both_needed = ap (option_and_then (λ measures.
                option_and_then (λ index. Some (with_both measures index))
                (read_as p same (as_index p)
                (map (with_value p same) (table_reads TheMeasuresAndIndex)) job.Index)))
                (measures_among TheMeasuresAndIndex (inr (inr (inl refl))))
                ∙ ap (option_and_then (λ index. Some (with_both measures index)))
                (index_among TheMeasuresAndIndex (inr (inr (inr (inl refl)))))

          -- a table whose reads have values is made of them
          pub table_from : (tag : Tag) (more : Extra p.Index p.Measures p.Data)
              → all_done (items p same (job.Table tag)) ≡ true
              → extra_read p same (items p same (job.Table tag)) (p.needs tag) ≡ Some more
              → table_value p same tag ≡ plain_of an.Table (p.table tag header order more)
          table_from tag more done e = by_outcome (job.Table tag) done
              ∙ ap (λ o. o.value) (on_some _ _ header (header_read (job.Table tag) (inl refl)))
              ∙ ap (λ o. o.value)
              (on_some _ _ order (order_read (job.Table tag) (inr (inl refl))))
              ∙ ap (λ o. o.value) (on_some _ _ more e)
              ∙ settle_value an.Table (none p same) (p.table tag header order more)

          module _ (measures : p.Measures)
              (measures_is : advances_value p same ≡ Done (an.Advances measures))
              (parts variations : List p.Data)
              (written : Valued (part_of p same) part_item (p.numbers index) parts)
              (varied_so : Valued job.Variations (λ glyph. an.Variations)
              (varied_of (p.is_variable header) (p.numbers index)) variations) where
            measures_done : IsDoneJob job.Advances
            measures_done = is_done_by (advances_value p same) (an.Advances measures) measures_is

            needed_done : (needs : Needs) (id : JobId) → In id (needed (part_ids p same) (varied p
                same) needs)
                → IsDoneJob id
            needed_done Nothing id i = absurd i
            needed_done TheIndex id i = elim i
                [ inl is ↦ subst IsDoneJob is index_done | inr none ↦ absurd none ]
            needed_done TheMeasures id i = elim i
                [ inl is ↦ subst IsDoneJob is measures_done | inr none ↦ absurd none ]
            needed_done TheMeasuresAndIndex id i = elim i [
              | inl is ↦ subst IsDoneJob is measures_done
              | inr i ↦ elim i
                  [ inl is ↦ subst IsDoneJob is index_done | inr none ↦ absurd none ]
            ]
            needed_done TheOutlines id i = let m = In-map (part_of p same) (exported p same) id i in
                subst IsDoneJob m.2 (valued_done (part_of p same) part_item (p.numbers index) parts
                written m.0 (from_numbers m.0 m.1))
            needed_done TheVariations id i = let m = In-map job.Variations (varied p same) id i in
                subst IsDoneJob m.2 (valued_done job.Variations (λ glyph. an.Variations)
                (varied_of (p.is_variable header) (p.numbers index)) variations varied_so m.0
                (subst (λ ns. In m.0 ns) (sym varied_are) m.1))

            -- a table finds what it needs
            extra_found : (needs : Needs)
                → extra_read p same (map (with_value p same) (table_reads needs)) needs
                ≡ Some (extra p index measures parts variations needs)
            extra_found Nothing = refl
            extra_found TheIndex = index_needed
            extra_found TheMeasures = measures_needed measures measures_is
            extra_found TheMeasuresAndIndex = both_needed measures measures_is
            extra_found TheOutlines = outlines_read parts written
            extra_found TheVariations = variations_read variations varied_so

            pub table_by : (tag : Tag) → table_value p same tag
                ≡ plain_of an.Table (table p header index order measures parts variations tag)
            table_by tag = table_from tag (extra p index measures parts variations (p.needs tag))
                (all_from (table_reads (p.needs tag)) (λ id i. elim i [
                  | inl is ↦ subst IsDoneJob is header_done
                  | inr i ↦ elim i [
                    | inl is ↦ subst IsDoneJob is order_done
                    | inr i ↦ needed_done (p.needs tag) id i
                  ]
                ])) (extra_found (p.needs tag))

      pub font_by : (tables : List p.Table) → Valued job.Table (λ tag. an.Table) p.tags tables
          → font_value p same ≡ plain_of an.Font (p.font tables)
      font_by tables made = by_outcome job.Font (all_from (map job.Table p.tags) (λ id i.
          let m = In-map job.Table p.tags id i in
          subst IsDoneJob m.2 (valued_done job.Table (λ tag. an.Table) p.tags tables made m.0 m.1)))
          ∙ ap (λ o. o.value) (on_some _ _ tables (read_all_is (as_table p) job.Font job.Table
          (λ tag. an.Table) (λ tag bytes. refl) p.tags tables made (λ tag i. map-In job.Table p.tags
          tag i)))
          ∙ settle_value an.Font (none p same) (p.font tables)

      -- ---- the parts' answers, and the values

      pub all_drawn : (glyphs : List ℕ) (flats : List p.Flat)
          → AllDrawn p tree header index glyphs flats
          → Valued job.Flat (λ glyph. an.Flat) glyphs flats
      unfolding Valued
      all_drawn [] [] no_more = tt
      all_drawn [] (flat ∷ flats) d = elim d [ ]
      all_drawn (glyph ∷ glyphs) [] d = elim d [ ]
      all_drawn (glyph ∷ glyphs) (flat ∷ flats) (one_more _ raw of_bases _ _ _ read drawn made rest)
          = (
            of_answer an.Flat (p.flat raw index of_bases) (flat_value p same glyph) flat
                (flat_by glyph raw of_bases (of_answer an.Raw (p.raw tree header index glyph)
                (raw_value p same glyph) raw (raw_by glyph) read)
                (all_drawn (p.bases raw index) of_bases drawn)) made,
            all_drawn glyphs flats rest,
          )

      -- a glyph that is drawn has data of its kind
      module _ (order : p.Order) (order_is : order_value p same ≡ Done (an.Order order)) where
        part_value_is : (glyph : ℕ) (flat : p.Flat)
            → flat_value p same glyph ≡ Done (an.Flat flat)
            → value_of p same (part_of p same glyph)
            ≡ plain_of (part_item glyph) (part p header order flat)
        part_value_is glyph flat is = subst (λ kind. value_of p same (part_in p same kind glyph)
            ≡ plain_of (item_of kind) (part p header order flat)) (sym (kind_is glyph flat is))
            (part_by glyph order flat (p.is_composite flat) order_is is)

        pub all_written : (glyphs : List ℕ) (flats : List p.Flat) (parts : List p.Data)
            → Valued job.Flat (λ glyph. an.Flat) glyphs flats
            → AllMade (part p header order) flats parts
            → Valued (part_of p same) part_item glyphs parts
        unfolding Valued
        all_written [] [] [] v m = tt
        all_written [] [] (bytes ∷ parts) v m = absurd m
        all_written [] (flat ∷ flats) parts v m = absurd v
        all_written (glyph ∷ glyphs) [] parts v m = absurd v
        all_written (glyph ∷ glyphs) (flat ∷ flats) [] v m = absurd m
        all_written (glyph ∷ glyphs) (flat ∷ flats) (bytes ∷ parts) v m = (
          of_answer (part_item glyph) (part p header order flat)
              (value_of p same (part_of p same glyph)) bytes (part_value_is glyph flat v.0) m.0,
          all_written glyphs flats parts v.1 m.1,
        )

        pub record Writings (flats : List p.Flat) : Type 0 where
          pub parts : List p.Data
          pub written_are : AllMade (part p header order) flats parts

        pub writings : (glyphs : List ℕ) (flats : List p.Flat)
            → Valued job.Flat (λ glyph. an.Flat) glyphs flats
            → ((glyph : ℕ) → In glyph glyphs
            → is_done (value_of p same (part_of p same glyph)) ≡ true)
            → Writings flats
        unfolding Valued
        writings [] [] v done = record { parts = []; written_are = tt }
        writings [] (flat ∷ flats) v done = absurd v
        writings (glyph ∷ glyphs) [] v done = absurd v
        writings (glyph ∷ glyphs) (flat ∷ flats) v done =
            let made = answered (part_item glyph) (part p header order flat)
            (value_of p same (part_of p same glyph)) (part_value_is glyph flat v.0)
            (done glyph (inl refl)) in
            let more = writings glyphs flats v.1 (λ g i. done g (inr i)) in
            record { parts = made.0 ∷ more.parts; written_are = (made.1, more.written_are) }

      all_varied_from : (glyphs : List ℕ) (flats : List p.Flat) (variations : List p.Data)
          → Valued job.Flat (λ glyph. an.Flat) glyphs flats
          → AllMade (p.variations header index) flats variations
          → Valued job.Variations (λ glyph. an.Variations) glyphs variations
      unfolding Valued
      all_varied_from [] [] [] v m = tt
      all_varied_from [] [] (part ∷ parts) v m = absurd m
      all_varied_from [] (flat ∷ flats) parts v m = absurd v
      all_varied_from (glyph ∷ glyphs) [] parts v m = absurd v
      all_varied_from (glyph ∷ glyphs) (flat ∷ flats) [] v m = absurd m
      all_varied_from (glyph ∷ glyphs) (flat ∷ flats) (part ∷ parts) v m = (
        of_answer an.Variations (p.variations header index flat)
            (variations_value p same glyph) part (variations_by glyph flat v.0) m.0,
        all_varied_from glyphs flats parts v.1 m.1,
      )

      none_varied : (variations : List p.Data) → AllMade (p.variations header index) [] variations
          → Valued job.Variations (λ glyph. an.Variations) [] variations
      unfolding Valued
      none_varied [] m = tt
      none_varied (part ∷ parts) m = absurd m

      pub all_varied : (glyphs : List ℕ) (flats : List p.Flat) (variations : List p.Data)
          → Valued job.Flat (λ glyph. an.Flat) glyphs flats
          → AllMade (p.variations header index) (varying p header flats) variations
          → Valued job.Variations (λ glyph. an.Variations) (varied_of (p.is_variable header) glyphs)
          variations
      all_varied glyphs flats variations v m = by (p.is_variable header) m
        where
          by : (b : Bool) → AllMade (p.variations header index) (cond b flats []) variations
              → Valued job.Variations (λ glyph. an.Variations) (varied_of b glyphs) variations
          by true m = all_varied_from glyphs flats variations v m
          by false m = none_varied variations m

      pub all_made : (make : Tag → Result p.Table Refusal)
          → ((tag : Tag) → table_value p same tag ≡ plain_of an.Table (make tag))
          → (tags : List Tag) (tables : List p.Table) → AllMade make tags tables → Valued job.Table
          (λ tag. an.Table) tags tables
      unfolding Valued
      all_made make by [] [] m = tt
      all_made make by [] (made ∷ tables) m = absurd m
      all_made make by (tag ∷ tags) [] m = absurd m
      all_made make by (tag ∷ tags) (made ∷ tables) m = (
        of_answer an.Table (make tag) (table_value p same tag) made (by tag) m.0,
        all_made make by tags tables m.1,
      )

      -- what answers has a value, so what has a value was answered
      pub record Drawings (glyphs : List ℕ) : Type 0 where
        pub flats : List p.Flat
        pub drawn_are : AllDrawn p tree header index glyphs flats

      pub record Drawing (glyph : ℕ) : Type 0 where
        pub raw : p.Raw
        pub of_bases : List p.Flat
        pub flat : p.Flat
        pub raw_made : p.raw tree header index glyph ≡ Ok raw
        pub bases_drawn : AllDrawn p tree header index (p.bases raw index) of_bases
        pub flat_made : p.flat raw index of_bases ≡ Ok flat
        pub flat_is : flat_value p same glyph ≡ Done (an.Flat flat)

      each_drawn : (glyphs : List ℕ) → ((glyph : ℕ) → In glyph glyphs → Drawing glyph)
          → Drawings glyphs
      each_drawn [] each = record { flats = []; drawn_are = no_more }
      each_drawn (glyph ∷ glyphs) each =
          let d = each glyph (inl refl) in
          let more = each_drawn glyphs (λ g i. each g (inr i)) in
          record {
            flats = d.flat ∷ more.flats;
            drawn_are = one_more glyph d.raw d.of_bases d.flat glyphs more.flats d.raw_made
                d.bases_drawn d.flat_made more.drawn_are;
          }

      drawing_within : (depth glyph : ℕ) → is_found_within p same depth glyph ≡ true
          → is_done (flat_value p same glyph) ≡ true → Drawing glyph
      drawing_within zero glyph e done =
          absurd (none_at_once (bases p same) (is_read p same) glyph e)
      drawing_within (suc depth) glyph e done =
          let raw = answered an.Raw (p.raw tree header index glyph) (raw_value p same glyph)
          (raw_by glyph) (part_done (job.Flat glyph) done (job.Raw glyph) (inl refl)) in
          let from : (base : ℕ) → In base (p.bases raw.0 index) → In base (bases p same glyph)
          = λ base i. subst (λ bs. In base bs) (sym (bases_are glyph raw.0 raw.2)) i in
          let below = each_drawn (p.bases raw.0 index) (λ base i.
          drawing_within depth base
          (ended_base (bases p same) (is_read p same) depth glyph base e (from base i))
          (part_done (job.Flat glyph) done (job.Flat base)
          (inr (inr (map-In job.Flat (bases p same glyph) base (from base i)))))) in
          let flat = answered an.Flat (p.flat raw.0 index below.flats) (flat_value p same glyph)
          (flat_by glyph raw.0 below.flats raw.2
          (all_drawn (p.bases raw.0 index) below.flats below.drawn_are)) done in
          record {
            raw = raw.0;
            of_bases = below.flats;
            flat = flat.0;
            raw_made = raw.1;
            bases_drawn = below.drawn_are;
            flat_made = flat.1;
            flat_is = flat.2;
          }

      pub drawing : (glyph : ℕ) → is_done (flat_value p same glyph) ≡ true → Drawing glyph
      drawing glyph done = drawing_within (suc (length (all p same))) glyph
          (found_of_done p same glyph done) done

      pub drawings : (glyphs : List ℕ) → ((glyph : ℕ) → In glyph glyphs
          → is_done (flat_value p same glyph) ≡ true) → Drawings glyphs
      drawings glyphs done = each_drawn glyphs (λ glyph i. drawing glyph (done glyph i))

      pub record Varyings (flats : List p.Flat) : Type 0 where
        pub variations : List p.Data
        pub varied_are : AllMade (p.variations header index) flats variations

      varyings_from : (glyphs : List ℕ) (flats : List p.Flat)
          → Valued job.Flat (λ glyph. an.Flat) glyphs flats
          → ((glyph : ℕ) → In glyph glyphs → is_done (variations_value p same glyph) ≡ true)
          → Varyings flats
      unfolding Valued
      varyings_from [] [] v done = record { variations = []; varied_are = tt }
      varyings_from [] (flat ∷ flats) v done = absurd v
      varyings_from (glyph ∷ glyphs) [] v done = absurd v
      varyings_from (glyph ∷ glyphs) (flat ∷ flats) v done =
          let part = answered an.Variations (p.variations header index flat)
          (variations_value p same glyph) (variations_by glyph flat v.0)
          (done glyph (inl refl)) in
          let more = varyings_from glyphs flats v.1 (λ g i. done g (inr i)) in
          record { variations = part.0 ∷ more.variations; varied_are = (part.1, more.varied_are) }

      pub varyings : (glyphs : List ℕ) (flats : List p.Flat)
          → Valued job.Flat (λ glyph. an.Flat) glyphs flats
          → ((glyph : ℕ) → In glyph (varied_of (p.is_variable header) glyphs)
          → is_done (variations_value p same glyph) ≡ true)
          → Varyings (varying p header flats)
      varyings glyphs flats v done = by (p.is_variable header) done
        where
          by : (b : Bool) → ((glyph : ℕ) → In glyph (varied_of b glyphs)
              → is_done (variations_value p same glyph) ≡ true) → Varyings (cond b flats [])
          by true done = varyings_from glyphs flats v done
          by false done = record { variations = []; varied_are = tt }

      pub record Tables (make : Tag → Result p.Table Refusal) (tags : List Tag) : Type 0 where
        pub tables : List p.Table
        pub made_are : AllMade make tags tables

      pub tables_of : (make : Tag → Result p.Table Refusal)
          → ((tag : Tag) → table_value p same tag ≡ plain_of an.Table (make tag))
          → (tags : List Tag) → ((tag : Tag) → In tag tags → is_done (table_value p same tag) ≡
          true)
          → Tables make tags
      tables_of make by [] done = record { tables = []; made_are = tt }
      tables_of make by (tag ∷ tags) done =
          let made = answered an.Table (make tag) (table_value p same tag) (by tag)
          (done tag (inl refl)) in
          let more = tables_of make by tags (λ t i. done t (inr i)) in
          record { tables = made.0 ∷ more.tables; made_are = (made.1, more.made_are) }

  -- ---- the font

  pub made_font : (font : p.File) → IsFontOf p font → font_value p same ≡ Done (an.Font font)
  made_font font f =
      let tree_is = of_answer an.Tree p.tree (tree_value p same) f.tree tree_by f.tree_read in
      let header_is = of_answer an.Header (p.header f.tree) (header_value p same) f.header
      (header_by f.tree tree_is) f.header_read in
      let index_is = of_answer an.Index (p.index f.tree) (index_value p same) f.index
      (index_by f.tree tree_is) f.index_read in
      let flats = all_drawn f.tree tree_is f.header f.index header_is index_is
      (p.numbers f.index) f.flats f.glyphs_drawn in
      let order_is = of_answer an.Order (p.order f.header f.index f.flats) (order_value p same)
      f.order (order_by f.tree tree_is f.header f.index header_is index_is f.flats flats)
      f.glyphs_ordered in
      let measures_is = of_answer an.Advances (p.measures f.header f.order f.flats)
      (advances_value p same) f.measures
      (advances_by f.tree tree_is f.header f.index header_is index_is f.flats flats f.order
      order_is) f.glyphs_measured in
      let parts = all_written f.tree tree_is f.header f.index header_is index_is f.order order_is
      (p.numbers f.index) f.flats f.parts flats f.glyphs_written in
      let varied_so = all_varied f.tree tree_is f.header f.index header_is index_is
      (p.numbers f.index) f.flats f.variations flats f.glyphs_varied in
      let tables = all_made f.tree tree_is f.header f.index header_is index_is
      (table p f.header f.index f.order f.measures f.parts f.variations)
      (table_by f.tree tree_is f.header f.index header_is index_is f.flats flats f.order
      order_is f.measures measures_is f.parts f.variations parts varied_so) p.tags f.tables
      f.tables_made in
      of_answer an.Font (p.font f.tables) (font_value p same) font
      (font_by f.tree tree_is f.header f.index header_is index_is f.tables tables) f.is_font

  same_file : (made font : p.File) → ◌≡◌ {A = Plain (Item p)} (Done (an.Font made))
      (Done (an.Font font))
      → made ≡ font
  same_file made font e = some_same (ap (λ v. option_and_then (as_font p) (done_value v)) e)
    where
      some_same : Some made ≡ Some font → made ≡ font
      some_same e = cc
