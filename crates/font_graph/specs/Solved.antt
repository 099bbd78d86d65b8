-- The plan of a graph is solved: it is what its ids tell, so it keeps the laws of plans, and its
-- limit is this solution. For the plans of crates above. fontc's own.
use Rattle.std.proofs.Common.{◌≡◌, ℕ, ◌<◌, ◌≤◌, Bool, true, false, cond, ◌⊎◌, inl, inr, List, []}
use Rattle.std.proofs.Common.{◌∷◌, ◌++◌, map, length, zero, suc, Option, Some, None, refl, sym, ap}
use Rattle.std.proofs.Common.{◌∙◌, subst, arith}
use Rattle.std.specs.Prelude.{Contains, ◌↔◌, IsTrue, option_and_then}
use Rattle.std.specs.Prelude.{◌&&◌}
use Rattle.std.proofs.lemmas.Bool.{false≢true, cases_Bool, and_parts, and_from}
use Rattle.access_context.specs.declared.access.Spec.{Spec}
use Rattle.access_context.specs.Plain.{Plain, Done, PlainOutcome, is_done, done_value}
use Rattle.access_context.specs.Read.{read_of}
use Rattle.font_ir.specs.declared.tag.Tag.{Tag}
use Rattle.job_graph.specs.Members.{In, In-append_left, In-append_right, In-append_cases}
use Rattle.job_graph.specs.Members.{In-from_Contains, Contains-from_In, list_all-In}
use Rattle.job_graph.specs.Solutions.{Founded, opened, added, IsMade, IsSolution}
use Rattle.font_graph.specs.Parts.{Parts, Needs, Nothing, TheIndex, TheMeasures}
use Rattle.font_graph.specs.Parts.{TheMeasuresAndIndex, TheOutlines, TheVariations}
use Rattle.font_graph.specs.Kinds.{stratum_of, awaited_by}
use Rattle.font_graph.specs.Descent.{ended_read, ended_base, none_at_once}
use Rattle.font_graph.specs.Graph.{Item, as_header, as_index, as_raw, as_flat, Numbers, part_job}
use Rattle.font_graph.specs.Graph.{spec_with, needed, varied_of, of_index, of_glyph, none}
use Rattle.font_graph.specs.Graph.{after_index, after_raw, after_flat, after_order, index_value}
use Rattle.font_graph.specs.Graph.{header_value, header_known, index_known, all_in, numbers_in}
use Rattle.font_graph.specs.Graph.{exported_in, varies_in, all, exported, varies, varied, raw_value}
use Rattle.font_graph.specs.Graph.{bases_in, bases, is_read, is_found_within, is_found}
use Rattle.font_graph.specs.Graph.{flat_value, flat_known, kind_in, kind_of, part_in, part_of}
use Rattle.font_graph.specs.Graph.{part_ids}
use Rattle.font_graph.specs.Graph.{numbers, order_value, flat_items, tree_value, Reached, by_export}
use Rattle.font_graph.specs.Graph.{by_base, value_of, spec_of, There, plan, read_as}
use Rattle.font_graph.specs.Graph.{reads_with}
use Rattle.font_graph.specs.declared.ids.JobId.{JobId}
use Rattle.font_graph.specs.declared.ids.JobId.TheVariants as job
use Rattle.font_graph.specs.declared.items.Item.TheVariants as an
use Rattle.font_graph.specs.Outcomes.{map-In, In-map, none_awaited, awaited_is, base_there}
use Rattle.font_graph.specs.Outcomes.{found_base, found_of_done, parts_are, flat_next}
use Rattle.font_graph.specs.Outcomes.{leaf_composite}
use Rattle.font_graph.specs.Outcomes.{reads_done, quiet, with_value, S, items, value, leaf_tree}
use Rattle.font_graph.specs.Outcomes.{leaf_header, leaf_simple, leaf_advances, leaf_table}
use Rattle.font_graph.specs.Outcomes.{leaf_font, makes_index, makes_raw, makes_flat, makes_order}
use Rattle.font_graph.specs.Outcomes.{order_next, raw_next, leaf_variations, Makes, IsLeaf}

module _ (p : Parts) (same : JobId → JobId → Bool) where
  -- ---- what is there

  pub numbers_are : (index : p.Index) → index_value p same ≡ Done (an.Index index)
      → p.numbers index ≡ exported p same
  numbers_are index e = sym (ap (λ v. numbers_in p same
      (option_and_then (as_index p) (done_value v))) e)

  pub varies_is : (header : p.Header) → header_value p same ≡ Done (an.Header header)
      → p.is_variable header ≡ varies p same
  varies_is header e = sym (ap (λ v. varies_in p same
      (option_and_then (as_header p) (done_value v))) e)

  -- where the index has no value no glyph has a number
  numbered : (glyph : ℕ) → In glyph (exported p same) → is_done (index_value p same) ≡ true
  numbered glyph i =
      elim (index_value p same) as (λ v.
      In glyph (numbers_in p same (option_and_then (as_index p) (done_value v)))
      → is_done v ≡ true) [
        | Done item ↦ λ j. refl
        | Rattle.access_context.specs.Plain.Refused refusal ↦ λ j. absurd j
        | Rattle.access_context.specs.Plain.Blocked ↦ λ j. absurd j
      ] i

  -- a glyph that varies is exported, in a font whose glyphs vary
  pub varied_in : (glyph : ℕ) → In glyph (varied p same)
      → In glyph (exported p same) × (varies p same ≡ true)
  varied_in glyph i = by (varies p same) i
    where
      by : (b : Bool) → In glyph (varied_of b (exported p same))
          → In glyph (exported p same) × (b ≡ true)
      by true j = (j, refl)
      by false j = absurd j

  pub in_varied : (glyph : ℕ) → In glyph (exported p same) → varies p same ≡ true
      → In glyph (varied p same)
  in_varied glyph i e = subst (λ b. In glyph (varied_of b (exported p same))) (sym e) i

  -- a glyph is among the exported ones exactly where the index says so
  pub exported_is : (glyph : ℕ) → exported_in p same (index_known p same) glyph ≡ true
      → In glyph (exported p same)
  exported_is glyph e = by (index_known p same) e
    where
      by : (o : Option p.Index) → exported_in p same o glyph ≡ true → In glyph (numbers_in p same o)
      by None f = absurd (false≢true f)
      by (Some index) f = (p.exported_are index glyph).0 f

  pub is_exported : (glyph : ℕ) → In glyph (exported p same)
      → exported_in p same (index_known p same) glyph ≡ true
  is_exported glyph i = by (index_known p same) i
    where
      by : (o : Option p.Index) → In glyph (numbers_in p same o) → exported_in p same o glyph ≡ true
      by None j = absurd j
      by (Some index) j = (p.exported_are index glyph).1 j

  -- and what is reached is among all
  pub reached_there : (glyph : ℕ) → Reached p same glyph → In glyph (all p same)
  reached_there glyph (by_export _ i) = by (index_known p same) i
    where
      by : (o : Option p.Index) → In glyph (numbers_in p same o) → In glyph (all_in p same o)
      by None j = absurd j
      by (Some index) j = p.numbers_there index glyph j
  reached_there glyph (by_base other _ reached i) = base_there p same other glyph i

  -- what has bases is read
  pub based_read : (glyph base : ℕ) → In base (bases p same glyph) → is_read p same glyph ≡ true
  based_read glyph base i =
      elim (raw_value p same glyph) as (λ v.
      In base (bases_in p same (option_and_then (as_raw p) (done_value v)) (index_known p same))
      → is_done v ≡ true) [
        | Done item ↦ λ j. refl
        | Rattle.access_context.specs.Plain.Refused refusal ↦ λ j. absurd j
        | Rattle.access_context.specs.Plain.Blocked ↦ λ j. absurd j
      ] i

  -- and what has a kind is drawn
  no_kind : (kind : Bool) → ◌≡◌ {A = Option Bool} None (Some kind) → ⊥
  no_kind kind e = cc

  pub kind_done : (glyph : ℕ) (kind : Bool) → kind_of p same glyph ≡ Some kind
      → is_done (flat_value p same glyph) ≡ true
  kind_done glyph kind e =
      elim (flat_value p same glyph) as (λ v.
      kind_in p same (option_and_then (as_flat p) (done_value v)) ≡ Some kind
      → is_done v ≡ true) [
        | Done item ↦ λ f. refl
        | Rattle.access_context.specs.Plain.Refused refusal ↦ λ f. absurd (no_kind kind f)
        | Rattle.access_context.specs.Plain.Blocked ↦ λ f. absurd (no_kind kind f)
      ] e

  abbrev index_items : List (JobId × Plain (Item p))
  index_items = (job.Tree, tree_value p same) ∷ []

  -- an index that is made adds these jobs
  index_adds : is_done (index_value p same) ≡ true → ((S p same) job.Index).added
      ≡ after_index p same (numbers p same)
  index_adds done = elim ((makes_index p same) index_items) [
    | inl m ↦ ap (λ o. o.added) m.1
        ∙ ap of (numbers_are m.0 (ap (λ o. o.value) m.1))
    | inr n ↦ absurd (false≢true (sym n.1 ∙ done))
  ]
    where
      of : List ℕ → List (Spec JobId)
      of glyphs = after_index p same
          (record { exported = glyphs; varied = []; bases = λ glyph. []; parts = [] })

  -- and otherwise none
  adds_none : {A : Type 0} (item : A → Item p) (adds : A → List (Spec JobId))
      (o : PlainOutcome (Item p) JobId) → (Makes p same) item adds o → is_done o.value ≡ false
      → o.added ≡ []
  adds_none item adds o (inl m) e = absurd (false≢true (sym e ∙ ap (λ o. is_done o.value) m.1))
  adds_none item adds o (inr n) e = n.0

  -- a job of which the added ones don't depend on its value
  adds_these : {A : Type 0} (item : A → Item p) (these : List (Spec JobId))
      (o : PlainOutcome (Item p) JobId) → (Makes p same) item (λ a. these) o
      → is_done o.value ≡ true
      → o.added ≡ these
  adds_these item these o (inl m) e = ap (λ o. o.added) m.1
  adds_these item these o (inr n) e = absurd (false≢true (sym n.1 ∙ e))

  adds_some : {A : Type 0} (item : A → Item p) (these : List (Spec JobId))
      (o : PlainOutcome (Item p) JobId) → (Makes p same) item (λ a. these) o → (s : Spec JobId)
      → In s o.added → (is_done o.value ≡ true) × In s these
  adds_some item these o (inl m) s i = (
    ap (λ o. is_done o.value) m.1,
    subst (λ ss. In s ss) (ap (λ o. o.added) m.1) i,
  )
  adds_some item these o (inr n) s i = absurd (subst (λ ss. In s ss) n.0 i)

  leaf_adds : (o : PlainOutcome (Item p) JobId) → (IsLeaf p same) o → (s : Spec JobId)
      → In s o.added → ⊥
  leaf_adds o l s i = subst (λ ss. In s ss) l i

  module _ (identity : (x y : JobId) → IsTrue (same x y) ↔ (x ≡ y)) where
    -- an item that is read has its value
    pub found : (ids : List JobId) (id : JobId) → In id ids
        → read_of same (map (with_value p same) ids) id ≡ Some (value_of p same id)
    found [] id i = absurd i
    found (x ∷ ids) id i =
        elim (same x id) as (λ b. same x id ≡ b → cond b (Some (value_of p same x))
        (read_of same (map (with_value p same) ids) id) ≡ Some (value_of p same id)) [
          | true ↦ λ e. ap (λ y. Some (value_of p same y)) ((identity x id).0 e)
          | false ↦ λ e. elim i [
            | inl here ↦ absurd (false≢true (sym e ∙ (identity x id).1 here))
            | inr there ↦ found ids id there
          ]
        ] refl

    -- so the header and the index that are read are those of the source
    header_so : (id : JobId) → In job.Header (reads_with p same (numbers p same) id)
        → (header : p.Header)
        → read_as p same (as_header p) ((items p same) id) job.Header ≡ Some header
        → header_known p same ≡ Some header
    header_so id there header e = sym (ap (λ o. option_and_then (as_header p)
        (option_and_then done_value o))
        (found (reads_with p same (numbers p same) id) job.Header there)) ∙ e

    index_so : (id : JobId) → In job.Index (reads_with p same (numbers p same) id)
        → (index : p.Index)
        → read_as p same (as_index p) ((items p same) id) job.Index ≡ Some index
        → index_known p same ≡ Some index
    index_so id there index e = sym (ap (λ o. option_and_then (as_index p)
        (option_and_then done_value o))
        (found (reads_with p same (numbers p same) id) job.Index there)) ∙ e

    flat_so : (id : JobId) (glyph : ℕ)
        → In (job.Flat glyph) (reads_with p same (numbers p same) id)
        → read_as p same (as_flat p) ((items p same) id) (job.Flat glyph)
        ≡ flat_known p same glyph
    flat_so id glyph there = ap (λ o. option_and_then (as_flat p) (option_and_then done_value o))
        (found (reads_with p same (numbers p same) id) (job.Flat glyph) there)

    -- what the jobs behind the order read
    abbrev order_numbers : Numbers
    order_numbers = record {
      exported = exported p same;
      varied = varied p same;
      bases = λ glyph. [];
      parts = part_ids p same;
    }

    abbrev numbers_by : Bool → List ℕ → List JobId → Numbers
    numbers_by varies glyphs parts = record {
      exported = glyphs;
      varied = varied_of varies glyphs;
      bases = λ glyph. [];
      parts = parts;
    }

    order_made : (Makes p same) an.Order ((order_next p same) order_numbers) ((S p same) job.Order)
    order_made = (makes_order p same) order_numbers ((items p same) job.Order)
        (λ header index flats e f g.
        let numbers_so : p.numbers index ≡ exported p same
        = sym (ap (numbers_in p same) (index_so job.Order (inr (inl refl)) index f)) in
        let varies_so : p.is_variable header ≡ varies p same
        = sym (ap (varies_in p same) (header_so job.Order (inl refl) header e)) in
        let parts_so = parts_are p same ((items p same) job.Order) (p.numbers index) flats g
        (λ glyph i. flat_so job.Order glyph (inr (inr (map-In job.Flat (exported p same) glyph
        (subst (λ ns. In glyph ns) numbers_so i))))) in
        ap (λ ids. numbers_by (p.is_variable header) (p.numbers index) ids) parts_so
        ∙ ap (λ b. numbers_by b (p.numbers index) (map (part_of p same) (p.numbers index)))
        varies_so
        ∙ ap (λ ns. numbers_by (varies p same) ns (map (part_of p same) ns)) numbers_so)

    -- ---- what a glyph adds

    abbrev is_varied : ℕ → Bool
    is_varied glyph = varies p same && exported_in p same (index_known p same) glyph

    abbrev raw_jobs : ℕ → List (Spec JobId)
    raw_jobs glyph = after_raw p same (is_varied glyph) (bases p same glyph) glyph

    raw_made : (glyph : ℕ)
        → (Makes p same) an.Raw ((raw_next p same) (header_known p same) (index_known p same) glyph)
        ((S p same) (job.Raw glyph))
    raw_made glyph = (makes_raw p same) glyph (header_known p same) (index_known p same)
        ((items p same) (job.Raw glyph)) (header_so (job.Raw glyph) (inr (inl refl)))
        (index_so (job.Raw glyph) (inr (inr (inl refl))))

    record Adds (glyph : ℕ) : Type 0 where
      done : is_done (raw_value p same glyph) ≡ true
      are : ((S p same) (job.Raw glyph)).added ≡ raw_jobs glyph

    raw_adds_these : (glyph : ℕ) (raw : p.Raw) → (S p same) (job.Raw glyph)
        ≡ record {
          value = Done (an.Raw raw);
          added = (raw_next p same) (header_known p same) (index_known p same) glyph raw;
        } → Adds glyph
    raw_adds_these glyph raw e = record {
      done = ap (λ o. is_done o.value) e;
      are = ap (λ o. o.added) e
          ∙ ap (λ o. after_raw p same (is_varied glyph) (bases_in p same o (index_known p same))
          glyph)
          (sym (ap (λ o. option_and_then (as_raw p) (done_value o.value)) e));
    }

    raw_adds_if : (glyph : ℕ) → is_done (raw_value p same glyph) ≡ true → Adds glyph
    raw_adds_if glyph done = elim (raw_made glyph) [
      | inl m ↦ raw_adds_these glyph m.0 m.1
      | inr n ↦ absurd (false≢true (sym n.1 ∙ done))
    ]

    raw_adds_some : (glyph : ℕ) (s : Spec JobId) → In s ((S p same) (job.Raw glyph)).added
        → Adds glyph
    raw_adds_some glyph s i = elim (raw_made glyph) [
      | inl m ↦ raw_adds_these glyph m.0 m.1
      | inr n ↦ absurd (subst (λ ss. In s ss) n.0 i)
    ]

    flat_made : (glyph : ℕ) → (Makes p same) an.Flat ((flat_next p same) (index_known p same) glyph)
        ((S p same) (job.Flat glyph))
    flat_made glyph = (makes_flat p same) glyph (index_known p same)
        ((items p same) (job.Flat glyph)) (index_so (job.Flat glyph) (inr (inl refl)))

    pub record Draws (glyph : ℕ) : Type 0 where
      pub kind : Bool
      pub kind_is : kind_of p same glyph ≡ Some kind
      pub are : ((S p same) (job.Flat glyph)).added
          ≡ after_flat p same (exported_in p same (index_known p same) glyph) kind glyph

    flat_draws : (glyph : ℕ) (flat : p.Flat) → (S p same) (job.Flat glyph)
        ≡ record {
          value = Done (an.Flat flat);
          added = (flat_next p same) (index_known p same) glyph flat;
        } → Draws glyph
    flat_draws glyph flat e = record {
      kind = p.is_composite flat;
      kind_is = ap (λ v. kind_in p same (option_and_then (as_flat p) (done_value v)))
          (sym ((value p same) (job.Flat glyph)) ∙ ap (λ o. o.value) e);
      are = ap (λ o. o.added) e;
    }

    pub flat_draws_if : (glyph : ℕ) → is_done (flat_value p same glyph) ≡ true → Draws glyph
    flat_draws_if glyph done = elim (flat_made glyph) [
      | inl m ↦ flat_draws glyph m.0 m.1
      | inr n ↦ absurd (false≢true (sym n.1 ∙ (ap is_done ((value p same) (job.Flat glyph)) ∙
          done)))
    ]

    flat_draws_some : (glyph : ℕ) (s : Spec JobId) → In s ((S p same) (job.Flat glyph)).added
        → Draws glyph
    flat_draws_some glyph s i = elim (flat_made glyph) [
      | inl m ↦ flat_draws glyph m.0 m.1
      | inr n ↦ absurd (subst (λ ss. In s ss) n.0 i)
    ]

    -- the one job that a drawn glyph adds, where it is exported
    part_spec : (kind : Bool) (glyph : ℕ)
        → spec_with p same (of_glyph p same) (part_job kind glyph) ≡ spec_of p same (part_job kind
        glyph)
    part_spec true glyph = refl
    part_spec false glyph = refl

    in_after_flat : (exported_so kind : Bool) (glyph : ℕ) (s : Spec JobId)
        → In s (after_flat p same exported_so kind glyph)
        → (exported_so ≡ true) × (spec_of p same (part_job kind glyph) ≡ s)
    in_after_flat true kind glyph s i = elim i [
      | inl e ↦ (refl, sym (part_spec kind glyph) ∙ e)
      | inr none ↦ absurd none
    ]
    in_after_flat false kind glyph s i = absurd i

    part_there : (kind : Bool) (glyph : ℕ) → In glyph (exported p same)
        → kind_of p same glyph ≡ Some kind → There p same (part_job kind glyph)
    part_there true glyph i e = (i, e)
    part_there false glyph i e = (i, e)

    abbrev has_value : JobId × Plain (Item p) → Bool
    has_value item = is_done item.1

    abbrev order_items : List (JobId × Plain (Item p))
    order_items = (job.Header, header_value p same) ∷ (job.Index, index_value p same)
        ∷ flat_items p same

    -- of what is read in the order each flat glyph has a value
    pub flats_done : is_done (order_value p same) ≡ true → (glyph : ℕ) → In glyph (exported p same)
        → is_done (flat_value p same glyph) ≡ true
    flats_done done glyph i =
        let all = (reads_done p same) job.Order order_items done in
        list_all-In has_value order_items (job.Flat glyph, flat_value p same glyph) all
        (inr (inr (map-In (λ g. (job.Flat g, flat_value p same g)) (exported p same) glyph i)))

    index_done : is_done (order_value p same) ≡ true → is_done (index_value p same) ≡ true
    index_done done = list_all-In has_value order_items (job.Index, index_value p same)
        ((reads_done p same) job.Order order_items done) (inr (inl refl))

    pub raw_done : (glyph : ℕ) → is_done (flat_value p same glyph) ≡ true
        → is_done (raw_value p same glyph) ≡ true
    raw_done glyph done = ended_read (bases p same) (is_read p same) (suc (length (all p same)))
        glyph
        (found_of_done p same glyph done)

    abbrev IsJob : Spec JobId → Type 0
    IsJob s = There p same s.id × (s ≡ spec_of p same s.id)

    -- a job that is there adds jobs that are there
    adds_there : (id : JobId) → There p same id → (s : Spec JobId) → In s ((S p same) id).added
        → IsJob s
    adds_there job.Tree there s i = absurd
        (leaf_adds ((S p same) job.Tree) ((leaf_tree p same) ((items p same) job.Tree)) s i)
    adds_there job.Header there s i = absurd
        (leaf_adds ((S p same) job.Header) ((leaf_header p same) ((items p same) job.Header)) s i)
    adds_there job.Index there s i = elim (cases_Bool (is_done (index_value p same))) [
      | inl done ↦ after_index_there done (subst (λ ss. In s ss) (index_adds done) i)
      | inr not ↦ absurd (subst (λ ss. In s ss) (adds_none an.Index
          (λ index. after_index p same (of_index p same index)) ((S p same) job.Index)
          ((makes_index p same) index_items)
          not) i)
    ]
      where
        after_index_there : is_done (index_value p same) ≡ true
            → In s (after_index p same (numbers p same)) → IsJob s
        after_index_there done j = elim (In-append_cases
            (map (λ g. spec_with p same (of_glyph p same) (job.Raw g)) (exported p same)) _ s j) [
              | inl raws ↦ let m = In-map (λ g. spec_with p same (of_glyph p same) (job.Raw g))
                  (exported p same) s raws in subst IsJob m.2 (by_export m.0 m.1, refl)
              | inr order ↦ elim order [
                | inl e ↦ subst IsJob e (done, refl)
                | inr none ↦
                    absurd none
              ]
            ]
    adds_there (job.Raw glyph) there s i =
        let a = raw_adds_some glyph s i in
        elim (subst (λ ss. In s ss) a.are i) [
          | inl e ↦ subst IsJob e ((there, a.done), refl)
          | inr more ↦ elim (In-append_cases
              (map (λ base. spec_with p same (of_glyph p same) (job.Raw base)) (bases p same glyph))
              _ s more) [
                | inl raws ↦ let m = In-map
                    (λ base. spec_with p same (of_glyph p same) (job.Raw base)) (bases p same glyph)
                    s
                    raws in subst IsJob m.2 (by_base glyph m.0 there m.1, refl)
                | inr last ↦ by (is_varied glyph) refl a.done last
              ]
        ]
      where
        by : (b : Bool) → is_varied glyph ≡ b → is_done (raw_value p same glyph) ≡ true
            → In s (cond b (spec_with p same (of_glyph p same) (job.Variations glyph) ∷ []) [])
            → IsJob s
        by true v done j = elim j [
          | inl e ↦
              let parts = and_parts (varies p same) _ v in
              subst IsJob e
              ((in_varied glyph (exported_is glyph parts.1) parts.0, done), refl)
          | inr none ↦ absurd none
        ]
        by false v done j = absurd j
    adds_there (job.Flat glyph) there s i =
        let d = flat_draws_some glyph s i in
        let m = in_after_flat (exported_in p same (index_known p same) glyph) d.kind glyph s
        (subst (λ ss. In s ss) d.are i) in
        subst IsJob m.1 (part_job_so d.kind (exported_is glyph m.0) d.kind_is)
      where
        part_job_so : (kind : Bool) → In glyph (exported p same)
            → kind_of p same glyph ≡ Some kind → IsJob (spec_of p same (part_job kind glyph))
        part_job_so true j e = ((j, e), refl)
        part_job_so false j e = ((j, e), refl)
    adds_there (job.Composite glyph) there s i
        = absurd (leaf_adds ((S p same) (job.Composite glyph))
        ((leaf_composite p same) glyph ((items p same) (job.Composite glyph))) s i)
    adds_there (job.Simple glyph) there s i
        = absurd (leaf_adds ((S p same) (job.Simple glyph))
        ((leaf_simple p same) glyph ((items p same) (job.Simple glyph))) s
        i)
    adds_there (job.Variations glyph) there s i
        = absurd (leaf_adds ((S p same) (job.Variations glyph))
        ((leaf_variations p same) glyph ((items p same) (job.Variations glyph))) s i)
    adds_there job.Order there s i =
        let a = adds_some an.Order (after_order p same order_numbers) ((S p same) job.Order)
        order_made s i
        in
        let done : is_done (order_value p same) ≡ true = sym (ap is_done ((value p same) job.Order))
        ∙ a.0 in
        elim a.1 [
          | inl e ↦ subst IsJob e (done, refl)
          | inr more ↦ elim more [
            | inl e ↦ subst IsJob e (done, refl)
            | inr tables ↦ let m = In-map (λ tag. spec_with p same (numbers p same) (job.Table tag))
                p.tags s tables in subst IsJob m.2 ((m.1, done), refl)
          ]
        ]
    adds_there job.Advances there s i = absurd
        (leaf_adds ((S p same) job.Advances) ((leaf_advances p same) ((items p same) job.Advances))
        s i)
    adds_there (job.Table tag) there s i = absurd
        (leaf_adds ((S p same) (job.Table tag))
        ((leaf_table p same) tag ((items p same) (job.Table tag))) s i)
    adds_there job.Font there s i = absurd
        (leaf_adds ((S p same) job.Font) ((leaf_font p same) ((items p same) job.Font)) s i)
    adds_there _ there s i = absurd there

    -- ---- what is founded

    Is : JobId → Type 0
    Is id = Founded same (plan p same) (spec_of p same) (There p same) (value_of p same) id

    no_wait : (id : JobId) → awaited_by id ≡ None → (stratum : ℕ) (other : JobId)
        → awaited_by id ≡ Some stratum → There p same other → stratum_of other ≤ stratum
        → Is other
    no_wait id n stratum other e there low = absurd (none_awaited stratum (sym n ∙ e))

    founded_tree : Is job.Tree
    unfolding Is
    founded_tree = opened job.Tree (Contains-from_In (plan p same).opening (spec_of p same job.Tree)
        (inl refl)) (λ read c. absurd (In-from_Contains [] read c)) (no_wait (job.Tree) refl)

    founded_header : Is job.Header
    unfolding Is
    founded_header = opened job.Header (Contains-from_In (plan p same).opening
        (spec_of p same job.Header) (inr (inl refl)))
        (λ read c. elim (In-from_Contains (job.Tree ∷ []) read c)
        [ inl e ↦ subst Is e founded_tree | inr n ↦ absurd n ])
        (no_wait (job.Header) refl)

    founded_index : Is job.Index
    unfolding Is
    founded_index = opened job.Index (Contains-from_In (plan p same).opening
        (spec_of p same job.Index) (inr (inr (inl refl))))
        (λ read c. elim (In-from_Contains (job.Tree ∷ []) read c)
        [ inl e ↦ subst Is e founded_tree | inr n ↦ absurd n ])
        (no_wait (job.Index) refl)

    index_has : is_done (index_value p same) ≡ true → (s : Spec JobId)
        → In s (after_index p same (numbers p same)) → Contains ((S p same) job.Index).added s
    index_has done s i = Contains-from_In ((S p same) job.Index).added s
        (subst (λ ss. In s ss) (sym (index_adds done)) i)

    raw_added : (glyph : ℕ) → In glyph (exported p same)
        → Contains ((S p same) job.Index).added (spec_of p same (job.Raw glyph))
    raw_added glyph i = index_has (numbered glyph i) (spec_of p same (job.Raw glyph))
        (In-append_left (map (λ g. spec_with p same (of_glyph p same) (job.Raw g)) (exported p
        same))
        (spec_of p same job.Order ∷ []) (spec_of p same (job.Raw glyph))
        (map-In (λ g. spec_with p same (of_glyph p same) (job.Raw g)) (exported p same) glyph i))

    raw_adds : (glyph : ℕ) → is_done (raw_value p same glyph) ≡ true → (id : JobId)
        → In (spec_of p same id) (raw_jobs glyph)
        → Contains ((S p same) (job.Raw glyph)).added (spec_of p same id)
    raw_adds glyph done id i = Contains-from_In ((S p same) (job.Raw glyph)).added
        (spec_of p same id) (subst (λ ss. In (spec_of p same id) ss)
        (sym (raw_adds_if glyph done).are) i)

    base_added : (glyph base : ℕ) → In base (bases p same glyph)
        → Contains ((S p same) (job.Raw glyph)).added (spec_of p same (job.Raw base))
    base_added glyph base i = raw_adds glyph (based_read glyph base i) (job.Raw base) (inr
        (In-append_left (map (λ base. spec_with p same (of_glyph p same) (job.Raw base))
        (bases p same glyph)) _ (spec_of p same (job.Raw base))
        (map-In (λ base. spec_with p same (of_glyph p same) (job.Raw base)) (bases p same glyph)
        base i)))

    raw_reads_founded : (read : JobId)
        → Contains (job.Tree ∷ job.Header ∷ job.Index ∷ []) read → Is read
    raw_reads_founded read c =
        elim (In-from_Contains (job.Tree ∷ job.Header ∷ job.Index ∷ []) read c) [
          | inl e ↦ subst Is e founded_tree
          | inr c ↦ elim c [
            | inl e ↦ subst Is e founded_header
            | inr c ↦ elim c [ inl e ↦ subst Is e founded_index | inr n ↦ absurd n ]
          ]
        ]

    founded_raw : (glyph : ℕ) → Reached p same glyph → Is (job.Raw glyph)
    unfolding Is
    founded_raw glyph (by_export _ i) = added (job.Raw glyph) job.Index founded_index
        (raw_added glyph i) raw_reads_founded (no_wait (job.Raw glyph) refl)
    founded_raw glyph (by_base other _ reached i) = added (job.Raw glyph) (job.Raw other)
        (founded_raw other reached) (base_added other glyph i) raw_reads_founded
        (no_wait (job.Raw glyph) refl)

    flat_added : (glyph : ℕ) → is_done (raw_value p same glyph) ≡ true
        → Contains ((S p same) (job.Raw glyph)).added (spec_of p same (job.Flat glyph))
    flat_added glyph done = raw_adds glyph done (job.Flat glyph) (inl refl)

    variations_added : (glyph : ℕ) → In glyph (varied p same)
        → is_done (raw_value p same glyph) ≡ true
        → Contains ((S p same) (job.Raw glyph)).added (spec_of p same (job.Variations glyph))
    variations_added glyph i done =
        let is = varied_in glyph i in
        raw_adds glyph done (job.Variations glyph) (inr
        (In-append_right (map (λ base. spec_with p same (of_glyph p same) (job.Raw base))
        (bases p same glyph)) _ (spec_of p same (job.Variations glyph))
        (subst (λ b. In (spec_of p same (job.Variations glyph))
        (cond b (spec_with p same (of_glyph p same) (job.Variations glyph) ∷ []) []))
        (sym (and_from (varies p same) _ is.1 (is_exported glyph is.0))) (inl refl))))

    -- a glyph that is found is drawn, and so are its bases
    flat_is_founded : (depth glyph : ℕ) → is_found_within p same depth glyph ≡ true
        → Reached p same glyph → Is (job.Flat glyph)
    unfolding Is
    flat_is_founded zero glyph e reached =
        absurd (none_at_once (bases p same) (is_read p same) glyph e)
    flat_is_founded (suc depth) glyph e reached =
        added (job.Flat glyph) (job.Raw glyph) (founded_raw glyph reached)
        (flat_added glyph (ended_read (bases p same) (is_read p same) (suc depth) glyph e))
        (λ read c. elim (In-from_Contains
        (job.Raw glyph ∷ job.Index ∷ map job.Flat (bases p same glyph)) read c) [
          | inl e ↦ subst Is e (founded_raw glyph reached)
          | inr c ↦ elim c [
            | inl e ↦ subst Is e founded_index
            | inr c ↦ let m = In-map job.Flat (bases p same glyph) read c in
                subst Is m.2 (flat_is_founded depth m.0
                (ended_base (bases p same) (is_read p same) depth glyph m.0 e m.1)
                (by_base glyph m.0 reached m.1))
          ]
        ]) (no_wait (job.Flat glyph) refl)

    founded_flat : (glyph : ℕ) → Reached p same glyph → is_found p same glyph ≡ true
        → Is (job.Flat glyph)
    founded_flat glyph reached e = flat_is_founded (suc (length (all p same))) glyph e reached

    drawn_founded : (glyph : ℕ) → In glyph (exported p same)
        → is_done (flat_value p same glyph) ≡ true → Is (job.Flat glyph)
    drawn_founded glyph i done = founded_flat glyph (by_export glyph i)
        (found_of_done p same glyph done)

    same_kind : (a b : Bool) → ◌≡◌ {A = Option Bool} (Some a) (Some b) → a ≡ b
    same_kind a b e = cc

    part_added : (glyph : ℕ) (kind : Bool) → In glyph (exported p same)
        → kind_of p same glyph ≡ Some kind
        → Contains ((S p same) (job.Flat glyph)).added (spec_of p same (part_job kind glyph))
    part_added glyph kind i e =
        let d = flat_draws_if glyph (kind_done glyph kind e) in
        let are : ((S p same) (job.Flat glyph)).added ≡ after_flat p same true kind glyph
        = d.are ∙ ap (λ b. after_flat p same b d.kind glyph) (is_exported glyph i)
        ∙ ap (λ k. after_flat p same true k glyph) (same_kind d.kind kind (sym d.kind_is ∙ e)) in
        Contains-from_In ((S p same) (job.Flat glyph)).added (spec_of p same (part_job kind glyph))
        (subst (λ ss. In (spec_of p same (part_job kind glyph)) ss) (sym are)
        (inl (part_spec kind glyph)))

    founded_part : (glyph : ℕ) → There p same (job.Simple glyph) → Is (job.Simple glyph)
    unfolding Is
    founded_part glyph there =
        let flat = drawn_founded glyph there.0 (kind_done glyph false there.1) in
        added (job.Simple glyph) (job.Flat glyph) flat (part_added glyph false there.0 there.1)
        (λ read c. elim (In-from_Contains (job.Header ∷ job.Flat glyph ∷ []) read c) [
          | inl e ↦ subst Is e founded_header
          | inr c ↦ elim c [ inl e ↦ subst Is e flat | inr n ↦ absurd n ]
        ]) (no_wait (job.Simple glyph) refl)

    founded_variations : (glyph : ℕ) → There p same (job.Variations glyph)
        → is_found p same glyph ≡ true → Is (job.Variations glyph)
    unfolding Is
    founded_variations glyph there e =
        let reached = by_export glyph (varied_in glyph there.0).0 in
        added (job.Variations glyph) (job.Raw glyph) (founded_raw glyph reached)
        (variations_added glyph there.0 there.1)
        (λ read c. elim (In-from_Contains (job.Header ∷ job.Index ∷ job.Flat glyph ∷ []) read c) [
          | inl e ↦ subst Is e founded_header
          | inr c ↦ elim c [
            | inl e ↦ subst Is e founded_index
            | inr c ↦ elim c [
              | inl is ↦ subst Is is (founded_flat glyph reached e)
              | inr n ↦ absurd n
            ]
          ]
        ]) (no_wait (job.Variations glyph) refl)

    -- what is reached is found, where the exported glyphs are drawn
    module _ (drawn : (glyph : ℕ) → In glyph (exported p same)
        → is_done (flat_value p same glyph) ≡ true) where
      pub reached_found : (glyph : ℕ) → Reached p same glyph → is_found p same glyph ≡ true
      reached_found glyph (by_export _ i) = found_of_done p same glyph (drawn glyph i)
      reached_found glyph (by_base other _ reached i) =
          found_base p same other glyph (reached_found other reached) i

      -- what is there of the strata of the source and of the glyphs
      founded_low : (id : JobId) → There p same id → stratum_of id ≤ 1 → Is id
      founded_low job.Tree there low = founded_tree
      founded_low job.Header there low = founded_header
      founded_low job.Index there low = founded_index
      founded_low (job.Raw glyph) there low = founded_raw glyph there
      founded_low (job.Flat glyph) there low = founded_flat glyph there.0
          (reached_found glyph there.0)
      founded_low (job.Simple glyph) there low = founded_part glyph there
      founded_low (job.Composite glyph) there low = absurd (omega arith)
      founded_low (job.Variations glyph) there low = founded_variations glyph there
          (reached_found glyph (by_export glyph (varied_in glyph there.0).0))
      founded_low job.Order there low = absurd (omega arith)
      founded_low job.Advances there low = absurd (omega arith)
      founded_low (job.Table tag) there low = absurd (omega arith)
      founded_low job.Font there low = absurd (omega arith)
      founded_low _ there low = absurd there

    module _ (done : is_done (order_value p same) ≡ true) where
      flats_founded : (id : JobId) → In id (map job.Flat (exported p same)) → Is id
      flats_founded id i = let m = In-map job.Flat (exported p same) id i in
          subst Is m.2 (drawn_founded m.0 m.1 (flats_done done m.0 m.1))

      order_added : Contains ((S p same) job.Index).added (spec_of p same job.Order)
      order_added = index_has (index_done done) (spec_of p same job.Order)
          (In-append_right (map (λ g. spec_with p same (of_glyph p same) (job.Raw g))
          (exported p same)) (spec_of p same job.Order ∷ []) (spec_of p same job.Order) (inl refl))

      founded_order : Is job.Order
      unfolding Is
      founded_order = added job.Order job.Index founded_index order_added
          (λ read c. elim (In-from_Contains
          (job.Header ∷ job.Index ∷ map job.Flat (exported p same)) read c) [
            | inl e ↦ subst Is e founded_header
            | inr c ↦ elim c [
              | inl e ↦ subst Is e founded_index
              | inr c ↦ flats_founded read c
            ]
          ])
          (λ stratum other e there low. founded_low (flats_done done) other there
          (let one = awaited_is 1 stratum e in omega arith))

      order_has : (s : Spec JobId) → In s (after_order p same (numbers p same))
          → Contains ((S p same) job.Order).added s
      order_has s i = Contains-from_In ((S p same) job.Order).added s (subst (λ ss. In s ss)
          (sym (adds_these an.Order (after_order p same order_numbers) ((S p same) job.Order)
          order_made
          (ap is_done ((value p same) job.Order) ∙ done))) i)

      advances_has : Contains ((S p same) job.Order).added (spec_of p same job.Advances)
      advances_has = order_has (spec_of p same job.Advances) (inl refl)

      table_has : (tag : Tag) → In tag p.tags
          → Contains ((S p same) job.Order).added (spec_of p same (job.Table tag))
      table_has tag i = order_has (spec_of p same (job.Table tag)) (inr (inr
          (map-In (λ tag. spec_with p same (numbers p same) (job.Table tag)) p.tags tag i)))

      font_has : Contains ((S p same) job.Order).added (spec_of p same job.Font)
      font_has = order_has (spec_of p same job.Font) (inr (inl refl))

    -- ---- each job that is there has a maker

    abbrev HasMaker : JobId → Type 0
    HasMaker id = Contains (plan p same).opening (spec_of p same id)
        ⊎ IsMade same (plan p same) (spec_of p same) (There p same) (value_of p same) id

    least : (id : JobId) → There p same id → HasMaker id
    unfolding Is
    least job.Tree there = inl (Contains-from_In (plan p same).opening (spec_of p same job.Tree)
        (inl refl))
    least job.Header there = inl (Contains-from_In (plan p same).opening
        (spec_of p same job.Header) (inr (inl refl)))
    least job.Index there = inl (Contains-from_In (plan p same).opening
        (spec_of p same job.Index) (inr (inr (inl refl))))
    least (job.Raw glyph) (by_export _ i) = inr (record {
      maker = job.Index;
      founded = founded_index;
      adds = raw_added glyph i;
    })
    least (job.Raw glyph) (by_base other _ reached i) = inr (record {
      maker = job.Raw other;
      founded = founded_raw other reached;
      adds = base_added other glyph i;
    })
    least (job.Flat glyph) there = inr (record {
      maker = job.Raw glyph;
      founded = founded_raw glyph there.0;
      adds = flat_added glyph there.1;
    })
    least (job.Simple glyph) there = inr (record {
      maker = job.Flat glyph;
      founded = drawn_founded glyph there.0 (kind_done glyph false there.1);
      adds = part_added glyph false there.0 there.1;
    })
    least (job.Composite glyph) there = inr (record {
      maker = job.Flat glyph;
      founded = drawn_founded glyph there.0 (kind_done glyph true there.1);
      adds = part_added glyph true there.0 there.1;
    })
    least (job.Variations glyph) there = inr (record {
      maker = job.Raw glyph;
      founded = founded_raw glyph (by_export glyph (varied_in glyph there.0).0);
      adds = variations_added glyph there.0 there.1;
    })
    least job.Order there = inr (record {
      maker = job.Index;
      founded = founded_index;
      adds
          = index_has there (spec_of p same job.Order)
          (In-append_right (map (λ g. spec_with p same (of_glyph p same) (job.Raw g))
          (exported p same)) (spec_of p same job.Order ∷ []) (spec_of p same job.Order) (inl refl));
    })
    least job.Advances there = inr (record {
      maker = job.Order;
      founded = founded_order there;
      adds
          = advances_has there;
    })
    least (job.Table tag) there = inr (record {
      maker = job.Order;
      founded
          = founded_order there.1;
      adds = table_has there.1 tag there.0;
    })
    least job.Font there = inr (record {
      maker = job.Order;
      founded = founded_order there;
      adds
          = font_has there;
    })
    least _ there = absurd there

    -- ---- the universe

    abbrev table_ids : List JobId
    table_ids = map job.Table p.tags

    abbrev raw_ids : List JobId
    raw_ids = map job.Raw (all p same)

    abbrev flat_ids : List JobId
    flat_ids = map job.Flat (all p same)

    abbrev simple_ids : List JobId
    simple_ids = map job.Simple (exported p same)

    abbrev composite_ids : List JobId
    composite_ids = map job.Composite (exported p same)

    abbrev variations_ids : List JobId
    variations_ids = map job.Variations (varied p same)

    abbrev data_ids : List JobId
    data_ids = simple_ids ++ (composite_ids ++ variations_ids)

    abbrev glyph_ids : List JobId
    glyph_ids = raw_ids ++ (flat_ids ++ data_ids)

    -- behind the six that are always there
    behind_six : (id : JobId) → In id (table_ids ++ glyph_ids) → In id (plan p same).universe
    behind_six id i = inr (inr (inr (inr (inr (inr i)))))

    of_glyphs : (id : JobId) → In id glyph_ids → In id (plan p same).universe
    of_glyphs id i = behind_six id (In-append_right table_ids glyph_ids id i)

    of_data : (id : JobId) → In id data_ids → In id (plan p same).universe
    of_data id i = of_glyphs id (In-append_right raw_ids (flat_ids ++ data_ids) id
        (In-append_right flat_ids data_ids id i))

    In-universe : (id : JobId) → There p same id → In id (plan p same).universe
    In-universe job.Tree there = inl refl
    In-universe job.Header there = inr (inl refl)
    In-universe job.Index there = inr (inr (inl refl))
    In-universe job.Order there = inr (inr (inr (inl refl)))
    In-universe job.Advances there = inr (inr (inr (inr (inl refl))))
    In-universe job.Font there = inr (inr (inr (inr (inr (inl refl)))))
    In-universe (job.Table tag) there = behind_six (job.Table tag)
        (In-append_left table_ids glyph_ids (job.Table tag) (map-In job.Table p.tags tag there.0))
    In-universe (job.Raw glyph) there = of_glyphs (job.Raw glyph)
        (In-append_left raw_ids (flat_ids ++ data_ids) (job.Raw glyph)
        (map-In job.Raw (all p same) glyph (reached_there glyph there)))
    In-universe (job.Flat glyph) there = of_glyphs (job.Flat glyph)
        (In-append_right raw_ids (flat_ids ++ data_ids) (job.Flat glyph)
        (In-append_left flat_ids data_ids (job.Flat glyph)
        (map-In job.Flat (all p same) glyph (reached_there glyph there.0))))
    In-universe (job.Simple glyph) there = of_data (job.Simple glyph)
        (In-append_left simple_ids (composite_ids ++ variations_ids) (job.Simple glyph)
        (map-In job.Simple (exported p same) glyph there.0))
    In-universe (job.Composite glyph) there = of_data (job.Composite glyph)
        (In-append_right simple_ids (composite_ids ++ variations_ids) (job.Composite glyph)
        (In-append_left composite_ids variations_ids (job.Composite glyph)
        (map-In job.Composite (exported p same) glyph there.0)))
    In-universe (job.Variations glyph) there = of_data (job.Variations glyph)
        (In-append_right simple_ids (composite_ids ++ variations_ids) (job.Variations glyph)
        (In-append_right composite_ids variations_ids (job.Variations glyph)
        (map-In job.Variations (varied p same) glyph there.0)))
    In-universe _ there = absurd there

    -- ---- strata

    abbrev IsAbove : JobId → Spec JobId → Type 0
    IsAbove id s = stratum_of id ≤ stratum_of s.id

    above_maker : (id : JobId) (s : Spec JobId) → In s ((S p same) id).added → IsAbove id s
    above_maker job.Tree s i = omega arith
    above_maker job.Header s i = omega arith
    above_maker job.Index s i = omega arith
    above_maker (job.Raw glyph) s i =
        elim (subst (λ ss. In s ss) (raw_adds_some glyph s i).are i) [
          | inl e ↦ subst (IsAbove (job.Raw glyph)) e (omega arith)
          | inr more ↦ elim (In-append_cases
              (map (λ base. spec_with p same (of_glyph p same) (job.Raw base)) (bases p same glyph))
              _ s more) [
                | inl raws ↦ let m = In-map
                    (λ base. spec_with p same (of_glyph p same) (job.Raw base)) (bases p same glyph)
                    s
                    raws in subst (IsAbove (job.Raw glyph)) m.2 (omega arith)
                | inr last ↦ by (is_varied glyph) last
              ]
        ]
      where
        by : (b : Bool)
            → In s (cond b (spec_with p same (of_glyph p same) (job.Variations glyph) ∷ []) [])
            → IsAbove (job.Raw glyph) s
        by true j = elim j [
          | inl e ↦ subst (IsAbove (job.Raw glyph)) e (omega arith)
          | inr none ↦ absurd none
        ]
        by false j = absurd j
    above_maker (job.Flat glyph) s i =
        let d = flat_draws_some glyph s i in
        let m = in_after_flat (exported_in p same (index_known p same) glyph) d.kind glyph s
        (subst (λ ss. In s ss) d.are i) in
        subst (IsAbove (job.Flat glyph)) m.1 (part_above d.kind)
      where
        part_above : (kind : Bool)
            → IsAbove (job.Flat glyph) (spec_of p same (part_job kind glyph))
        part_above true = omega arith
        part_above false = omega arith
    above_maker (job.Composite glyph) s i = absurd
        (leaf_adds ((S p same) (job.Composite glyph))
        ((leaf_composite p same) glyph ((items p same) (job.Composite glyph))) s i)
    above_maker (job.Simple glyph) s i = absurd
        (leaf_adds ((S p same) (job.Simple glyph))
        ((leaf_simple p same) glyph ((items p same) (job.Simple glyph))) s i)
    above_maker (job.Variations glyph) s i = absurd
        (leaf_adds ((S p same) (job.Variations glyph))
        ((leaf_variations p same) glyph ((items p same) (job.Variations glyph))) s i)
    above_maker job.Order s i =
        let a = adds_some an.Order (after_order p same order_numbers) ((S p same) job.Order)
        order_made s i
        in
        elim a.1 [
          | inl e ↦ subst (IsAbove job.Order) e (omega arith)
          | inr more ↦ elim more [
            | inl e ↦ subst (IsAbove job.Order) e (omega arith)
            | inr tables ↦ let m = In-map (λ tag. spec_with p same (numbers p same) (job.Table tag))
                p.tags s tables in subst (IsAbove job.Order) m.2 (omega arith)
          ]
        ]
    above_maker job.Advances s i = absurd
        (leaf_adds ((S p same) job.Advances) ((leaf_advances p same) ((items p same) job.Advances))
        s i)
    above_maker (job.Table tag) s i = absurd
        (leaf_adds ((S p same) (job.Table tag))
        ((leaf_table p same) tag ((items p same) (job.Table tag))) s i)
    above_maker job.Font s i = absurd (leaf_adds ((S p same) job.Font)
        ((leaf_font p same) ((items p same) job.Font)) s i)
    above_maker _ s i = absurd i

    above_awaited : (id : JobId) (stratum : ℕ) → awaited_by id ≡ Some stratum
        → stratum < stratum_of id
    above_awaited job.Tree k e = absurd (none_awaited k e)
    above_awaited job.Header k e = absurd (none_awaited k e)
    above_awaited job.Index k e = absurd (none_awaited k e)
    above_awaited (job.Raw glyph) k e = absurd (none_awaited k e)
    above_awaited (job.Flat glyph) k e = absurd (none_awaited k e)
    above_awaited (job.Simple glyph) k e = absurd (none_awaited k e)
    above_awaited job.Order k e = let is = awaited_is 1 k e in omega arith
    above_awaited job.Advances k e = let is = awaited_is 2 k e in omega arith
    above_awaited (job.Table tag) k e = let is = awaited_is 3 k e in omega arith
    above_awaited job.Font k e = let is = awaited_is 4 k e in omega arith
    above_awaited (job.Composite glyph) k e = let is = awaited_is 2 k e in omega arith
    above_awaited (job.Variations glyph) k e = absurd (none_awaited k e)
    above_awaited job.FeatureParse k e = absurd (none_awaited k e)
    above_awaited job.Kern k e = let is = awaited_is 2 k e in omega arith
    above_awaited job.Marks k e = let is = awaited_is 2 k e in omega arith
    above_awaited job.Rules k e = let is = awaited_is 2 k e in omega arith
    above_awaited (job.Lookup number) k e = let is = awaited_is 2 k e in omega arith
    above_awaited job.Store k e = let is = awaited_is 3 k e in omega arith

    abbrev IsBelow : ℕ → JobId → Type 0
    IsBelow n id = stratum_of id ≤ n

    flats_below : (n : ℕ) → 1 ≤ n → (id : JobId) → In id (map job.Flat (exported p same))
        → IsBelow n id
    flats_below n low id i = let m = In-map job.Flat (exported p same) id i in
        subst (IsBelow n) m.2 low

    above_reads : (id read : JobId) → In read (reads_with p same (numbers p same) id)
        → IsBelow (stratum_of id) read
    above_reads job.Tree read i = absurd i
    above_reads job.Header read i = elim i
        [ inl e ↦ subst (IsBelow 0) e (omega arith) | inr n ↦ absurd n ]
    above_reads job.Index read i = elim i [
      | inl e ↦ subst (IsBelow 0) e (omega arith)
      | inr n ↦
          absurd n
    ]
    above_reads (job.Raw glyph) read i = elim i [
      | inl e ↦ subst (IsBelow 1) e (omega arith)
      | inr i ↦ elim i [
        | inl e ↦ subst (IsBelow 1) e (omega arith)
        | inr i ↦ elim i [ inl e ↦ subst (IsBelow 1) e (omega arith) | inr n ↦ absurd n ]
      ]
    ]
    above_reads (job.Flat glyph) read i = elim i [
      | inl e ↦ subst (IsBelow 1) e (omega arith)
      | inr i ↦ elim i [
        | inl e ↦ subst (IsBelow 1) e (omega arith)
        | inr i ↦ let m = In-map job.Flat (bases p same glyph) read i in
            subst (IsBelow 1) m.2 (omega arith)
      ]
    ]
    above_reads (job.Composite glyph) read i = elim i [
      | inl e ↦ subst (IsBelow 3) e (omega arith)
      | inr i ↦ elim i [
        | inl e ↦ subst (IsBelow 3) e (omega arith)
        | inr i ↦ elim i [ inl e ↦ subst (IsBelow 3) e (omega arith) | inr n ↦ absurd n ]
      ]
    ]
    above_reads (job.Simple glyph) read i = elim i [
      | inl e ↦ subst (IsBelow 1) e (omega arith)
      | inr i ↦ elim i [ inl e ↦ subst (IsBelow 1) e (omega arith) | inr n ↦ absurd n ]
    ]
    above_reads job.Order read i = elim i [
      | inl e ↦ subst (IsBelow 2) e (omega arith)
      | inr i ↦ elim i [
        | inl e ↦ subst (IsBelow 2) e (omega arith)
        | inr i ↦ flats_below 2 (omega arith) read i
      ]
    ]
    above_reads job.Advances read i = elim i [
      | inl e ↦ subst (IsBelow 3) e (omega arith)
      | inr i ↦ elim i [
        | inl e ↦ subst (IsBelow 3) e (omega arith)
        | inr i ↦ flats_below 3 (omega arith) read i
      ]
    ]
    above_reads (job.Variations glyph) read i = elim i [
      | inl e ↦ subst (IsBelow 1) e (omega arith)
      | inr i ↦ elim i [
        | inl e ↦ subst (IsBelow 1) e (omega arith)
        | inr i ↦ elim i [ inl e ↦ subst (IsBelow 1) e (omega arith) | inr n ↦ absurd n ]
      ]
    ]
    above_reads (job.Table tag) read i = elim i [
      | inl e ↦ subst (IsBelow 4) e (omega arith)
      | inr i ↦ elim i [
        | inl e ↦ subst (IsBelow 4) e (omega arith)
        | inr i ↦ by_needs (p.needs tag) i
      ]
    ]
      where
        part_below : (kind : Option Bool) (glyph : ℕ) → IsBelow 4 (part_in p same kind glyph)
        part_below None glyph = omega arith
        part_below (Some true) glyph = omega arith
        part_below (Some false) glyph = omega arith

        by_needs : (needs : Needs) → In read (needed (part_ids p same) (varied p same) needs)
            → IsBelow 4 read
        by_needs Nothing i = absurd i
        by_needs TheIndex i = elim i
            [ inl e ↦ subst (IsBelow 4) e (omega arith) | inr n ↦ absurd n ]
        by_needs TheMeasures i = elim i
            [ inl e ↦ subst (IsBelow 4) e (omega arith) | inr n ↦ absurd n ]
        by_needs TheMeasuresAndIndex i = elim i [
          | inl e ↦ subst (IsBelow 4) e (omega arith)
          | inr i ↦ elim i [ inl e ↦ subst (IsBelow 4) e (omega arith) | inr n ↦ absurd n ]
        ]
        by_needs TheOutlines i = let m = In-map (part_of p same) (exported p same) read i in
            subst (IsBelow 4) m.2 (part_below (kind_of p same m.0) m.0)
        by_needs TheVariations i = let m = In-map job.Variations (varied p same) read i in
            subst (IsBelow 4) m.2 (omega arith)
    above_reads job.Font read i = let m = In-map job.Table p.tags read i in
        subst (IsBelow 5) m.2 (omega arith)
    above_reads _ read i = absurd i

    -- ---- the plan is solved

    there_of : (id : JobId) → Is id → There p same id
    unfolding Is
    there_of id (opened _ first reads awaited) = opening_there id
        (In-from_Contains (plan p same).opening (spec_of p same id) first)
      where
        opening_there : (id : JobId) → In (spec_of p same id) (plan p same).opening
            → There p same id
        opening_there id i = elim i [
          | inl e ↦ subst (λ (s : Spec JobId). There p same s.id) e tt
          | inr i ↦ elim i [
            | inl e ↦ subst (λ (s : Spec JobId). There p same s.id) e tt
            | inr i ↦ elim i [
              | inl e ↦ subst (λ (s : Spec JobId). There p same s.id) e tt
              | inr n ↦ absurd n
            ]
          ]
        ]
    there_of id (added _ maker founded adds reads awaited) =
        (adds_there maker (there_of maker founded) (spec_of p same id)
        (In-from_Contains ((S p same) maker).added (spec_of p same id) adds)).0

    pub solution : IsSolution same (plan p same) (spec_of p same) (There p same) (value_of p same)
    unfolding Is
    solution = record {
      identity = identity;
      quiet = (quiet p same);
      named = λ id. refl;
      opening = λ s c. elim (In-from_Contains (plan p same).opening s c) [
        | inl e ↦ subst IsJob e (tt, refl)
        | inr i ↦ elim i [
          | inl e ↦ subst IsJob e (tt, refl)
          | inr i ↦ elim i [ inl e ↦ subst IsJob e (tt, refl) | inr n ↦ absurd n ]
        ]
      ];
      value = λ id f. (value p same) id;
      adds = λ id s f c. adds_there id (there_of id f) s
          (In-from_Contains ((S p same) id).added s c);
      least = least;
      in_universe = λ id there. Contains-from_In (plan p same).universe id (In-universe id there);
      above_maker = λ id s there reads c. above_maker id s
          (In-from_Contains ((S p same) id).added s c);
      above_awaited = λ id k there e. above_awaited id k e;
      above_reads = λ id read there c. above_reads id read
          (In-from_Contains (reads_with p same (numbers p same) id) read c);
    }
