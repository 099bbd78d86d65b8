-- What comes of a job of a source's graph: with no value it adds nothing, and with one it adds the
-- jobs of its kind. For the proof that the graph is solved. fontc's own.
use Rattle.std.proofs.Common.{◌≡◌, ℕ, zero, suc, Bool, true, false, cond, ◌⊎◌, inl, inr, List, []}
use Rattle.std.proofs.Common.{◌∷◌, map, length, Option, Some, None, Result, Ok, Err, refl, sym, ap}
use Rattle.std.proofs.Common.{◌∙◌, subst}
use Rattle.std.specs.Prelude.{◌&&◌, option_and_then}
use Rattle.std.proofs.lemmas.Bool.{false≢true, cases_Bool}
use Rattle.refusal_codes.specs.declared.refusal.Refusal.{Refusal}
use Rattle.access_context.specs.declared.access.Spec.{Spec}
use Rattle.access_context.specs.Plain.{Plain, Done, Blocked, PlainOutcome, is_done}
use Rattle.access_context.specs.Read.{all_done}
use Rattle.font_ir.specs.declared.tag.Tag.{Tag}
use Rattle.job_graph.specs.Rounds.{blocked}
use Rattle.job_graph.specs.Members.{In, map_agree, list_all-In}
use Rattle.job_graph.specs.Solutions.{solved_outcome}
use Rattle.font_graph.specs.Parts.{Parts, Needs, Nothing, TheIndex, TheMeasures}
use Rattle.font_graph.specs.Parts.{TheMeasuresAndIndex, TheOutlines, TheVariations}
use Rattle.font_graph.specs.Descent.{ends_by, base_ends, ends_later, ended_base, none_at_once}
use Rattle.font_graph.specs.Graph.{Item, as_header, as_index, as_flat, Numbers, needed}
use Rattle.font_graph.specs.Graph.{of_index, of_order, parts_of, on, settle}
use Rattle.font_graph.specs.Graph.{none, after_index, after_raw, after_flat, after_order, outcome}
use Rattle.font_graph.specs.Graph.{settled, header_value, index_value, all_in, all, exported}
use Rattle.font_graph.specs.Graph.{varied}
use Rattle.font_graph.specs.Graph.{exported_in, varies_in, bases_in, index_known, raw_known, bases}
use Rattle.font_graph.specs.Graph.{is_read, is_found_within, is_found, flat_reads, flat_within}
use Rattle.font_graph.specs.Graph.{flat_value, flat_known, kind_in, kind_of, part_in, part_of}
use Rattle.font_graph.specs.Graph.{part_ids}
use Rattle.font_graph.specs.Graph.{raw_value, numbers, order_value, part_value, needed_items}
use Rattle.font_graph.specs.Graph.{value_of, spec_of, There, plan, read_as, read_all, all_of}
use Rattle.font_graph.specs.Graph.{reads_with}
use Rattle.font_graph.specs.declared.ids.JobId.{JobId}
use Rattle.font_graph.specs.declared.ids.JobId.TheVariants as job
use Rattle.font_graph.specs.declared.items.Item.TheVariants as an

-- what stands in a list that was made item by item
pub map-In : {X Y : Type 0} (f : X → Y) (xs : List X) (x : X) → In x xs → In (f x) (map f xs)
map-In f [] x i = absurd i
map-In f (y ∷ xs) x i = elim i [ inl e ↦ inl (ap f e) | inr j ↦ inr (map-In f xs x j) ]

pub In-map : {X Y : Type 0} (f : X → Y) (xs : List X) (y : Y) → In y (map f xs)
    → (x : X) × In x xs × (f x ≡ y)
In-map f [] y i = absurd i
In-map f (x ∷ xs) y i = elim i [
  | inl e ↦ (x, inl refl, e)
  | inr j ↦ let m = In-map f xs y j in (m.0, inr m.1, m.2)
]

pub map_twice : {X Y Z : Type 0} (f : X → Y) (g : Y → Z) (xs : List X)
    → map g (map f xs) ≡ map (λ x. g (f x)) xs
map_twice f g [] = refl
map_twice f g (x ∷ xs) = ap (λ zs. g (f x) ∷ zs) (map_twice f g xs)

pub none_awaited : (k : ℕ) → ◌≡◌ {A = Option ℕ} None (Some k) → ⊥
none_awaited k e = cc

pub awaited_is : (n k : ℕ) → ◌≡◌ {A = Option ℕ} (Some n) (Some k) → n ≡ k
awaited_is n k e = cc

module _ (p : Parts) (same : JobId → JobId → Bool) where
  Outcome : Type 0
  Outcome = PlainOutcome (Item p) JobId

  -- ---- what comes of a job, by its parts

  abbrev IsQuiet : PlainOutcome (Item p) JobId → Type 0
  IsQuiet o = is_done o.value ≡ false → o.added ≡ []

  quiet_settle : {A : Type 0} (item : A → Item p) (adds : A → List (Spec JobId))
      (r : Result A Refusal) → IsQuiet (settle p same item adds r)
  unfolding settle
  quiet_settle item adds (Ok a) = λ e. absurd (false≢true (sym e))
  quiet_settle item adds (Err r) = λ e. refl

  quiet_on : {A : Type 0} (x : Option A) (f : A → PlainOutcome (Item p) JobId)
      → ((a : A) → IsQuiet (f a)) → IsQuiet (on p same x f)
  unfolding on
  quiet_on None f q = λ e. refl
  quiet_on (Some a) f q = q a

  -- a job made this item and added these jobs, or there is no value
  abbrev pub Makes : {A : Type 0} → (A → Item p) → (A → List (Spec JobId))
      → PlainOutcome (Item p) JobId → Type 0
  Makes {A = A} item adds o = ((a : A) × (o ≡ record { value = Done (item a); added = adds a }))
      ⊎ ((o.added ≡ []) × (is_done o.value ≡ false))

  makes_settle : {A : Type 0} (item : A → Item p) (adds : A → List (Spec JobId))
      (r : Result A Refusal) → Makes item adds (settle p same item adds r)
  unfolding settle
  makes_settle item adds (Ok a) = inl (a, refl)
  makes_settle item adds (Err r) = inr (refl, refl)

  makes_on : {A B : Type 0} (item : A → Item p) (adds : A → List (Spec JobId)) (x : Option B)
      (f : B → PlainOutcome (Item p) JobId) → ((b : B) → x ≡ Some b → Makes item adds (f b))
      → Makes item adds (on p same x f)
  unfolding on
  makes_on item adds None f m = inr (refl, refl)
  makes_on item adds (Some b) f m = m b refl

  makes_if : {A : Type 0} (item : A → Item p) (adds : A → List (Spec JobId)) (b : Bool)
      (o : PlainOutcome (Item p) JobId) → Makes item adds o
      → Makes item adds (cond b o blocked)
  makes_if item adds true o m = m
  makes_if item adds false o m = inr (refl, refl)

  -- what a job with a value read has a value
  pub reads_done : (id : JobId) (reads : List (JobId × Plain (Item p)))
      → is_done (settled p same id reads).value ≡ true → all_done reads ≡ true
  reads_done id reads e =
      elim (all_done reads) as (λ b. is_done (cond b (outcome p same id reads) blocked).value ≡ true
      → b ≡ true) [
        | true ↦ λ f. refl
        | false ↦ λ f. absurd (false≢true f)
      ] e

  pub quiet : (id : JobId) (reads : List (JobId × Plain (Item p)))
      → IsQuiet (outcome p same id reads)
  quiet job.Tree reads = quiet_settle an.Tree (none p same) p.tree
  quiet job.Header reads = quiet_on _ _
      (λ tree. quiet_settle an.Header (none p same) (p.header tree))
  quiet job.Index reads = quiet_on _ _ (λ tree. quiet_settle an.Index _ (p.index tree))
  quiet (job.Raw glyph) reads = quiet_on _ _ (λ tree. quiet_on _ _ (λ header. quiet_on _ _
      (λ index. quiet_settle an.Raw _ (p.raw tree header index glyph))))
  quiet (job.Flat glyph) reads = quiet_on _ _ (λ raw. quiet_on _ _ (λ index. quiet_on _ _
      (λ flats. quiet_settle an.Flat _ (p.flat raw index flats))))
  quiet (job.Simple glyph) reads = quiet_on _ _ (λ header. quiet_on _ _
      (λ flat. quiet_settle an.Simple _ (p.simple header flat)))
  quiet (job.Composite glyph) reads = quiet_on _ _ (λ header. quiet_on _ _ (λ order.
      quiet_on _ _ (λ flat. quiet_settle an.Composite _ (p.composite header order flat))))
  quiet job.Order reads = quiet_on _ _ (λ header. quiet_on _ _ (λ index. quiet_on _ _
      (λ flats. quiet_settle an.Order _ (p.order header index flats))))
  quiet job.Advances reads = quiet_on _ _ (λ header. quiet_on _ _ (λ order. quiet_on _ _
      (λ flats. quiet_settle an.Advances _ (p.measures header order flats))))
  quiet (job.Variations glyph) reads = quiet_on _ _ (λ header. quiet_on _ _ (λ index.
      quiet_on _ _ (λ flat. quiet_settle an.Variations _ (p.variations header index flat))))
  quiet (job.Table tag) reads = quiet_on _ _ (λ header. quiet_on _ _ (λ order. quiet_on _ _
      (λ extra. quiet_settle an.Table _ (p.table tag header order extra))))
  quiet job.Font reads = quiet_on _ _ (λ tables. quiet_settle an.Font (none p same) (p.font tables))
  quiet _ reads = λ e. refl

  -- ---- values

  abbrev pub with_value : JobId → JobId × Plain (Item p)
  with_value id = (id, value_of p same id)

  abbrev pub S : JobId → PlainOutcome (Item p) JobId
  S id = solved_outcome same (plan p same) (spec_of p same) (There p same) (value_of p same) id

  -- what a job reads
  abbrev pub items : JobId → List (JobId × Plain (Item p))
  items id = map with_value (reads_with p same (numbers p same) id)

  -- ---- the contours of glyphs

  pub base_there : (glyph base : ℕ) → In base (bases p same glyph) → In base (all p same)
  base_there glyph base i = by (raw_known p same glyph) (index_known p same) i
    where
      by : (raw : Option p.Raw) (index : Option p.Index) → In base (bases_in p same raw index)
          → In base (all_in p same index)
      by None index j = absurd j
      by (Some raw) None j = absurd j
      by (Some raw) (Some index) j = p.bases_there raw index base j

  abbrev IsWithin : ℕ → ℕ → Type 0
  IsWithin depth glyph = is_found_within p same depth glyph ≡ true

  pub within_found : (depth glyph : ℕ) → IsWithin (suc depth) glyph
      → flat_within p same (suc depth) glyph
      ≡ (settled p same (job.Flat glyph) (flat_reads p same (flat_within p same depth) glyph)).value
  unfolding flat_within
  within_found depth glyph e = ap (λ b. cond b
      (settled p same (job.Flat glyph) (flat_reads p same (flat_within p same depth) glyph)).value
      Blocked) e

  within_not : (depth glyph : ℕ) → is_found_within p same depth glyph ≡ false
      → flat_within p same depth glyph ≡ Blocked
  unfolding flat_within
  within_not zero glyph e = refl
  within_not (suc depth) glyph e = ap (λ b. cond b
      (settled p same (job.Flat glyph) (flat_reads p same (flat_within p same depth) glyph)).value
      Blocked) e

  -- these values of a glyph's bases do as well as those
  abbrev by_values : ℕ → (ℕ → Plain (Item p)) → Plain (Item p)
  by_values glyph value = (settled p same (job.Flat glyph) (flat_reads p same value glyph)).value

  values_agree : (glyph : ℕ) (f g : ℕ → Plain (Item p))
      → ((base : ℕ) → In base (bases p same glyph) → f base ≡ g base)
      → by_values glyph f ≡ by_values glyph g
  values_agree glyph f g agree = ap (λ rest. (settled p same (job.Flat glyph)
      ((job.Raw glyph, raw_value p same glyph) ∷ (job.Index, index_value p same) ∷ rest)).value)
      (map_agree (λ base. (job.Flat base, f base)) (λ base. (job.Flat base, g base))
      (bases p same glyph) (λ base i. ap (λ v. (job.Flat base, v)) (agree base i)))

  -- the value of what is found is the same, however deep it is asked for
  within_later : (depth glyph : ℕ) → IsWithin depth glyph
      → flat_within p same depth glyph ≡ flat_within p same (suc depth) glyph
  within_later zero glyph e = absurd (none_at_once (bases p same) (is_read p same) glyph e)
  within_later (suc depth) glyph e = within_found depth glyph e
      ∙ values_agree glyph (flat_within p same depth) (flat_within p same (suc depth))
      (λ base i. within_later depth base
      (ended_base (bases p same) (is_read p same) depth glyph base e
      i))
      ∙ sym (within_found (suc depth) glyph
      (ends_later (bases p same) (is_read p same) (suc depth) glyph e))

  pub found_base : (glyph base : ℕ) → is_found p same glyph ≡ true → In base (bases p same glyph)
      → is_found p same base ≡ true
  found_base glyph base e i = ends_later (bases p same) (is_read p same) (length (all p same)) base
      (base_ends (bases p same) (is_read p same) (all p same) base_there glyph base e i)

  pub found_by : (glyph : ℕ) → is_read p same glyph ≡ true
      → ((base : ℕ) → In base (bases p same glyph) → is_found p same base ≡ true)
      → is_found p same glyph ≡ true
  found_by = ends_by (bases p same) (is_read p same) (all p same) base_there

  -- what isn't found has no value
  pub not_found : (glyph : ℕ) → is_found p same glyph ≡ false → flat_value p same glyph ≡ Blocked
  not_found glyph e = within_not (suc (length (all p same))) glyph e

  pub found_of_done : (glyph : ℕ) → is_done (flat_value p same glyph) ≡ true
      → is_found p same glyph ≡ true
  found_of_done glyph done = elim (cases_Bool (is_found p same glyph)) [
    | inl is ↦ is
    | inr not ↦ absurd (false≢true (sym (ap is_done (not_found glyph not)) ∙ done))
  ]

  -- a part of what a job reads has no value, and so has the job none
  unread : (id : JobId) (reads : List (JobId × Plain (Item p))) (item : JobId × Plain (Item p))
      → In item reads → is_done item.1 ≡ false → (settled p same id reads).value ≡ Blocked
  unread id reads item i e = elim (cases_Bool (all_done reads)) [
    | inl all ↦ absurd (false≢true (sym e
        ∙ list_all-In (λ (item : JobId × Plain (Item p)). is_done item.1) reads item all i))
    | inr not ↦ ap (λ b. (cond b (outcome p same id reads) blocked).value) not
  ]

  flat_is : (glyph : ℕ) → by_values glyph (flat_value p same) ≡ flat_value p same glyph
  flat_is glyph = elim (cases_Bool (is_found p same glyph)) [
    | inl is ↦ values_agree glyph (flat_value p same) (flat_within p same (length (all p same)))
        (λ base i. sym (within_later (length (all p same)) base
        (base_ends (bases p same) (is_read p same) (all p same) base_there glyph base is i)))
        ∙ sym (within_found (length (all p same)) glyph is)
    | inr not ↦ elim (cases_Bool (is_read p same glyph)) [
      | inr unread_so ↦ unread (job.Flat glyph) (flat_reads p same (flat_value p same) glyph)
          (job.Raw glyph, raw_value p same glyph) (inl refl) unread_so
          ∙ sym (not_found glyph not)
      | inl read ↦ elim (cases_Bool (all_done (map (λ base. (
        job.Flat base,
        flat_value p same base,
      )) (bases p same glyph)))) [
        | inl all ↦ absurd (false≢true (sym not ∙ found_by glyph read (λ base i.
            found_of_done base (list_all-In (λ (item : JobId × Plain (Item p)). is_done item.1)
            (map (λ base. (job.Flat base, flat_value p same base)) (bases p same glyph))
            (job.Flat base, flat_value p same base) all
            (map-In (λ base. (job.Flat base, flat_value p same base)) (bases p same glyph) base
            i)))))
        | inr some ↦ ap (λ b. (cond b (outcome p same (job.Flat glyph)
            (flat_reads p same (flat_value p same) glyph)) blocked).value)
            (none_of (is_read p same glyph) (is_done (index_value p same)) _ some)
            ∙ sym (not_found glyph not)
      ]
    ]
  ]
    where
      none_of : (a b c : Bool) → c ≡ false → (a && (b && c)) ≡ false
      none_of true true c e = e
      none_of true false c e = refl
      none_of false b c e = refl

  -- ---- the jobs of the glyphs' data

  part_valued : (kind : Option Bool) (glyph : ℕ) → with_value (part_in p same kind glyph)
      ≡ (part_in p same kind glyph, part_value p same (part_in p same kind glyph))
  part_valued None glyph = refl
  part_valued (Some true) glyph = refl
  part_valued (Some false) glyph = refl

  parts_valued : map with_value (part_ids p same) ≡ map (λ id. (id, part_value p same id)) (part_ids
      p same)
  parts_valued = map_agree with_value (λ id. (id, part_value p same id)) (part_ids p same) (λ id i.
      let m = In-map (part_of p same) (exported p same) id i in
      subst (λ id. with_value id ≡ (id, part_value p same id)) m.2
      (part_valued (kind_of p same m.0) m.0))

  -- they are told by the contours
  record First {A : Type 0} (o : Option A) (others : List (Option A)) (found : List A)
      : Type 0 where
    first : A
    rest : List A
    first_is : o ≡ Some first
    rest_are : all_of others ≡ Some rest
    are : first ∷ rest ≡ found

  first_of : {A : Type 0} (o : Option A) (others : List (Option A)) (found : List A)
      → all_of (o ∷ others) ≡ Some found → First o others found
  first_of None others found e = absurd cc
  first_of (Some a) others found e = by (all_of others) refl e
    where
      by : (o : Option (List _)) → all_of others ≡ o
          → option_and_then (λ rest. Some (a ∷ rest)) o ≡ Some found → First (Some a) others found
      by None f e = absurd cc
      by (Some rest) f e = let same_so : a ∷ rest ≡ found = cc in
          record { first = a; rest = rest; first_is = refl; rest_are = f; are = same_so }

  pub parts_are : (reads : List (JobId × Plain (Item p))) (glyphs : List ℕ) (flats : List p.Flat)
      → read_all p same (as_flat p) reads (map job.Flat glyphs) ≡ Some flats
      → ((glyph : ℕ) → In glyph glyphs
      → read_as p same (as_flat p) reads (job.Flat glyph) ≡ flat_known p same glyph)
      → parts_of p same glyphs flats ≡ map (part_of p same) glyphs
  parts_are reads [] flats e known = refl
  parts_are reads (glyph ∷ glyphs) flats e known =
      let m = first_of (read_as p same (as_flat p) reads (job.Flat glyph)) _ flats e in
      ap (λ fs. parts_of p same (glyph ∷ glyphs) fs) (sym m.are)
      ∙ ap (λ id. id ∷ parts_of p same glyphs m.rest)
      (ap (λ o. part_in p same (kind_in p same o) glyph)
      (sym m.first_is ∙ known glyph (inl refl)))
      ∙ ap (λ ids. part_of p same glyph ∷ ids)
      (parts_are reads glyphs m.rest m.rest_are (λ g i. known g (inr i)))

  -- ---- each value is what comes of its job

  pub value : (id : JobId) → (S id).value ≡ value_of p same id
  value job.Tree = refl
  value job.Header = refl
  value job.Index = refl
  value (job.Raw glyph) = refl
  value (job.Flat glyph) = ap (λ items. (settled p same (job.Flat glyph)
      ((job.Raw glyph, raw_value p same glyph) ∷ (job.Index, index_value p same) ∷ items)).value)
      (map_twice job.Flat with_value (bases p same glyph))
      ∙ flat_is glyph
  value (job.Simple glyph) = refl
  value (job.Composite glyph) = refl
  value (job.Variations glyph) = refl
  value job.Order = ap (λ items. (settled p same job.Order ((job.Header, header_value p same)
      ∷ (job.Index, index_value p same) ∷ items)).value)
      (map_twice job.Flat with_value (exported p same))
  value job.Advances = ap (λ items. (settled p same job.Advances ((job.Header, header_value p same)
      ∷ (job.Order, order_value p same) ∷ items)).value)
      (map_twice job.Flat with_value (exported p same))
  value (job.Table tag) = ap (λ items. (settled p same (job.Table tag)
      ((job.Header, header_value p same) ∷ (job.Order, order_value p same) ∷ items)).value)
      (by_needs (p.needs tag))
    where
      by_needs : (needs : Needs) → map with_value (needed (part_ids p same) (varied p same) needs)
          ≡ needed_items p same needs
      by_needs Nothing = refl
      by_needs TheIndex = refl
      by_needs TheMeasures = refl
      by_needs TheMeasuresAndIndex = refl
      by_needs TheOutlines = parts_valued
      by_needs TheVariations = map_twice job.Variations with_value (varied p same)
  value job.Font = ap (λ items. (settled p same job.Font items).value)
      (map_twice job.Table with_value p.tags)
  value _ = refl

  -- ---- which jobs are added

  abbrev pub IsLeaf : PlainOutcome (Item p) JobId → Type 0
  IsLeaf o = o.added ≡ []

  leaf_settle : {A : Type 0} (item : A → Item p) (r : Result A Refusal)
      → IsLeaf (settle p same item (none p same) r)
  unfolding settle
  leaf_settle item (Ok a) = refl
  leaf_settle item (Err r) = refl

  leaf_on : {A : Type 0} (x : Option A) (f : A → PlainOutcome (Item p) JobId)
      → ((a : A) → IsLeaf (f a)) → IsLeaf (on p same x f)
  unfolding on
  leaf_on None f l = refl
  leaf_on (Some a) f l = l a

  leaf_if : (b : Bool) (o : PlainOutcome (Item p) JobId) → IsLeaf o → IsLeaf (cond b o blocked)
  leaf_if true o l = l
  leaf_if false o l = refl

  pub leaf_tree : (reads : List (JobId × Plain (Item p))) → IsLeaf (settled p same job.Tree reads)
  leaf_tree reads = leaf_if (all_done reads) _ (leaf_settle an.Tree p.tree)

  pub leaf_header : (reads : List (JobId × Plain (Item p)))
      → IsLeaf (settled p same job.Header reads)
  leaf_header reads = leaf_if (all_done reads) _
      (leaf_on _ _ (λ tree. leaf_settle an.Header (p.header tree)))

  pub leaf_simple : (glyph : ℕ) (reads : List (JobId × Plain (Item p)))
      → IsLeaf (settled p same (job.Simple glyph) reads)
  leaf_simple glyph reads = leaf_if (all_done reads) _ (leaf_on _ _ (λ header.
      leaf_on _ _ (λ flat. leaf_settle an.Simple (p.simple header flat))))

  pub leaf_composite : (glyph : ℕ) (reads : List (JobId × Plain (Item p)))
      → IsLeaf (settled p same (job.Composite glyph) reads)
  leaf_composite glyph reads = leaf_if (all_done reads) _ (leaf_on _ _ (λ header.
      leaf_on _ _ (λ order. leaf_on _ _ (λ flat.
      leaf_settle an.Composite (p.composite header order flat)))))

  pub leaf_advances : (reads : List (JobId × Plain (Item p)))
      → IsLeaf (settled p same job.Advances reads)
  leaf_advances reads = leaf_if (all_done reads) _ (leaf_on _ _ (λ header.
      leaf_on _ _ (λ order. leaf_on _ _ (λ flats.
      leaf_settle an.Advances (p.measures header order flats)))))

  pub leaf_variations : (glyph : ℕ) (reads : List (JobId × Plain (Item p)))
      → IsLeaf (settled p same (job.Variations glyph) reads)
  leaf_variations glyph reads = leaf_if (all_done reads) _ (leaf_on _ _ (λ header.
      leaf_on _ _ (λ index. leaf_on _ _ (λ flat.
      leaf_settle an.Variations (p.variations header index flat)))))

  pub leaf_table : (tag : Tag) (reads : List (JobId × Plain (Item p)))
      → IsLeaf (settled p same (job.Table tag) reads)
  leaf_table tag reads = leaf_if (all_done reads) _ (leaf_on _ _ (λ header.
      leaf_on _ _ (λ order. leaf_on _ _ (λ extra.
      leaf_settle an.Table (p.table tag header order extra)))))

  pub leaf_font : (reads : List (JobId × Plain (Item p))) → IsLeaf (settled p same job.Font reads)
  leaf_font reads = leaf_if (all_done reads) _
      (leaf_on _ _ (λ tables. leaf_settle an.Font (p.font tables)))

  pub makes_index : (reads : List (JobId × Plain (Item p)))
      → Makes an.Index (λ index. after_index p same (of_index p same index))
      (settled p same job.Index reads)
  makes_index reads = makes_if an.Index adds (all_done reads) _ (makes_on an.Index adds _ _
      (λ tree e. makes_settle an.Index adds (p.index tree)))
    where
      adds : p.Index → List (Spec JobId)
      adds index = after_index p same (of_index p same index)

  -- the jobs that a glyph adds, by what is known of the header and of the index
  abbrev pub raw_next : Option p.Header → Option p.Index → ℕ → p.Raw → List (Spec JobId)
  raw_next header index glyph raw = after_raw p same
      (varies_in p same header && exported_in p same index glyph)
      (bases_in p same (Some raw) index) glyph

  pub makes_raw : (glyph : ℕ) (h : Option p.Header) (i : Option p.Index)
      (reads : List (JobId × Plain (Item p)))
      → ((header : p.Header) → read_as p same (as_header p) reads job.Header ≡ Some header
      → h ≡ Some header)
      → ((index : p.Index) → read_as p same (as_index p) reads job.Index ≡ Some index
      → i ≡ Some index)
      → Makes an.Raw (raw_next h i glyph) (settled p same (job.Raw glyph) reads)
  makes_raw glyph h i reads header_so index_so = makes_if an.Raw (raw_next h i glyph)
      (all_done reads) _ (makes_on an.Raw (raw_next h i glyph) _ _ (λ tree e.
      makes_on an.Raw (raw_next h i glyph) _ _ (λ header f.
      makes_on an.Raw (raw_next h i glyph) _ _ (λ index g.
      subst (λ o. Makes an.Raw (raw_next o i glyph) (settle p same an.Raw
      (raw_next (Some header) (Some index) glyph) (p.raw tree header index glyph)))
      (sym (header_so header f))
      (subst (λ o. Makes an.Raw (raw_next (Some header) o glyph) (settle p same an.Raw
      (raw_next (Some header) (Some index) glyph) (p.raw tree header index glyph)))
      (sym (index_so index g))
      (makes_settle an.Raw (raw_next (Some header) (Some index) glyph)
      (p.raw tree header index glyph)))))))

  abbrev pub flat_next : Option p.Index → ℕ → p.Flat → List (Spec JobId)
  flat_next index glyph flat = after_flat p same (exported_in p same index glyph)
      (p.is_composite flat) glyph

  pub makes_flat : (glyph : ℕ) (i : Option p.Index) (reads : List (JobId × Plain (Item p)))
      → ((index : p.Index) → read_as p same (as_index p) reads job.Index ≡ Some index
      → i ≡ Some index)
      → Makes an.Flat (flat_next i glyph) (settled p same (job.Flat glyph) reads)
  makes_flat glyph i reads index_so = makes_if an.Flat (flat_next i glyph) (all_done reads) _
      (makes_on an.Flat (flat_next i glyph) _ _ (λ raw e. makes_on an.Flat (flat_next i glyph) _ _
      (λ index f. makes_on an.Flat (flat_next i glyph) _ _ (λ flats g.
      subst (λ o. Makes an.Flat (flat_next o glyph) (settle p same an.Flat
      (flat_next (Some index) glyph) (p.flat raw index flats))) (sym (index_so index f))
      (makes_settle an.Flat (flat_next (Some index) glyph) (p.flat raw index flats))))))

  abbrev pub order_next : {A : Type 0} → Numbers → A → List (Spec JobId)
  order_next numbers a = after_order p same numbers

  pub makes_order : (ns : Numbers) (reads : List (JobId × Plain (Item p)))
      → ((header : p.Header) (index : p.Index) (flats : List p.Flat)
      → read_as p same (as_header p) reads job.Header ≡ Some header
      → read_as p same (as_index p) reads job.Index ≡ Some index
      → read_all p same (as_flat p) reads (map job.Flat (p.numbers index)) ≡ Some flats
      → of_order p same header (p.numbers index) flats ≡ ns)
      → Makes an.Order (order_next ns) (settled p same job.Order reads)
  makes_order ns reads known = makes_if an.Order (order_next ns) (all_done reads) _
      (makes_on an.Order (order_next ns) _ _ (λ header e. makes_on an.Order (order_next ns) _ _
      (λ index f. makes_on an.Order (order_next ns) _ _ (λ flats g.
      subst (λ ms. Makes an.Order (order_next ms) (settle p same an.Order
      (order_next (of_order p same header (p.numbers index) flats)) (p.order header index flats)))
      (known header index flats e f g)
      (makes_settle an.Order (order_next (of_order p same header (p.numbers index) flats))
      (p.order header index flats))))))
