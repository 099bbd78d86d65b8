-- Which jobs of a source come to a value: those that are there, but for an order of glyphs of which
-- some are not drawn. Lemmas.
use Rattle.std.proofs.Common.{◌≡◌, ℕ, zero, suc, ◌≤◌, Bool, true, false, inl, inr, List, [], ◌∷◌}
use Rattle.std.proofs.Common.{map, length}
use Rattle.std.proofs.Common.{Some, None, refl, sym, ◌∙◌, subst, arith}
use Rattle.std.specs.Prelude.{Contains}
use Rattle.std.specs.List.{AllByRecursion}
use Rattle.access_context.specs.Plain.{is_done}
use Rattle.font_ir.specs.declared.tag.Tag.{Tag}
use Rattle.job_graph.specs.Solutions.{Founded, opened, added}
use Rattle.job_graph.specs.Members.{In, In-from_Contains, Contains-from_In}
use Rattle.font_graph.specs.Parts.{Parts, Needs, Nothing, TheIndex, TheMeasures}
use Rattle.font_graph.specs.Parts.{TheMeasuresAndIndex, TheOutlines, TheVariations}
use Rattle.font_graph.specs.Kinds.{stratum_of, awaited_by}
use Rattle.font_graph.specs.Descent.{none_at_once, ended_read, ended_base}
use Rattle.font_graph.specs.Graph.{needed, all, exported, varied, part_ids, bases, is_read}
use Rattle.font_graph.specs.Graph.{is_found_within, is_found, kind_of, part_in, part_of, part_job}
use Rattle.font_graph.specs.Graph.{Reached, by_export, by_base}
use Rattle.font_graph.specs.Graph.{reads_with, numbers, value_of, spec_of, There, plan}
use Rattle.font_graph.specs.Graph.{flat_value, order_value}
use Rattle.font_graph.specs.Outcomes.{none_awaited, awaited_is, map-In, found_by, found_of_done}
use Rattle.font_graph.specs.Solved.{varied_in, flats_done, kind_done, reached_found, flat_draws_if}
use Rattle.font_graph.specs.Made.{part_done}
use Rattle.font_graph.specs.Same.{same_id, identity}
use Rattle.font_graph.specs.Due.{solved_by}
use Rattle.font_graph.specs.declared.ids.JobId.{JobId}
use Rattle.font_graph.specs.declared.ids.JobId.TheVariants as job

-- what holds of each of some ids
each_In : (P : JobId → Type 0) (ids : List JobId) → AllByRecursion P ids → (id : JobId) → In id ids
    → P id
each_In P [] holds id i = absurd i
each_In P (x ∷ ids) holds id i = elim i [
  | inl e ↦ subst P e holds.0
  | inr j ↦ each_In P ids holds.1 id j
]

each_made : {X : Type 0} (P : JobId → Type 0) (make : X → JobId) (xs : List X)
    → ((x : X) → In x xs → P (make x)) → AllByRecursion P (map make xs)
each_made P make [] holds = tt
each_made P make (x ∷ xs) holds =
    (holds x (inl refl), each_made P make xs (λ y i. holds y (inr i)))

module _ (p : Parts) where
  -- a job comes to a value, whatever the order of its jobs
  abbrev pub IsFounded : JobId → Type 0
  IsFounded id = Founded same_id (plan p same_id) (spec_of p same_id) (There p same_id)
      (value_of p same_id) id

  -- each job that is there and that this one awaits comes to a value
  abbrev Awaited : JobId → Type 0
  Awaited id = (stratum : ℕ) (other : JobId) → awaited_by id ≡ Some stratum
      → There p same_id other → stratum_of other ≤ stratum → IsFounded other

  awaits_none : (id : JobId) → awaited_by id ≡ None → Awaited id
  awaits_none id n stratum other e there low = absurd (none_awaited stratum (sym n ∙ e))

  founded_by : (id : JobId) → There p same_id id
      → AllByRecursion IsFounded (reads_with p same_id (numbers p same_id) id) → Awaited id
      → IsFounded id
  founded_by id there reads awaited =
      elim ((solved_by p).least id there) [
        | inl first ↦ opened id first (λ read c. of_read read c) awaited
        | inr made ↦ added id made.maker made.founded made.adds (λ read c. of_read read c) awaited
      ]
    where
      of_read : (read : JobId) → Contains (reads_with p same_id (numbers p same_id) id) read
          → IsFounded read
      of_read read c = each_In IsFounded (reads_with p same_id (numbers p same_id) id) reads read
          (In-from_Contains (reads_with p same_id (numbers p same_id) id) read c)

  -- ---- the source and its glyphs

  founded_tree : IsFounded job.Tree
  founded_tree = founded_by job.Tree tt tt (awaits_none job.Tree refl)

  founded_header : IsFounded job.Header
  founded_header = founded_by job.Header tt (founded_tree, tt) (awaits_none job.Header refl)

  founded_index : IsFounded job.Index
  founded_index = founded_by job.Index tt (founded_tree, tt) (awaits_none job.Index refl)

  founded_raw : (glyph : ℕ) → There p same_id (job.Raw glyph) → IsFounded (job.Raw glyph)
  founded_raw glyph there = founded_by (job.Raw glyph) there
      (founded_tree, (founded_header, (founded_index, tt))) (awaits_none (job.Raw glyph) refl)

  flat_is_founded : (depth glyph : ℕ) → is_found_within p same_id depth glyph ≡ true
      → Reached p same_id glyph → IsFounded (job.Flat glyph)
  flat_is_founded zero glyph e reached =
      absurd (none_at_once (bases p same_id) (is_read p same_id) glyph e)
  flat_is_founded (suc depth) glyph e reached = founded_by (job.Flat glyph)
      (reached, ended_read (bases p same_id) (is_read p same_id) (suc depth) glyph e) (
        founded_raw glyph reached,
        (
          founded_index,
          each_made IsFounded job.Flat (bases p same_id glyph)
              (λ base i. flat_is_founded depth base
              (ended_base (bases p same_id) (is_read p same_id) depth glyph base e i)
              (by_base glyph base reached i)),
        ),
      ) (awaits_none (job.Flat glyph) refl)

  pub founded_flat : (glyph : ℕ) → Reached p same_id glyph → is_found p same_id glyph ≡ true
      → IsFounded (job.Flat glyph)
  founded_flat glyph reached e = flat_is_founded (suc (length (all p same_id))) glyph e reached

  drawn_founded : (glyph : ℕ) → In glyph (exported p same_id)
      → is_done (flat_value p same_id glyph) ≡ true → IsFounded (job.Flat glyph)
  drawn_founded glyph i done = founded_flat glyph (by_export glyph i)
      (found_of_done p same_id glyph done)

  founded_simple : (glyph : ℕ) → There p same_id (job.Simple glyph) → IsFounded (job.Simple glyph)
  founded_simple glyph there =
      let flat = drawn_founded glyph there.0 (kind_done p same_id glyph false there.1) in
      founded_by (job.Simple glyph) there (founded_header, (flat, tt))
      (awaits_none (job.Simple glyph) refl)

  founded_variations : (glyph : ℕ) → There p same_id (job.Variations glyph)
      → is_found p same_id glyph ≡ true → IsFounded (job.Variations glyph)
  founded_variations glyph there e =
      let reached = by_export glyph (varied_in p same_id glyph there.0).0 in
      founded_by (job.Variations glyph) there
      (founded_header, (founded_index, (founded_flat glyph reached e, tt)))
      (awaits_none (job.Variations glyph) refl)

  -- ---- the order, where each exported glyph is drawn

  module _ (drawn : (glyph : ℕ) → In glyph (exported p same_id)
      → is_done (flat_value p same_id glyph) ≡ true) where
    found_so : (glyph : ℕ) → Reached p same_id glyph → is_found p same_id glyph ≡ true
    found_so = reached_found p same_id identity drawn

    founded_low : (id : JobId) → There p same_id id → stratum_of id ≤ 1 → IsFounded id
    founded_low job.Tree there low = founded_tree
    founded_low job.Header there low = founded_header
    founded_low job.Index there low = founded_index
    founded_low (job.Raw glyph) there low = founded_raw glyph there
    founded_low (job.Flat glyph) there low = founded_flat glyph there.0 (found_so glyph there.0)
    founded_low (job.Simple glyph) there low = founded_simple glyph there
    founded_low (job.Composite glyph) there low = absurd (omega arith)
    founded_low (job.Variations glyph) there low = founded_variations glyph there
        (found_so glyph (by_export glyph (varied_in p same_id glyph there.0).0))
    founded_low job.Order there low = absurd (omega arith)
    founded_low job.Advances there low = absurd (omega arith)
    founded_low (job.Table tag) there low = absurd (omega arith)
    founded_low job.Font there low = absurd (omega arith)
    founded_low _ there low = absurd there

    founded_order : There p same_id job.Order → IsFounded job.Order
    founded_order there = founded_by job.Order there (
      founded_header,
      (
        founded_index,
        each_made IsFounded job.Flat (exported p same_id)
            (λ glyph i. drawn_founded glyph i (drawn glyph i)),
      ),
    )
        (λ stratum other e there low. founded_low other there
        (let one = awaited_is 1 stratum e in omega arith))

  -- ---- what comes after it

  module _ (done : is_done (order_value p same_id) ≡ true) where
    abbrev drawn : (glyph : ℕ) → In glyph (exported p same_id)
        → is_done (flat_value p same_id glyph) ≡ true
    drawn = flats_done p same_id identity done

    order_founded : IsFounded job.Order
    order_founded = founded_order drawn
        (part_done p same_id identity job.Order done job.Index (inr (inl refl)))

    founded_below : (id : JobId) → There p same_id id → stratum_of id ≤ 2 → IsFounded id
    founded_below job.Tree there low = founded_tree
    founded_below job.Header there low = founded_header
    founded_below job.Index there low = founded_index
    founded_below (job.Raw glyph) there low = founded_raw glyph there
    founded_below (job.Flat glyph) there low = founded_low drawn (job.Flat glyph) there
        (omega arith)
    founded_below (job.Simple glyph) there low = founded_simple glyph there
    founded_below (job.Composite glyph) there low = absurd (omega arith)
    founded_below (job.Variations glyph) there low = founded_low drawn (job.Variations glyph) there
        (omega arith)
    founded_below job.Order there low = order_founded
    founded_below job.Advances there low = absurd (omega arith)
    founded_below (job.Table tag) there low = absurd (omega arith)
    founded_below job.Font there low = absurd (omega arith)
    founded_below _ there low = absurd there

    flats_founded : AllByRecursion IsFounded (map job.Flat (exported p same_id))
    flats_founded = each_made IsFounded job.Flat (exported p same_id)
        (λ glyph i. drawn_founded glyph i (drawn glyph i))

    composite_founded : (glyph : ℕ) → There p same_id (job.Composite glyph)
        → IsFounded (job.Composite glyph)
    composite_founded glyph there = founded_by (job.Composite glyph) there (
      founded_header,
      (order_founded, (drawn_founded glyph there.0 (drawn glyph there.0), tt)),
    )
        (λ stratum other e there low. founded_below other there
        (let two = awaited_is 2 stratum e in omega arith))

    advances_founded : IsFounded job.Advances
    advances_founded = founded_by job.Advances done
        (founded_header, (order_founded, flats_founded))
        (λ stratum other e there low. founded_below other there
        (let two = awaited_is 2 stratum e in omega arith))

    founded_to_advances : (id : JobId) → There p same_id id → stratum_of id ≤ 3 → IsFounded id
    founded_to_advances job.Advances there low = advances_founded
    founded_to_advances (job.Composite glyph) there low = composite_founded glyph there
    founded_to_advances (job.Table tag) there low = absurd (omega arith)
    founded_to_advances job.Font there low = absurd (omega arith)
    founded_to_advances job.Tree there low = founded_tree
    founded_to_advances job.Header there low = founded_header
    founded_to_advances job.Index there low = founded_index
    founded_to_advances (job.Raw glyph) there low = founded_raw glyph there
    founded_to_advances (job.Flat glyph) there low = founded_below (job.Flat glyph) there
        (omega arith)
    founded_to_advances (job.Simple glyph) there low = founded_simple glyph there
    founded_to_advances (job.Variations glyph) there low = founded_below (job.Variations glyph)
        there (omega arith)
    founded_to_advances job.Order there low = order_founded
    founded_to_advances _ there low = absurd there

    -- a glyph's own jobs, where it is exported
    part_founded : (glyph : ℕ) → In glyph (exported p same_id)
        → IsFounded (part_of p same_id glyph)
    part_founded glyph i =
        let d = flat_draws_if p same_id identity glyph (drawn glyph i) in
        subst (λ kind. IsFounded (part_in p same_id kind glyph)) (sym d.kind_is)
        (by d.kind d.kind_is)
      where
        by : (kind : Bool) → kind_of p same_id glyph ≡ Some kind
            → IsFounded (part_job kind glyph)
        by true e = composite_founded glyph (i, e)
        by false e = founded_simple glyph (i, e)

    variations_founded : (glyph : ℕ) → In glyph (varied p same_id)
        → IsFounded (job.Variations glyph)
    variations_founded glyph i =
        let is = varied_in p same_id glyph i in
        let found = reached_found p same_id identity drawn glyph (by_export glyph is.0) in
        founded_variations glyph (
          i,
          ended_read (bases p same_id) (is_read p same_id) (suc (length (all p same_id))) glyph
              found,
        ) found

    table_founded : (tag : Tag) → In tag p.tags → IsFounded (job.Table tag)
    table_founded tag i = founded_by (job.Table tag) (i, done)
        (founded_header, (order_founded, by_needs (p.needs tag)))
        (λ stratum other e there low. founded_to_advances other there
        (let three = awaited_is 3 stratum e in omega arith))
      where
        by_needs : (needs : Needs)
            → AllByRecursion IsFounded (needed (part_ids p same_id) (varied p same_id) needs)
        by_needs Nothing = tt
        by_needs TheIndex = (founded_index, tt)
        by_needs TheMeasures = (advances_founded, tt)
        by_needs TheMeasuresAndIndex = (advances_founded, (founded_index, tt))
        by_needs TheOutlines = each_made IsFounded (part_of p same_id) (exported p same_id)
            part_founded
        by_needs TheVariations = each_made IsFounded job.Variations (varied p same_id)
            variations_founded

    founded_to_tables : (id : JobId) → There p same_id id → stratum_of id ≤ 4 → IsFounded id
    founded_to_tables (job.Table tag) there low = table_founded tag there.0
    founded_to_tables job.Font there low = absurd (omega arith)
    founded_to_tables job.Advances there low = advances_founded
    founded_to_tables (job.Composite glyph) there low = composite_founded glyph there
    founded_to_tables job.Tree there low = founded_tree
    founded_to_tables job.Header there low = founded_header
    founded_to_tables job.Index there low = founded_index
    founded_to_tables (job.Raw glyph) there low = founded_raw glyph there
    founded_to_tables (job.Flat glyph) there low = founded_below (job.Flat glyph) there
        (omega arith)
    founded_to_tables (job.Simple glyph) there low = founded_simple glyph there
    founded_to_tables (job.Variations glyph) there low = founded_below (job.Variations glyph)
        there (omega arith)
    founded_to_tables job.Order there low = order_founded
    founded_to_tables _ there low = absurd there

    font_founded : IsFounded job.Font
    font_founded = founded_by job.Font done (each_made IsFounded job.Table p.tags table_founded)
        (λ stratum other e there low. founded_to_tables other there
        (let four = awaited_is 4 stratum e in omega arith))

  -- a job that is there and whose reads have values comes to one
  pub grounded : (id : JobId) → There p same_id id
      → ((read : JobId) → In read (reads_with p same_id (numbers p same_id) id)
      → is_done (value_of p same_id read) ≡ true) → IsFounded id
  grounded job.Tree there reads = founded_tree
  grounded job.Header there reads = founded_header
  grounded job.Index there reads = founded_index
  grounded (job.Raw glyph) there reads = founded_raw glyph there
  grounded (job.Flat glyph) there reads = founded_flat glyph there.0
      (found_by p same_id glyph there.1 (λ base i. found_of_done p same_id base
      (reads (job.Flat base) (inr (inr (map-In job.Flat (bases p same_id glyph) base i))))))
  grounded (job.Simple glyph) there reads = founded_simple glyph there
  grounded (job.Composite glyph) there reads =
      composite_founded (reads job.Order (inr (inl refl))) glyph there
  grounded (job.Variations glyph) there reads = founded_variations glyph there
      (found_of_done p same_id glyph (reads (job.Flat glyph) (inr (inr (inl refl)))))
  grounded job.Order there reads = founded_order (λ glyph i.
      reads (job.Flat glyph) (inr (inr (map-In job.Flat (exported p same_id) glyph i)))) there
  grounded job.Advances there reads = advances_founded there
  grounded (job.Table tag) there reads = table_founded there.1 tag there.0
  grounded job.Font there reads = font_founded there
  grounded _ there reads = absurd there

  -- and what comes to a value is there
  pub founded_there : (id : JobId) → IsFounded id → There p same_id id
  founded_there id (opened _ first reads awaited) =
      ((solved_by p).opening (spec_of p same_id id) first).0
  founded_there id (added _ maker founded adds reads awaited) =
      ((solved_by p).adds maker (spec_of p same_id id) founded adds).0

  base_read : (glyph base : ℕ) → In base (bases p same_id glyph)
      → Contains (reads_with p same_id (numbers p same_id) (job.Flat glyph)) (job.Flat base)
  base_read glyph base i = Contains-from_In
      (reads_with p same_id (numbers p same_id) (job.Flat glyph)) (job.Flat base)
      (inr (inr (map-In job.Flat (bases p same_id glyph) base i)))

  -- the contours of a glyph come to a value only where it is found
  flat_found : (id : JobId) → IsFounded id → (glyph : ℕ) → id ≡ job.Flat glyph
      → is_found p same_id glyph ≡ true
  flat_found id (opened _ first reads awaited) glyph e = found_by p same_id glyph
      (subst (There p same_id) e ((solved_by p).opening (spec_of p same_id id) first).0).1
      (λ base i. flat_found (job.Flat base) (reads (job.Flat base)
      (subst (λ id. Contains (reads_with p same_id (numbers p same_id) id) (job.Flat base)) (sym e)
      (base_read glyph base i))) base refl)
  flat_found id (added _ maker founded adds reads awaited) glyph e = found_by p same_id glyph
      (subst (There p same_id) e ((solved_by p).adds maker (spec_of p same_id id) founded adds).0).1
      (λ base i. flat_found (job.Flat base) (reads (job.Flat base)
      (subst (λ id. Contains (reads_with p same_id (numbers p same_id) id) (job.Flat base)) (sym e)
      (base_read glyph base i))) base refl)

  pub founded_found : (glyph : ℕ) → IsFounded (job.Flat glyph) → is_found p same_id glyph ≡ true
  founded_found glyph f = flat_found (job.Flat glyph) f glyph refl
