-- The graph of a source's jobs: what each reads, what comes of it, and which jobs it adds.
use Rattle.std.specs.Prelude.{◌≡◌, ℕ, zero, suc, Bool, true, false, ◌&&◌, List, [], ◌∷◌, ◌++◌}
use Rattle.std.specs.Prelude.{map, length}
use Rattle.std.specs.Prelude.{Option, Some, None, option_and_then, Result, Ok, Err, if◌then◌else◌}
use Rattle.access_context.specs.declared.access.Spec.{Spec}
use Rattle.access_context.specs.Plain.{Plain, Done, Refused, Blocked, PlainOutcome}
use Rattle.access_context.specs.Plain.{is_done, done_value}
use Rattle.access_context.specs.Read.{value_read, all_done}
use Rattle.refusal_codes.specs.declared.refusal.Refusal.{Refusal}
use Rattle.font_ir.specs.declared.tag.Tag.{Tag}
use Rattle.job_graph.specs.Meaning.{Meaning}
use Rattle.job_graph.specs.Rounds.{blocked}
use Rattle.job_graph.specs.Members.{In}
use Rattle.font_graph.specs.Kinds.{stratum_of, awaited_by}
use Rattle.font_graph.specs.Descent.{ends_within}
use Rattle.font_graph.specs.Parts.{Parts, Needs, Nothing, TheIndex, TheMeasures}
use Rattle.font_graph.specs.Parts.{TheMeasuresAndIndex, TheOutlines, TheVariations, Extra}
use Rattle.font_graph.specs.Parts.{nothing, with_index, with_measures, with_both, with_data}
use Rattle.font_graph.specs.declared.ids.JobId.{JobId}
use Rattle.font_graph.specs.declared.ids.JobId.TheVariants as job
use Rattle.font_graph.specs.declared.items.Item as items
use Rattle.font_graph.specs.declared.items.Item.TheVariants as an

-- ---- items

module _ (p : Parts) where
  abbrev pub Item : Type 0
  Item = items.Item p.Tree p.Header p.Index p.Raw p.Flat p.Data p.Order p.Measures p.Table p.File

  abbrev pub as_tree : Item → Option p.Tree
  as_tree (an.Tree tree) = Some tree
  as_tree _ = None

  abbrev pub as_header : Item → Option p.Header
  as_header (an.Header header) = Some header
  as_header _ = None

  abbrev pub as_index : Item → Option p.Index
  as_index (an.Index index) = Some index
  as_index _ = None

  abbrev pub as_raw : Item → Option p.Raw
  as_raw (an.Raw raw) = Some raw
  as_raw _ = None

  abbrev pub as_flat : Item → Option p.Flat
  as_flat (an.Flat flat) = Some flat
  as_flat _ = None

  abbrev pub as_order : Item → Option p.Order
  as_order (an.Order order) = Some order
  as_order _ = None

  abbrev pub as_measures : Item → Option p.Measures
  as_measures (an.Advances measures) = Some measures
  as_measures _ = None

  abbrev pub as_data : Item → Option p.Data
  as_data (an.Simple bytes) = Some bytes
  as_data (an.Composite bytes) = Some bytes
  as_data (an.Variations bytes) = Some bytes
  as_data _ = None

  abbrev pub as_table : Item → Option p.Table
  as_table (an.Table table) = Some table
  as_table _ = None

  abbrev pub as_font : Item → Option p.File
  as_font (an.Font file) = Some file
  as_font _ = None

-- ---- values

-- all values of a list, where each is there
abbrev pub all_of : {A : Type 0} → List (Option A) → Option (List A)
all_of [] = Some []
all_of (None ∷ others) = None
all_of (Some a ∷ others) = option_and_then (λ rest. Some (a ∷ rest)) (all_of others)

-- the numbers of the exported glyphs, of those that vary, and of each glyph's bases; and the jobs
-- of the exported glyphs' data in the table "glyf"
pub record Numbers : Type 0 where
  pub exported : List ℕ
  pub varied : List ℕ
  pub bases : ℕ → List ℕ
  pub parts : List JobId

-- all glyphs of a font with axes vary
abbrev pub varied_of : Bool → List ℕ → List ℕ
varied_of varies glyphs = if varies then glyphs else []

-- the job of a glyph's data in the table "glyf"
abbrev pub part_job : Bool → ℕ → JobId
part_job composite glyph = if composite then job.Composite glyph else job.Simple glyph

-- what a table reads beside the header and the order, where these jobs make the glyphs' data and
-- these glyphs vary
abbrev pub needed : List JobId → List ℕ → Needs → List JobId
needed parts varied Nothing = []
needed parts varied TheIndex = job.Index ∷ []
needed parts varied TheMeasures = job.Advances ∷ []
needed parts varied TheMeasuresAndIndex = job.Advances ∷ job.Index ∷ []
needed parts varied TheOutlines = parts
needed parts varied TheVariations = map job.Variations varied

module _ (p : Parts) (same : JobId → JobId → Bool) where
  -- the jobs of these glyphs' data, by their contours
  abbrev pub parts_of : List ℕ → List p.Flat → List JobId
  parts_of [] flats = []
  parts_of (glyph ∷ glyphs) [] = []
  parts_of (glyph ∷ glyphs) (flat ∷ flats) =
      part_job (p.is_composite flat) glyph ∷ parts_of glyphs flats

  -- what is known of the numbers once the index is read, and once the glyphs are drawn, too
  abbrev pub of_index : p.Index → Numbers
  of_index index = record {
    exported = p.numbers index;
    varied = [];
    bases = λ glyph. [];
    parts = [];
  }

  abbrev pub of_order : p.Header → List ℕ → List p.Flat → Numbers
  of_order header glyphs flats = record {
    exported = glyphs;
    varied = varied_of (p.is_variable header) glyphs;
    bases = λ glyph. [];
    parts = parts_of glyphs flats;
  }

  -- a glyph's own jobs read of other glyphs only its bases
  abbrev pub of_bases : List ℕ → Numbers
  of_bases bases = record { exported = []; varied = []; bases = λ glyph. bases; parts = [] }

  abbrev pub of_glyph : Numbers
  of_glyph = of_bases []

  -- what a job reads, where the glyphs have these numbers
  abbrev pub reads_with : Numbers → JobId → List JobId
  reads_with numbers job.Tree = []
  reads_with numbers job.Header = job.Tree ∷ []
  reads_with numbers job.Index = job.Tree ∷ []
  reads_with numbers (job.Raw glyph) = job.Tree ∷ job.Header ∷ job.Index ∷ []
  reads_with numbers (job.Flat glyph) =
      job.Raw glyph ∷ job.Index ∷ map job.Flat (numbers.bases glyph)
  reads_with numbers (job.Simple glyph) = job.Header ∷ job.Flat glyph ∷ []
  reads_with numbers (job.Composite glyph) = job.Header ∷ job.Order ∷ job.Flat glyph ∷ []
  reads_with numbers (job.Variations glyph) = job.Header ∷ job.Index ∷ job.Flat glyph ∷ []
  reads_with numbers job.Order = job.Header ∷ job.Index ∷ map job.Flat numbers.exported
  reads_with numbers job.Advances = job.Header ∷ job.Order ∷ map job.Flat numbers.exported
  reads_with numbers (job.Table tag) = job.Header ∷ job.Order
      ∷ needed numbers.parts numbers.varied (p.needs tag)
  reads_with numbers job.Font = map job.Table p.tags
  reads_with numbers _ = []

  abbrev pub spec_with : Numbers → JobId → Spec JobId
  spec_with numbers id = record {
    id = id;
    access = record { reads = reads_with numbers id; awaits = awaited_by id };
  }

  -- the value of an item that is read, where it has one of this kind
  abbrev pub read_as : {A : Type 0} → (Item p → Option A) → List (JobId × Plain (Item p)) → JobId
      → Option A
  read_as kind reads id = option_and_then kind (value_read same reads id)

  abbrev pub read_all : {A : Type 0} → (Item p → Option A) → List (JobId × Plain (Item p))
      → List JobId → Option (List A)
  read_all kind reads ids = all_of (map (λ id. read_as kind reads id) ids)

  -- the data of glyphs among what is read
  abbrev pub data_behind : Option p.Data → List p.Data → List p.Data
  data_behind None others = others
  data_behind (Some bytes) others = bytes ∷ others

  abbrev pub data_in : List (JobId × Plain (Item p)) → List p.Data
  data_in [] = []
  data_in (item ∷ reads) =
      data_behind (option_and_then (as_data p) (done_value item.1)) (data_in reads)

  -- what a table of these needs reads beside the header and the order
  abbrev pub extra_read : List (JobId × Plain (Item p)) → Needs
      → Option (Extra p.Index p.Measures p.Data)
  extra_read reads Nothing = Some nothing
  extra_read reads TheIndex = option_and_then (λ index. Some (with_index index))
      (read_as (as_index p) reads job.Index)
  extra_read reads TheMeasures = option_and_then (λ measures. Some (with_measures measures))
      (read_as (as_measures p) reads job.Advances)
  extra_read reads TheMeasuresAndIndex = option_and_then
      (λ measures. option_and_then (λ index. Some (with_both measures index))
      (read_as (as_index p) reads job.Index))
      (read_as (as_measures p) reads job.Advances)
  extra_read reads TheOutlines = Some (with_data (data_in reads))
  extra_read reads TheVariations = Some (with_data (data_in reads))

  -- nothing comes of a job with a read that has no value
  unfoldable pub on : {A : Type 0} → Option A → (A → PlainOutcome (Item p) JobId)
      → PlainOutcome (Item p) JobId
  on None next = blocked
  on (Some a) next = next a

  -- what a part answers, and the jobs that are added where it has a value
  unfoldable pub settle : {A : Type 0} → (A → Item p) → (A → List (Spec JobId)) → Result A Refusal
      → PlainOutcome (Item p) JobId
  settle item adds (Ok a) = record { value = Done (item a); added = adds a }
  settle item adds (Err refusal) = record { value = Refused refusal; added = [] }

  abbrev pub none : {A : Type 0} → A → List (Spec JobId)
  none a = []

  abbrev pub after_index : Numbers → List (Spec JobId)
  after_index numbers =
      map (λ glyph. spec_with of_glyph (job.Raw glyph)) numbers.exported
      ++ spec_with numbers job.Order ∷ []

  abbrev pub after_raw : Bool → List ℕ → ℕ → List (Spec JobId)
  after_raw varies bases glyph = spec_with (of_bases bases) (job.Flat glyph)
      ∷ (map (λ base. spec_with of_glyph (job.Raw base)) bases
      ++ (if varies then spec_with of_glyph (job.Variations glyph) ∷ [] else []))

  abbrev pub after_flat : Bool → Bool → ℕ → List (Spec JobId)
  after_flat exported composite glyph =
      if exported then spec_with of_glyph (part_job composite glyph) ∷ [] else []

  abbrev pub after_order : Numbers → List (Spec JobId)
  after_order numbers = spec_with numbers job.Advances ∷ spec_with numbers job.Font
      ∷ map (λ tag. spec_with numbers (job.Table tag)) p.tags

  -- what comes of a job whose reads have values
  abbrev pub outcome : JobId → List (JobId × Plain (Item p)) → PlainOutcome (Item p) JobId
  outcome job.Tree reads = settle an.Tree none p.tree
  outcome job.Header reads = on (read_as (as_tree p) reads job.Tree) (λ tree.
      settle an.Header none (p.header tree))
  outcome job.Index reads = on (read_as (as_tree p) reads job.Tree) (λ tree.
      settle an.Index (λ index. after_index (of_index index)) (p.index tree))
  outcome (job.Raw glyph) reads = on (read_as (as_tree p) reads job.Tree) (λ tree.
      on (read_as (as_header p) reads job.Header) (λ header.
      on (read_as (as_index p) reads job.Index) (λ index.
      settle an.Raw (λ raw. after_raw (p.is_variable header && p.is_exported index glyph)
      (p.bases raw index) glyph) (p.raw tree header index glyph))))
  outcome (job.Flat glyph) reads = on (read_as (as_raw p) reads (job.Raw glyph)) (λ raw.
      on (read_as (as_index p) reads job.Index) (λ index.
      on (read_all (as_flat p) reads (map job.Flat (p.bases raw index))) (λ flats.
      settle an.Flat
      (λ flat. after_flat (p.is_exported index glyph) (p.is_composite flat) glyph)
      (p.flat raw index flats))))
  outcome (job.Simple glyph) reads = on (read_as (as_header p) reads job.Header) (λ header.
      on (read_as (as_flat p) reads (job.Flat glyph)) (λ flat.
      settle an.Simple none (p.simple header flat)))
  outcome (job.Composite glyph) reads = on (read_as (as_header p) reads job.Header) (λ header.
      on (read_as (as_order p) reads job.Order) (λ order.
      on (read_as (as_flat p) reads (job.Flat glyph)) (λ flat.
      settle an.Composite none (p.composite header order flat))))
  outcome (job.Variations glyph) reads = on (read_as (as_header p) reads job.Header) (λ header.
      on (read_as (as_index p) reads job.Index) (λ index.
      on (read_as (as_flat p) reads (job.Flat glyph)) (λ flat.
      settle an.Variations none (p.variations header index flat))))
  outcome job.Order reads = on (read_as (as_header p) reads job.Header) (λ header.
      on (read_as (as_index p) reads job.Index) (λ index.
      on (read_all (as_flat p) reads (map job.Flat (p.numbers index))) (λ flats.
      settle an.Order (λ order. after_order (of_order header (p.numbers index) flats))
      (p.order header index flats))))
  outcome job.Advances reads = on (read_as (as_header p) reads job.Header) (λ header.
      on (read_as (as_order p) reads job.Order) (λ order.
      on (read_all (as_flat p) reads (map job.Flat (p.ordered order))) (λ flats.
      settle an.Advances none (p.measures header order flats))))
  outcome (job.Table tag) reads = on (read_as (as_header p) reads job.Header) (λ header.
      on (read_as (as_order p) reads job.Order) (λ order.
      on (extra_read reads (p.needs tag)) (λ extra.
      settle an.Table none (p.table tag header order extra))))
  outcome job.Font reads = on (read_all (as_table p) reads (map job.Table p.tags)) (λ tables.
      settle an.Font none (p.font tables))
  outcome _ reads = blocked

  -- and what comes of it at all
  abbrev pub settled : JobId → List (JobId × Plain (Item p)) → PlainOutcome (Item p) JobId
  settled id reads = if all_done reads then outcome id reads else blocked

  -- ---- the solution

  abbrev pub tree_value : Plain (Item p)
  tree_value = (settled job.Tree []).value

  abbrev pub header_value : Plain (Item p)
  header_value = (settled job.Header ((job.Tree, tree_value) ∷ [])).value

  abbrev pub index_value : Plain (Item p)
  index_value = (settled job.Index ((job.Tree, tree_value) ∷ [])).value

  -- the header and the index, where they are read
  abbrev pub header_known : Option p.Header
  header_known = option_and_then (as_header p) (done_value header_value)

  abbrev pub index_known : Option p.Index
  index_known = option_and_then (as_index p) (done_value index_value)

  -- the numbers of all glyphs and of the exported ones; none where the index isn't read
  abbrev pub all_in : Option p.Index → List ℕ
  all_in None = []
  all_in (Some index) = p.all index

  abbrev pub numbers_in : Option p.Index → List ℕ
  numbers_in None = []
  numbers_in (Some index) = p.numbers index

  abbrev pub exported_in : Option p.Index → ℕ → Bool
  exported_in None glyph = false
  exported_in (Some index) glyph = p.is_exported index glyph

  abbrev pub all : List ℕ
  all = all_in index_known

  abbrev pub exported : List ℕ
  exported = numbers_in index_known

  -- whether they vary; none does where the header isn't read
  abbrev pub varies_in : Option p.Header → Bool
  varies_in None = false
  varies_in (Some header) = p.is_variable header

  abbrev pub varies : Bool
  varies = varies_in header_known

  abbrev pub varied : List ℕ
  varied = varied_of varies exported

  abbrev pub raw_value : ℕ → Plain (Item p)
  raw_value glyph = (settled (job.Raw glyph)
      ((job.Tree, tree_value) ∷ (job.Header, header_value) ∷ (job.Index, index_value) ∷ [])).value

  -- a glyph's bases; none where it isn't read
  abbrev pub bases_in : Option p.Raw → Option p.Index → List ℕ
  bases_in None index = []
  bases_in (Some raw) None = []
  bases_in (Some raw) (Some index) = p.bases raw index

  abbrev pub raw_known : ℕ → Option p.Raw
  raw_known glyph = option_and_then (as_raw p) (done_value (raw_value glyph))

  abbrev pub bases : ℕ → List ℕ
  bases glyph = bases_in (raw_known glyph) index_known

  abbrev pub is_read : ℕ → Bool
  is_read glyph = is_done (raw_value glyph)

  -- a glyph is found where it is read, and its bases, and theirs and so on, and they lead to no
  -- cycle: less than this many bases away, or at all
  abbrev pub is_found_within : ℕ → ℕ → Bool
  is_found_within depth glyph = ends_within bases is_read depth glyph

  abbrev pub is_found : ℕ → Bool
  is_found glyph = is_found_within (suc (length all)) glyph

  abbrev pub flat_reads : (ℕ → Plain (Item p)) → ℕ → List (JobId × Plain (Item p))
  flat_reads value glyph = (job.Raw glyph, raw_value glyph) ∷ (job.Index, index_value)
      ∷ map (λ base. (job.Flat base, value base)) (bases glyph)

  -- its contours, by those of its bases
  unfoldable pub flat_within : ℕ → ℕ → Plain (Item p)
  flat_within zero glyph = Blocked
  flat_within (suc depth) glyph = if is_found_within (suc depth) glyph
      then (settled (job.Flat glyph) (flat_reads (flat_within depth) glyph)).value else Blocked

  abbrev pub flat_value : ℕ → Plain (Item p)
  flat_value glyph = flat_within (suc (length all)) glyph

  abbrev pub flat_known : ℕ → Option p.Flat
  flat_known glyph = option_and_then (as_flat p) (done_value (flat_value glyph))

  -- whether it is written as a composite, once it is drawn
  abbrev pub kind_in : Option p.Flat → Option Bool
  kind_in None = None
  kind_in (Some flat) = Some (p.is_composite flat)

  abbrev pub kind_of : ℕ → Option Bool
  kind_of glyph = kind_in (flat_known glyph)

  -- the job of its data
  abbrev pub part_in : Option Bool → ℕ → JobId
  part_in None glyph = job.Simple glyph
  part_in (Some composite) glyph = part_job composite glyph

  abbrev pub part_of : ℕ → JobId
  part_of glyph = part_in (kind_of glyph) glyph

  abbrev pub part_ids : List JobId
  part_ids = map part_of exported

  abbrev pub numbers : Numbers
  numbers = record { exported = exported; varied = varied; bases = bases; parts = part_ids }

  abbrev pub simple_value : ℕ → Plain (Item p)
  simple_value glyph = (settled (job.Simple glyph)
      ((job.Header, header_value) ∷ (job.Flat glyph, flat_value glyph) ∷ [])).value

  abbrev pub variations_value : ℕ → Plain (Item p)
  variations_value glyph = (settled (job.Variations glyph) ((job.Header, header_value)
      ∷ (job.Index, index_value) ∷ (job.Flat glyph, flat_value glyph) ∷ [])).value

  abbrev pub flat_items : List (JobId × Plain (Item p))
  flat_items = map (λ glyph. (job.Flat glyph, flat_value glyph)) exported

  abbrev pub order_value : Plain (Item p)
  order_value = (settled job.Order
      ((job.Header, header_value) ∷ (job.Index, index_value) ∷ flat_items)).value

  abbrev pub advances_value : Plain (Item p)
  advances_value = (settled job.Advances
      ((job.Header, header_value) ∷ (job.Order, order_value) ∷ flat_items)).value

  abbrev pub composite_value : ℕ → Plain (Item p)
  composite_value glyph = (settled (job.Composite glyph) ((job.Header, header_value)
      ∷ (job.Order, order_value) ∷ (job.Flat glyph, flat_value glyph) ∷ [])).value

  -- of a job of a glyph's data
  abbrev pub part_value : JobId → Plain (Item p)
  part_value (job.Simple glyph) = simple_value glyph
  part_value (job.Composite glyph) = composite_value glyph
  part_value _ = Blocked

  abbrev pub needed_items : Needs → List (JobId × Plain (Item p))
  needed_items Nothing = []
  needed_items TheIndex = (job.Index, index_value) ∷ []
  needed_items TheMeasures = (job.Advances, advances_value) ∷ []
  needed_items TheMeasuresAndIndex =
      (job.Advances, advances_value) ∷ (job.Index, index_value) ∷ []
  needed_items TheOutlines = map (λ id. (id, part_value id)) part_ids
  needed_items TheVariations = map (λ glyph. (job.Variations glyph, variations_value glyph)) varied

  abbrev pub table_items : Tag → List (JobId × Plain (Item p))
  table_items tag = (job.Header, header_value) ∷ (job.Order, order_value)
      ∷ needed_items (p.needs tag)

  abbrev pub table_value : Tag → Plain (Item p)
  table_value tag = (settled (job.Table tag) (table_items tag)).value

  abbrev pub font_value : Plain (Item p)
  font_value = (settled job.Font (map (λ tag. (job.Table tag, table_value tag)) p.tags)).value

  abbrev pub value_of : JobId → Plain (Item p)
  value_of job.Tree = tree_value
  value_of job.Header = header_value
  value_of job.Index = index_value
  value_of (job.Raw glyph) = raw_value glyph
  value_of (job.Flat glyph) = flat_value glyph
  value_of (job.Simple glyph) = simple_value glyph
  value_of (job.Composite glyph) = composite_value glyph
  value_of (job.Variations glyph) = variations_value glyph
  value_of job.Order = order_value
  value_of job.Advances = advances_value
  value_of (job.Table tag) = table_value tag
  value_of job.Font = font_value
  value_of _ = Blocked

  abbrev pub spec_of : JobId → Spec JobId
  spec_of id = spec_with numbers id

  -- the exported glyphs, and the bases of those, and theirs and so on
  pub data Reached : ℕ → Type 0 where
    by_export : (glyph : ℕ) → In glyph exported → Reached glyph
    by_base : (glyph base : ℕ) → Reached glyph → In base (bases glyph) → Reached base

  abbrev pub There : JobId → Type 0
  There job.Tree = Unit {0}
  There job.Header = Unit {0}
  There job.Index = Unit {0}
  There (job.Raw glyph) = Reached glyph
  There (job.Flat glyph) = Reached glyph × (is_done (raw_value glyph) ≡ true)
  There (job.Simple glyph) = In glyph exported × (kind_of glyph ≡ Some false)
  There (job.Composite glyph) = In glyph exported × (kind_of glyph ≡ Some true)
  There (job.Variations glyph) = In glyph varied × (is_done (raw_value glyph) ≡ true)
  There job.Order = is_done index_value ≡ true
  There job.Advances = is_done order_value ≡ true
  There (job.Table tag) = In tag p.tags × (is_done order_value ≡ true)
  There job.Font = is_done order_value ≡ true
  There _ = ⊥

  abbrev pub plan : Meaning JobId (Item p)
  plan = record {
    opening = spec_of job.Tree ∷ spec_of job.Header ∷ spec_of job.Index ∷ [];
    stratum = stratum_of;
    outcome = outcome;
    universe = job.Tree ∷ job.Header ∷ job.Index ∷ job.Order ∷ job.Advances ∷ job.Font
        ∷ (map job.Table p.tags ++ (map job.Raw all ++ (map job.Flat all
        ++ (map job.Simple exported ++ (map job.Composite exported
        ++ map job.Variations varied)))));
  }
