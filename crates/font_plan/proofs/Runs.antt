-- What comes of a job by what its part answers, in the words of the graph.
use Rattle.std.proofs.Common.{◌≡◌, ℕ, ◌&&◌, List, [], ◌∷◌, map, Option, Some, Result, Ok, Err}
use Rattle.std.proofs.Common.{refl, sym, ap, ◌∙◌, subst}
use Rattle.std.specs.Prelude.{Vec}
use Rattle.std.specs.Option.{option_map}
use Rattle.std.specs.declared.alloc.Global.{Global}
use Rattle.refusal_codes.specs.Gives.{Gives}
use Rattle.refusal_codes.specs.declared.errors.ReadError.{ReadError}
use Rattle.refusal_codes.specs.declared.refusal.Refusal.{Refusal}
use Rattle.access_context.specs.declared.access.Spec.{Spec}
use Rattle.access_context.specs.Plain.{PlainOutcome}
use Rattle.plist_reader.specs.declared.tree.Tree.{Tree}
use Rattle.font_ir.specs.declared.header.Header.{Header}
use Rattle.font_ir.specs.declared.glyph.GlyphIr.{GlyphIr}
use Rattle.font_ir.specs.declared.glyph.FlatGlyph.{FlatGlyph}
use Rattle.font_ir.specs.declared.tag.Tag.{Tag}
use Rattle.font_ir.specs.Glyphs.{Glyphs}
use Rattle.glyphs_source.specs.HeaderReading.{header_of}
use Rattle.glyphs_source.specs.IndexReading.{index_of}
use Rattle.metrics_tables.specs.declared.measures.Measures.{Measures}
use Rattle.character_codes.specs.CharacterCodes.{Entry}
use Rattle.font_tables.specs.Tags.{group_of}
use Rattle.font_tables.specs.declared.tags.TableGroup.{TableGroup}
use Rattle.font_tables.specs.declared.tags.TheConstants.{TABLE_TAGS}
use Rattle.font_graph.specs.Parts.{Extra}
use Rattle.font_graph.specs.Graph.{settle, outcome, of_index, of_order, after_index, after_raw}
use Rattle.font_graph.specs.Graph.{after_flat, after_order, parts_of, varied_of}
use Rattle.font_graph.specs.Running as running
use Rattle.font_graph.specs.Same.{same_id}
use Rattle.font_graph.specs.declared.ids.JobId.{JobId}
use Rattle.font_graph.specs.declared.ids.JobId.TheVariants as job
use Rattle.font_graph.specs.declared.items.Item.TheVariants as an
use Rattle.character_codes.specs.CharacterCodes.{Entry}
use Rattle.font_plan.specs.FontFile.{filed, present}
use Rattle.font_plan.specs.Bases.{is_exported, bases_in}
use Rattle.font_plan.specs.Jobs.{parts, tree_of, raw_in, flat_in, has_axes, simple_in}
use Rattle.font_plan.specs.Jobs.{is_composite, composite_in}
use Rattle.font_plan.specs.Jobs.{variations_in, measures_in, needs_in, table_with, table_in}
use Rattle.font_plan.specs.Order.{numbers_in, order_or_refused, ordered}
use Rattle.font_plan.specs.Reading.{PlanReads, part_by, part_read, of_all}
use Rattle.font_plan.specs.Settling.{AnItem, made_by, none}

settled_so : {A : Type 0} (source : List ℕ) (item : A → AnItem) (adds : A → List (Spec JobId))
    (r : Result A Refusal) → settle (parts source) same_id item adds r ≡ made_by item adds r
unfolding settle
settled_so source item adds (Ok a) = refl
settled_so source item adds (Err r) = refl

abbrev comes : List ℕ → JobId → PlanReads → PlainOutcome AnItem JobId
comes source id reads = outcome (parts source) same_id id reads

pub tree_comes : (source : List ℕ) (reads : PlanReads)
    → made_by an.Tree none (tree_of source) ≡ comes source job.Tree reads
tree_comes source reads = sym (settled_so source an.Tree none (tree_of source))

pub header_comes : (source : List ℕ) (reads : PlanReads) (tree : Tree)
    → running.tree_read (parts []) reads ≡ Some tree
    → made_by an.Header none (header_of tree) ≡ comes source job.Header reads
header_comes source reads tree e = sym (running.header_runs (parts source) reads tree e
    ∙ settled_so source an.Header none (header_of tree))

pub index_comes : (source : List ℕ) (reads : PlanReads) (tree : Tree)
    → running.tree_read (parts []) reads ≡ Some tree
    → made_by an.Index (λ index. after_index (parts []) same_id (of_index (parts []) same_id index)) (index_of tree)
    ≡ comes source job.Index reads
index_comes source reads tree e = sym (running.index_runs (parts source) reads tree e
    ∙ settled_so source an.Index (λ index. after_index (parts []) same_id (of_index (parts []) same_id index))
    (index_of tree))

pub raw_comes : (source : List ℕ) (reads : PlanReads) (glyph : ℕ) (tree : Tree) (header : Header)
    (index : List Entry) → running.tree_read (parts []) reads ≡ Some tree
    → running.header_read (parts []) reads ≡ Some header
    → running.index_read (parts []) reads ≡ Some index
    → made_by an.Raw (λ raw. after_raw (parts []) same_id
    (has_axes header && is_exported index glyph) (bases_in raw index) glyph)
    (raw_in tree header index glyph) ≡ comes source (job.Raw glyph) reads
raw_comes source reads glyph tree header index a b c =
    sym (running.raw_runs (parts source) glyph reads tree header index a b c
    ∙ settled_so source an.Raw (λ raw. after_raw (parts []) same_id
    (has_axes header && is_exported index glyph) (bases_in raw index) glyph)
    (raw_in tree header index glyph))

pub flat_comes : (source : List ℕ) (reads : PlanReads) (glyph : ℕ) (raw : GlyphIr)
    (index : List Entry) (bases : List FlatGlyph)
    → running.raw_read (parts []) glyph reads ≡ Some raw
    → running.index_read (parts []) reads ≡ Some index
    → running.flats_read (parts []) (bases_in raw index) reads ≡ Some bases
    → made_by an.Flat (λ flat. after_flat (parts []) same_id (is_exported index glyph)
    (is_composite flat) glyph) (flat_in raw index bases) ≡ comes source (job.Flat glyph) reads
flat_comes source reads glyph raw index bases a b c =
    sym (running.flat_runs (parts source) glyph reads raw index bases a b c
    ∙ settled_so source an.Flat (λ flat. after_flat (parts []) same_id (is_exported index glyph)
    (is_composite flat) glyph) (flat_in raw index bases))

pub simple_comes : (source : List ℕ) (reads : PlanReads) (glyph : ℕ) (header : Header)
    (flat : FlatGlyph) → running.header_read (parts []) reads ≡ Some header
    → running.flat_read (parts []) glyph reads ≡ Some flat
    → made_by an.Simple none (Ok (simple_in header flat)) ≡ comes source (job.Simple glyph) reads
simple_comes source reads glyph header flat a b =
    sym (running.simple_runs (parts source) glyph reads header flat a b
    ∙ settled_so source an.Simple none (Ok (simple_in header flat)))

pub composite_comes : (source : List ℕ) (reads : PlanReads) (glyph : ℕ) (header : Header)
    (order : Glyphs) (flat : FlatGlyph) → running.header_read (parts []) reads ≡ Some header
    → running.order_read (parts []) reads ≡ Some order
    → running.flat_read (parts []) glyph reads ≡ Some flat
    → made_by an.Composite none (Ok (composite_in header order flat))
    ≡ comes source (job.Composite glyph) reads
composite_comes source reads glyph header order flat a b c =
    sym (running.composite_runs (parts source) glyph reads header order flat a b c
    ∙ settled_so source an.Composite none (Ok (composite_in header order flat)))

-- the jobs of the data of glyphs, by what is read of them
parts_are : (reads : PlanReads) (glyphs : List ℕ) (flats : List FlatGlyph)
    → map Some flats ≡ map (λ glyph. running.flat_read (parts []) glyph reads) glyphs
    → parts_of (parts []) same_id glyphs flats ≡ map (part_read reads) glyphs
parts_are reads [] flats e = refl
parts_are reads (glyph ∷ glyphs) [] e = absurd cc
parts_are reads (glyph ∷ glyphs) (flat ∷ flats) e =
    let first : Some flat ≡ running.flat_read (parts []) glyph reads = cc in
    let rest : map Some flats ≡ map (λ glyph. running.flat_read (parts []) glyph reads) glyphs
    = cc in
    ap (λ id. id ∷ parts_of (parts []) same_id glyphs flats) (ap (λ o. part_by o glyph) first)
    ∙ ap (λ ids. part_read reads glyph ∷ ids) (parts_are reads glyphs flats rest)

pub order_comes : (source : List ℕ) (reads : PlanReads) (header : Header) (index : List Entry)
    (glyphs : List ℕ) (outlines : List JobId) (flats : List FlatGlyph)
    → running.header_read (parts []) reads ≡ Some header
    → running.index_read (parts []) reads ≡ Some index
    → running.flats_read (parts []) (numbers_in index) reads ≡ Some flats
    → map Some flats ≡ map (λ glyph. running.flat_read (parts []) glyph reads) (numbers_in index)
    → glyphs ≡ numbers_in index → outlines ≡ map (part_read reads) glyphs
    → made_by an.Order (λ order. after_order (parts []) same_id
    (of_all glyphs (varied_of (has_axes header) glyphs) outlines)) (order_or_refused index)
    ≡ comes source job.Order reads
order_comes source reads header index glyphs outlines flats a b c each are outlines_are =
    let outlines_is : outlines ≡ parts_of (parts []) same_id (numbers_in index) flats
    = outlines_are ∙ ap (map (part_read reads)) are
    ∙ sym (parts_are reads (numbers_in index) flats each) in
    (λ i. made_by an.Order (λ order. after_order (parts []) same_id
    (of_all (are i) (varied_of (has_axes header) (are i)) (outlines_is i))) (order_or_refused index))
    ∙ sym (running.order_runs (parts source) reads header index flats a b c
    ∙ settled_so source an.Order (λ order. after_order (parts []) same_id
    (of_order (parts []) same_id header (numbers_in index) flats)) (order_or_refused index))

pub variations_come : (source : List ℕ) (reads : PlanReads) (glyph : ℕ) (header : Header)
    (index : List Entry) (flat : FlatGlyph) → running.header_read (parts []) reads ≡ Some header
    → running.index_read (parts []) reads ≡ Some index
    → running.flat_read (parts []) glyph reads ≡ Some flat
    → made_by an.Variations none (variations_in header index flat)
    ≡ comes source (job.Variations glyph) reads
variations_come source reads glyph header index flat a b c =
    sym (running.variations_runs (parts source) glyph reads header index flat a b c
    ∙ settled_so source an.Variations none (variations_in header index flat))

pub advances_comes : (source : List ℕ) (reads : PlanReads) (header : Header) (order : Glyphs)
    (flats : List FlatGlyph) → running.header_read (parts []) reads ≡ Some header
    → running.order_read (parts []) reads ≡ Some order
    → running.flats_read (parts []) (ordered order) reads ≡ Some flats
    → made_by an.Advances none (measures_in header order flats) ≡ comes source job.Advances reads
advances_comes source reads header order flats a b c =
    sym (running.advances_runs (parts source) reads header order flats a b c
    ∙ settled_so source an.Advances none (measures_in header order flats))

-- what a call gives of a table is what is defined
abbrev pub TableGives : Result (Option (Vec ℕ Global)) ReadError
    → Result (Option (List ℕ)) Refusal → Type 0
TableGives r definition = Gives (option_map (λ bytes. bytes.items)) r definition

-- a table of a group comes of what the group needs
pub table_comes_so : (source : List ℕ) (reads : PlanReads) (tag : Tag)
    (group : Option TableGroup) (header : Header) (order : Glyphs)
    (more : Extra (List Entry) Measures (List ℕ)) → group_of tag ≡ group
    → running.header_read (parts []) reads ≡ Some header
    → running.order_read (parts []) reads ≡ Some order
    → running.more_read (parts []) (needs_in group) reads ≡ Some more
    → made_by an.Table none (table_with group tag header order more)
    ≡ comes source (job.Table tag) reads
table_comes_so source reads tag group header order more is a b c =
    ap (λ g. made_by an.Table none (table_with g tag header order more)) (sym is)
    ∙ sym (running.table_runs (parts source) tag reads header order more a b
    (subst (λ g. running.more_read (parts []) (needs_in g) reads ≡ Some more) (sym is) c)
    ∙ settled_so source an.Table none (table_in tag header order more))

pub font_comes : (source : List ℕ) (reads : PlanReads) (tables : List (Option (List ℕ)))
    → running.tables_read (parts []) reads ≡ Some tables
    → made_by an.Font none (filed (present TABLE_TAGS tables)) ≡ comes source job.Font reads
font_comes source reads tables a = sym (running.font_runs (parts source) reads tables a
    ∙ settled_so source an.Font none (filed (present TABLE_TAGS tables)))
