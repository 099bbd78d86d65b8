-- What each job of a source makes: the parts of its graph, which are defined in the crates that
-- read and write them. fontc's own; the tables are those of OpenType 1.9.
use Rattle.std.proofs.Common.{refl, subst}
use Rattle.std.specs.Prelude.{◌≡◌, ℕ, Bool, not, List, [], length, nat_lt, nat_eq, slice_get}
use Rattle.std.specs.Prelude.{Option, Some, None, Result, Ok, Err, if◌then◌else◌}
use Rattle.std.specs.declared.cmp.Ordering.TheVariants.{Less}
use Rattle.std.specs.Option.{option_map_or}
use Rattle.std.specs.Str.{is_utf8}
use Rattle.refusal_codes.specs.declared.refusal.Refusal.{Refusal}
use Rattle.refusal_codes.specs.declared.rule.Rule.TheVariants.{MissingLayer, DeltaTooLarge}
use Rattle.refusal_codes.specs.declared.rule.Rule.TheVariants.{TooManyRegions}
use Rattle.refusal_codes.specs.First.{refusal_of}
use Rattle.refusal_codes.specs.Order.{refusal_cmp}
use Rattle.refusal_codes.specs.declared.job.TheConstants.{RAW, ADVANCES}
use Rattle.refusal_codes.specs.declared.limits.TheConstants.{SOURCE_BYTES}
use Rattle.plist_reader.specs.declared.tree.Tree.{Tree}
use Rattle.plist_reader.specs.Reading.{read_of}
use Rattle.font_ir.specs.declared.header.Header.{Header}
use Rattle.font_ir.specs.declared.glyph.GlyphIr.{GlyphIr}
use Rattle.font_ir.specs.declared.glyph.FlatGlyph.{FlatGlyph}
use Rattle.font_ir.specs.declared.tag.Tag.{Tag}
use Rattle.font_ir.specs.Glyphs.{Glyphs}
use Rattle.font_ir.specs.Notdef.{made_notdef_of}
use Rattle.font_ir.specs.Outlines.{outline_at}
use Rattle.glyphs_source.specs.HeaderReading.{header_of}
use Rattle.glyphs_source.specs.IndexReading.{index_of}
use Rattle.glyphs_layers.specs.GlyphReading.{glyph_of, glyph_in}
use Rattle.glyphs_layers.specs.GlyphRules.{glyph_failures}
use Rattle.component_flatten.specs.Flattening.{flat_of}
use Rattle.glyf_writer.specs.GlyphData.{simple_data}
use Rattle.glyf_writer.specs.CompositeData.{composite_data}
use Rattle.metrics_tables.specs.declared.measures.Measures.{Measures}
use Rattle.metrics_tables.specs.declared.measures.MeasureError.{MeasureError}
use Rattle.metrics_tables.specs.declared.measures.MeasureError.TheVariants as measure_errors
use Rattle.metrics_tables.specs.Measuring.{measured_of}
use Rattle.metrics_tables.specs.Nesting.{bases_of}
use Rattle.metrics_tables.specs.Os2.{os2_table}
use Rattle.character_codes.specs.CharacterCodes.{Entry, codes_of}
use Rattle.font_tables.specs.Tags.{group_of}
use Rattle.font_tables.specs.Tables as tables
use Rattle.font_tables.specs.Variations.{variations_of}
use Rattle.font_tables.specs.declared.tags.TableGroup.{TableGroup}
use Rattle.font_tables.specs.declared.tags.TableGroup.TheVariants as groups
use Rattle.font_tables.specs.declared.tags.TheConstants.{TABLE_TAGS}
use Rattle.font_graph.specs.Parts.{Parts, Needs, Nothing, TheIndex, TheMeasures}
use Rattle.font_graph.specs.Parts.{TheMeasuresAndIndex, TheOutlines, TheVariations, Extra}
use Rattle.font_graph.specs.Parts.{nothing, with_index, with_measures, with_both, with_data}
use Rattle.font_plan.specs.Bases.{all_in, numbers_there, is_exported, exported_are, bases_in}
use Rattle.font_plan.specs.Bases.{bases_there, endless_in, raw_before}
use Rattle.font_plan.specs.FontFile.{source_too_large, filed, present}
use Rattle.font_plan.specs.Order.{numbers_in, order_or_refused, ordered, ordered_is, behind_made}

-- ---- the source

unfoldable pub tree_of : List ℕ → Result Tree Refusal
tree_of source = if nat_lt SOURCE_BYTES (length source) then Err source_too_large
    else read_of source

-- ---- a glyph

-- no job is of a glyph that the index hasn't
abbrev pub nowhere : {A : Type 0} → Result A Refusal
nowhere = Err (refusal_of RAW [] (record { rule = MissingLayer; place = 0 }))

abbrev pub raw_at : Tree → Header → List Entry → ℕ → Option Entry → Result GlyphIr Refusal
raw_at tree header index number None = nowhere
raw_at tree header index number (Some entry) = glyph_of tree header index number

abbrev pub raw_in : Tree → Header → List Entry → ℕ → Result GlyphIr Refusal
raw_in tree header index number = raw_at tree header index number (slice_get index number)

pub raw_last : (tree : Tree) (header : Header) (index : List Entry) (number : ℕ) (r : Refusal)
    (other : GlyphIr) → raw_in tree header index number ≡ Err r
    → refusal_cmp r (endless_in other index) ≡ Less
raw_last tree header index number r other e = by (slice_get index number) e
  where
    by : (entry : Option Entry) → raw_at tree header index number entry ≡ Err r
        → refusal_cmp r (endless_in other index) ≡ Less
    by None f =
        let same : refusal_of RAW [] (record { rule = MissingLayer; place = 0 }) ≡ r = cc in
        subst (λ r. refusal_cmp r (endless_in other index) ≡ Less) same refl
    by (Some entry) f = raw_before (glyph_failures tree header (glyph_in index number)) tree header
        index number r other index f

abbrev pub flat_at : GlyphIr → List Entry → List FlatGlyph → Option Entry
    → Result FlatGlyph Refusal
flat_at glyph index bases None = nowhere
flat_at glyph index bases (Some entry) = flat_of index entry.0 glyph bases

abbrev pub flat_in : GlyphIr → List Entry → List FlatGlyph → Result FlatGlyph Refusal
flat_in glyph index bases = flat_at glyph index bases (slice_get index glyph.number)

abbrev pub has_axes : Header → Bool
has_axes header = not (tables.has_no_axes header)

abbrev pub simple_in : Header → FlatGlyph → List ℕ
simple_in header glyph = simple_data (has_axes header) (outline_at header.origin glyph)

-- a glyph that keeps components is written as a composite of them
abbrev pub is_composite : FlatGlyph → Bool
is_composite glyph = not (nat_eq (length glyph.kept) 0)

abbrev pub composite_in : Header → Glyphs → FlatGlyph → List ℕ
composite_in header order glyph =
    composite_data header.origin glyph (bases_of order.names glyph)

abbrev pub variations_at : Header → FlatGlyph → Option Entry → Result (List ℕ) Refusal
variations_at header glyph None = nowhere
variations_at header glyph (Some entry) = variations_of header entry.0 glyph

abbrev pub variations_in : Header → List Entry → FlatGlyph → Result (List ℕ) Refusal
variations_in header index glyph = variations_at header glyph (slice_get index glyph.number)

-- ---- what is measured

abbrev pub glyphs_with : Header → Glyphs → List FlatGlyph → List FlatGlyph
glyphs_with header order glyphs = behind_made order.numbers (made_notdef_of header) glyphs

-- what is told of a glyph's name: a source's names are all text
abbrev pub told_name : Option (List ℕ) → List ℕ
told_name None = []
told_name (Some name) = if is_utf8 name then name else []

-- a glyph's advance width changes by too much
abbrev pub advance_refused : Option (List ℕ) → Option FlatGlyph → Refusal
advance_refused name glyph = refusal_of ADVANCES (told_name name)
    (record { rule = DeltaTooLarge; place = option_map_or (λ (g : FlatGlyph). g.place) glyph 0 })

abbrev pub too_many_regions : ℕ → Refusal
too_many_regions count = refusal_of ADVANCES [] (record { rule = TooManyRegions; place = count })

-- a definition never wants memory
abbrev pub measures_refused : List (List ℕ) → List FlatGlyph → MeasureError → Refusal
measures_refused names glyphs (measure_errors.TooLarge gid value) =
    advance_refused (slice_get names gid) (slice_get glyphs gid)
measures_refused names glyphs (measure_errors.Regions count) = too_many_regions count
measures_refused names glyphs measure_errors.NoMemory = too_many_regions 0

abbrev pub unless_refused : List (List ℕ) → List FlatGlyph → Result Measures MeasureError
    → Result Measures Refusal
unless_refused names glyphs (Ok measures) = Ok measures
unless_refused names glyphs (Err error) = Err (measures_refused names glyphs error)

abbrev pub measures_over : Header → List (List ℕ) → List FlatGlyph → Result Measures Refusal
measures_over header names glyphs =
    unless_refused names glyphs (measured_of header names glyphs)

abbrev pub measures_in : Header → Glyphs → List FlatGlyph → Result Measures Refusal
measures_in header order glyphs =
    measures_over header order.names (glyphs_with header order glyphs)

-- ---- the tables

-- what a table of a group needs beside the header and the order
abbrev pub needs_in : Option TableGroup → Needs
needs_in None = Nothing
needs_in (Some groups.Plain) = Nothing
needs_in (Some groups.Style) = Nothing
needs_in (Some groups.Codes) = TheIndex
needs_in (Some groups.CodeMetrics) = TheMeasuresAndIndex
needs_in (Some groups.Metrics) = TheMeasures
needs_in (Some groups.Outlines) = TheOutlines
needs_in (Some groups.Variations) = TheVariations

abbrev pub needs_of : Tag → Needs
needs_of tag = needs_in (group_of tag)

-- the data of all glyphs: a made `.notdef` has no outline and doesn't vary
abbrev pub parts_with : Header → Glyphs → List (List ℕ) → List (List ℕ)
parts_with header order parts =
    behind_made order.numbers (simple_in header (made_notdef_of header)) parts

abbrev pub variations_with : Glyphs → List (List ℕ) → List (List ℕ)
variations_with order variations = behind_made order.numbers [] variations

abbrev pub table_with : Option TableGroup → Tag → Header → Glyphs
    → Extra (List Entry) Measures (List ℕ) → Result (Option (List ℕ)) Refusal
table_with (Some groups.Plain) tag header order nothing =
    Ok (tables.plain_table tag header order)
table_with (Some groups.Style) tag header order nothing = tables.style_table tag header
table_with (Some groups.Codes) tag header order (with_index index) =
    tables.code_table (codes_of index order.numbers)
table_with (Some groups.CodeMetrics) tag header order (with_both measures index) =
    Ok (Some (os2_table header measures (codes_of index order.numbers)))
table_with (Some groups.Metrics) tag header order (with_measures measures) =
    Ok (tables.metrics_table tag header measures)
table_with (Some groups.Outlines) tag header order (with_data parts) =
    tables.outline_table tag (parts_with header order parts)
table_with (Some groups.Variations) tag header order (with_data variations) =
    tables.variations_table header (variations_with order variations)
table_with _ tag header order more = Ok None

abbrev pub table_in : Tag → Header → Glyphs → Extra (List Entry) Measures (List ℕ)
    → Result (Option (List ℕ)) Refusal
table_in tag header order more = table_with (group_of tag) tag header order more

-- ---- the parts together

abbrev pub parts : List ℕ → Parts
parts source = record {
  Tree = Tree;
  Header = Header;
  Index = List Entry;
  Raw = GlyphIr;
  Flat = FlatGlyph;
  Data = List ℕ;
  Order = Glyphs;
  Measures = Measures;
  Table = Option (List ℕ);
  File = List ℕ;
  tree = tree_of source;
  header = header_of;
  index = index_of;
  all = all_in;
  numbers = numbers_in;
  numbers_there = numbers_there;
  is_exported = is_exported;
  exported_are = exported_are;
  raw = raw_in;
  bases = bases_in;
  bases_there = bases_there;
  flat = flat_in;
  endless = endless_in;
  endless_last = raw_last;
  is_composite = is_composite;
  simple = λ header glyph. Ok (simple_in header glyph);
  composite = λ header order glyph. Ok (composite_in header order glyph);
  is_variable = has_axes;
  variations = variations_in;
  order = λ header index glyphs. order_or_refused index;
  ordered = ordered;
  ordered_is = λ header index glyphs order e. ordered_is index order e;
  measures = measures_in;
  tags = TABLE_TAGS;
  needs = needs_of;
  table = table_in;
  font = λ tables. filed (present TABLE_TAGS tables);
}
