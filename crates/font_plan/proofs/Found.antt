-- What each job of a source finds where it is run, as its calls need it.
use Rattle.std.proofs.Common.{◌≡◌, ℕ, suc, ◌<◌, ◌≤◌, ◌+◌, List, [], ◌∷◌, map, length, take, Option}
use Rattle.std.proofs.Common.{Some, None, Result, Ok, Err, refl, sym, ap, ◌∙◌, true, false, subst}
use Rattle.std.proofs.Common.{Bool, arith, true≢false}
use Rattle.std.specs.Prelude.{IsSome, option_and_then, if◌then◌else◌, not, nat_eq}
use Rattle.std.specs.List.{All, AllByRecursion}
use Rattle.std.specs.Option.{option_map}
use Rattle.std.proofs.lemmas.Simd.{map-map}
use Rattle.std.proofs.lemmas.Bool.Decides.{nat_tests}
use Rattle.refusal_codes.specs.declared.limits.TheConstants.{GLYPHS}
use Rattle.refusal_codes.specs.declared.refusal.Refusal.{Refusal}
use Rattle.font_ir.specs.declared.header.Header.{Header}
use Rattle.font_ir.specs.declared.header.Master.{Master}
use Rattle.font_ir.specs.declared.glyph.GlyphIr.{GlyphIr}
use Rattle.font_ir.specs.declared.glyph.Kept.{Kept}
use Rattle.font_ir.specs.declared.glyph.FlatGlyph.{FlatGlyph}
use Rattle.font_ir.specs.declared.tag.Tag.{Tag}
use Rattle.font_ir.specs.FlatGlyphs.{IsFlatGlyph}
use Rattle.font_ir.specs.Glyphs.{Glyphs}
use Rattle.font_ir.specs.Headers.{IsHeader}
use Rattle.font_ir.specs.Notdef.{made_notdef_of}
use Rattle.component_flatten.specs.Flattening.{IsBase, HasBases}
use Rattle.metrics_tables.specs.declared.measures.Measures.{Measures}
use Rattle.metrics_tables.specs.declared.measures.MeasureError.{MeasureError}
use Rattle.metrics_tables.specs.Changes.{BeginsWithMasters}
use Rattle.metrics_tables.specs.Hvar.{AreMeasuresFor}
use Rattle.metrics_tables.specs.Measuring.{measured_of}
use Rattle.metrics_tables.specs.Nesting.{NoneLeadsToItself, bases_in as bases_in_order}
use Rattle.character_codes.specs.CharacterCodes.{Entry}
use Rattle.font_tables.specs.Tags.{group_of}
use Rattle.font_tables.specs.declared.tags.TableGroup.{TableGroup}
use Rattle.font_graph.specs.Fonts.{AllMade, varying, AreInOrder, IsOfGlyphs}
use Rattle.font_graph.specs.Graph.{read_as, as_flat, all_of}
use Rattle.font_graph.specs.Parts.{Extra, TheIndex, TheMeasures, TheMeasuresAndIndex}
use Rattle.font_graph.specs.Parts.{TheVariations, with_index, with_measures, with_both, with_data}
use Rattle.font_graph.specs.Running as running
use Rattle.font_graph.specs.Running.{header_read, index_read, raw_read, flat_read, order_read}
use Rattle.font_graph.specs.Running.{measures_read, flats_read, more_read}
use Rattle.font_graph.specs.Same.{same_id}
use Rattle.font_graph.specs.declared.ids.JobId.TheVariants as job
use Rattle.font_plan.specs.Bases.{bases_in}
use Rattle.font_plan.specs.Drawn.{IsDrawn, DrawingLaws}
use Rattle.font_plan.specs.Jobs.{parts, has_axes, glyphs_with, variations_in, unless_refused}
use Rattle.font_plan.specs.Jobs.{needs_in, variations_with, is_composite}
use Rattle.font_plan.specs.Order.{order_in, numbers_in, notdef_from, others_from, ordered}
use Rattle.font_plan.specs.Order.{is_order_of, ordered_is, behind_made}
use Rattle.font_plan.specs.Reading.{PlanReads, number_read, glyph_read}
use Rattle.font_plan.proofs.Made.{raw_known, raw_whole, bases_fit, all_drawn, one_drawn}
use Rattle.font_plan.proofs.Made.{drawn_number, drawn_count, has_bases}
use Rattle.font_plan.proofs.Nesting.{EntriesAreNamed, ordered_lead_nowhere}
use Rattle.font_plan.proofs.Orders.{all_by, all_some, each_some, each_value, some_there}
use Rattle.font_plan.proofs.Orders.{read_behind}
use Rattle.font_plan.proofs.Orders.{read_there, read_count}
use Rattle.font_plan.proofs.Orders.{made_count, numbers_few, order_few}

-- ---- a glyph

-- what a job of drawing finds of its glyph
pub record FoundFlat (index : List Entry) (glyph : ℕ) (raw : GlyphIr) (flats : List FlatGlyph)
    : Type 0 where
  pub number : raw.number ≡ glyph
  pub within : glyph < length index
  pub enough : HasBases raw flats
  pub bases : All (IsBase raw.places) flats

abbrev flats_of : List (Option FlatGlyph) → Option (List FlatGlyph)
flats_of values = all_of values

flats_by : (glyphs : List ℕ) (reads : PlanReads)
    → flats_read (parts []) glyphs reads
    ≡ flats_of (map (λ glyph. flat_read (parts []) glyph reads) glyphs)
flats_by glyphs reads = ap flats_of (map-map
    (λ id. read_as (parts []) same_id (as_flat (parts [])) reads id) job.Flat glyphs)

-- each of glyphs that are all read
pub each_there : (glyphs : List ℕ) (reads : PlanReads)
    → IsSome (flats_read (parts []) glyphs reads)
    → All (λ glyph. IsSome (flat_read (parts []) glyph reads)) glyphs
each_there glyphs reads is = all_by (λ glyph. IsSome (flat_read (parts []) glyph reads)) glyphs
    (each_some (λ glyph. flat_read (parts []) glyph reads) glyphs
    (subst IsSome (flats_by glyphs reads) is))

-- what is collected of glyphs is what is read
pub collected_are : (glyphs : List ℕ) (reads : PlanReads) (found : List FlatGlyph)
    → map Some found ≡ map (λ glyph. flat_read (parts []) glyph reads) glyphs
    → flats_read (parts []) glyphs reads ≡ Some found
collected_are glyphs reads found e = flats_by glyphs reads ∙ ap flats_of (sym e) ∙ all_some found

-- what is read of all is what is read of each
pub each_read : (glyphs : List ℕ) (reads : PlanReads) (flats : List FlatGlyph)
    → flats_read (parts []) glyphs reads ≡ Some flats
    → map Some flats ≡ map (λ glyph. flat_read (parts []) glyph reads) glyphs
each_read glyphs reads flats e = each_value (λ glyph. flat_read (parts []) glyph reads) glyphs flats
    (sym (flats_by glyphs reads) ∙ e)

pub found_flat : DrawingLaws → (source : List ℕ) (glyph : ℕ) (reads : PlanReads)
    → running.FlatFound (parts source) glyph reads → (raw : GlyphIr) (index : List Entry)
    (bases : List FlatGlyph) → raw_read (parts []) glyph reads ≡ Some raw
    → index_read (parts []) reads ≡ Some index
    → flats_read (parts []) (bases_in raw index) reads ≡ Some bases
    → FoundFlat index glyph raw bases
found_flat laws source glyph reads found raw index bases a b e =
    let has = found.flats_are raw index bases a b e in
    let known = raw_known has.tree has.header index glyph raw has.raw_made in
    record {
      number = known.number_is;
      within = known.within;
      enough = has_bases source has.tree has.header index glyph raw bases
          (raw_whole laws.glyphs has.tree has.header index glyph raw has.header_made has.raw_made)
          has.bases_drawn;
      bases = all_by (IsBase raw.places) bases
          (bases_fit laws has.tree has.header index has.header_made glyph raw bases has.raw_made
          (all_drawn laws has.tree has.header index has.header_made source (bases_in raw index) bases
          has.bases_drawn));
    }

-- a glyph of a job of its data stands at the masters first
pub found_drawn : DrawingLaws → (source : List ℕ) (header : Header) (flat : FlatGlyph)
    → running.IsDrawnOf (parts source) header flat → IsDrawn header flat
found_drawn laws source header flat of =
    one_drawn laws of.tree header of.index of.header_made source of.glyph flat of.drawn_so

-- a simple glyph keeps nothing
pub nothing_kept : (flat : FlatGlyph) → is_composite flat ≡ false → flat.kept ≡ []
nothing_kept flat e = by flat.kept e
  where
    by : (kept : List Kept) → not (nat_eq (length kept) 0) ≡ false → kept ≡ []
    by [] f = refl
    by (kept ∷ others) f =
        let some : nat_eq (length (kept ∷ others)) 0 ≡ false = grind (arith, nat_tests) in
        absurd (true≢false (sym (ap not some) ∙ f))

pub composite_drawn : DrawingLaws → (source : List ℕ) (header : Header) (order : Glyphs)
    (flat : FlatGlyph) → running.IsCompositeOf (parts source) header order flat
    → IsDrawn header flat
composite_drawn laws source header order flat of =
    one_drawn laws of.in_order.tree header of.index of.in_order.header_read source of.glyph flat
    of.drawn_so

pub flat_within : (source : List ℕ) (glyph : ℕ) (reads : PlanReads)
    → running.VariationsFound (parts source) glyph reads → (header : Header) (index : List Entry)
    (flat : FlatGlyph) → header_read (parts []) reads ≡ Some header
    → index_read (parts []) reads ≡ Some index
    → flat_read (parts []) glyph reads ≡ Some flat → flat.number < length index
flat_within source glyph reads found header index flat a b e =
    let made = found.flat_is header index flat a b e in
    let known = drawn_number source made.tree header index made.glyph flat made.drawn_so in
    subst (λ n. n < length index) (sym known.0) known.1

-- ---- all glyphs

-- the made `.notdef` stands at the masters alone
take_all : (masters : List Master)
    → take (length masters) (map (λ master. master.location) masters)
    ≡ map (λ master. master.location) masters
take_all [] = refl
take_all (master ∷ masters) = ap (λ rest. master.location ∷ rest) (take_all masters)

pub made_begins : (header : Header) → BeginsWithMasters header (made_notdef_of header)
made_begins header = take_all header.masters

behind : (P : FlatGlyph → Type 0) (made : FlatGlyph) (numbers : List (Option ℕ))
    (flats : List FlatGlyph) → P made → AllByRecursion P flats
    → AllByRecursion P (behind_made numbers made flats)
behind P made [] flats first all = all
behind P made (None ∷ numbers) flats first all = (first, all)
behind P made (Some number ∷ numbers) flats first all = all

-- the font's glyphs, where they were drawn and ordered
ordered_drawn : DrawingLaws → (source : List ℕ) (header : Header) (index : List Entry)
    (flats : List FlatGlyph) (order : Glyphs)
    → AreInOrder (parts source) header index flats order
    → IsFlatGlyph (made_notdef_of header)
    → AllByRecursion (IsDrawn header) (glyphs_with header order flats)
ordered_drawn laws source header index flats order of made = behind (IsDrawn header)
    (made_notdef_of header) order.numbers flats
    (record { flat = made; places = made_begins header })
    (all_drawn laws of.tree header index of.header_read source (numbers_in index) flats
    of.glyphs_drawn)

-- the glyphs are there for the order's numbers
pub glyphs_there : (source : List ℕ) (reads : PlanReads) (header : Header) (order : Glyphs)
    → running.AdvancesFound (parts source) reads → header_read (parts []) reads ≡ Some header
    → order_read (parts []) reads ≡ Some order
    → All (λ number. IsSome (glyph_read header reads number)) order.numbers
glyphs_there source reads header order found a b =
    let flats = some_there (flats_read (parts []) (ordered order) reads) (found.flats order b) in
    let of = found.flats_are header order flats.0 a b flats.1 in
    let is = is_order_of of.0 order of.1.glyphs_ordered in
    let numbers = ordered_is of.0 order of.1.glyphs_ordered in
    subst (λ (o : Glyphs). All (λ number. IsSome (glyph_read header reads number)) o.numbers)
    (sym is) (read_there (made_notdef_of header) (λ glyph. flat_read (parts []) glyph reads)
    of.0 (subst IsSome (ap (λ ns. flats_read (parts []) ns reads) numbers
    ∙ flats_by (numbers_in of.0) reads) (found.flats order b)))

pub record GlyphsFound (header : Header) (order : Glyphs) (reads : PlanReads)
    (glyphs : List FlatGlyph) : Type 0 where
  pub flats : List FlatGlyph
  pub flats_are : flats_read (parts []) (ordered order) reads ≡ Some flats
  pub glyphs_are : glyphs ≡ glyphs_with header order flats
  pub drawn_are : All (IsDrawn header) glyphs
  pub count : length glyphs ≡ length order.names
  pub nesting : NoneLeadsToItself (bases_in_order order.names glyphs)

-- and what was collected is the font's glyphs
pub glyphs_found : DrawingLaws → EntriesAreNamed → (source : List ℕ) (reads : PlanReads)
    (header : Header) (order : Glyphs) (glyphs : List FlatGlyph)
    → running.AdvancesFound (parts source) reads
    → header_read (parts []) reads ≡ Some header → order_read (parts []) reads ≡ Some order
    → map Some glyphs ≡ map (glyph_read header reads) order.numbers
    → IsFlatGlyph (made_notdef_of header) → GlyphsFound header order reads glyphs
glyphs_found laws named source reads header order glyphs found a b e made =
    let flats = some_there (flats_read (parts []) (ordered order) reads) (found.flats order b) in
    let of = found.flats_are header order flats.0 a b flats.1 in
    let is = is_order_of of.0 order of.1.glyphs_ordered in
    let numbers = ordered_is of.0 order of.1.glyphs_ordered in
    let read = λ (glyph : ℕ). flat_read (parts []) glyph reads in
    let there : map Some glyphs
    ≡ map (number_read (made_notdef_of header) read) (order_in of.0).numbers
    = e ∙ ap (λ (o : Glyphs). map (glyph_read header reads) o.numbers) is in
    let all : glyphs ≡ glyphs_with header order flats.0
    = read_behind (made_notdef_of header) read of.0 glyphs flats.0 there
    (sym (ap (λ ns. flats_read (parts []) ns reads) numbers
    ∙ flats_by (numbers_in of.0) reads) ∙ flats.1)
    ∙ ap (λ (o : Glyphs). glyphs_with header o flats.0) (sym is) in
    record {
      flats = flats.0;
      flats_are = flats.1;
      glyphs_are = all;
      drawn_are = all_by (IsDrawn header) glyphs
          (subst (AllByRecursion (IsDrawn header)) (sym all)
          (ordered_drawn laws source header of.0 flats.0 order of.1 made));
      count = read_count (made_notdef_of header) read of.0 glyphs there
          ∙ ap (λ (o : Glyphs). length o.names) (sym is);
      nesting = subst (λ gs. NoneLeadsToItself (bases_in_order order.names gs)) (sym all)
          (ordered_lead_nowhere source header of.0 flats.0 order of.1
          (named of.1.tree of.0 of.1.index_read));
    }

-- ---- what a table is made of

abbrev pub More : Type 0
More = Extra (List Entry) Measures (List ℕ)

abbrev some_more : More → Option More
some_more more = Some more

-- it is of the glyphs of an order
pub of_glyphs : (source : List ℕ) (tag : Tag) (reads : PlanReads)
    → running.TableFound (parts source) tag reads → (group : Option TableGroup)
    → group_of tag ≡ group → (header : Header) (order : Glyphs) (more : More)
    → header_read (parts []) reads ≡ Some header → order_read (parts []) reads ≡ Some order
    → more_read (parts []) (needs_in group) reads ≡ Some more
    → IsOfGlyphs (parts source) header order (needs_in group) more
of_glyphs source tag reads found group is header order more a b e =
    subst (λ g. IsOfGlyphs (parts source) header order (needs_in g) more) is
    (found.are header order more a b
    (subst (λ g. more_read (parts []) (needs_in g) reads ≡ Some more) (sym is) e))

pub more_there : (source : List ℕ) (tag : Tag) (reads : PlanReads)
    → running.TableFound (parts source) tag reads → (group : Option TableGroup)
    → group_of tag ≡ group → IsSome (more_read (parts []) (needs_in group) reads)
more_there source tag reads found group is =
    subst (λ g. IsSome (more_read (parts []) (needs_in g) reads)) is found.more

-- what is read where a part of it is
pub index_there : (reads : PlanReads) → IsSome (more_read (parts []) TheIndex reads)
    → IsSome (index_read (parts []) reads)
index_there reads is = by (index_read (parts []) reads) is
  where
    by : (o : Option (List Entry))
        → IsSome (option_and_then (λ (index : List Entry). some_more (with_index index)) o) → IsSome o
    by None f = absurd cc
    by (Some index) f = refl

pub measures_there : (reads : PlanReads) → IsSome (more_read (parts []) TheMeasures reads)
    → IsSome (measures_read (parts []) reads)
measures_there reads is = by (measures_read (parts []) reads) is
  where
    by : (o : Option Measures)
        → IsSome (option_and_then (λ (measures : Measures). some_more (with_measures measures)) o)
        → IsSome o
    by None f = absurd cc
    by (Some measures) f = refl

pub both_there : (reads : PlanReads) → IsSome (more_read (parts []) TheMeasuresAndIndex reads)
    → IsSome (measures_read (parts []) reads) × IsSome (index_read (parts []) reads)
both_there reads is = by (measures_read (parts []) reads) (index_read (parts []) reads) is
  where
    by : (m : Option Measures) (i : Option (List Entry))
        → IsSome (option_and_then (λ (measures : Measures).
        option_and_then (λ (index : List Entry). some_more (with_both measures index)) i) m)
        → IsSome m × IsSome i
    by None i f = absurd cc
    by (Some measures) None f = absurd cc
    by (Some measures) (Some index) f = (refl, refl)

pub index_read_so : (reads : PlanReads) (index : List Entry)
    → index_read (parts []) reads ≡ Some index
    → more_read (parts []) TheIndex reads ≡ Some (with_index index)
index_read_so reads index e = ap (option_and_then (λ (index : List Entry). some_more (with_index index))) e

pub measures_read_so : (reads : PlanReads) (measures : Measures)
    → measures_read (parts []) reads ≡ Some measures
    → more_read (parts []) TheMeasures reads ≡ Some (with_measures measures)
measures_read_so reads measures e =
    ap (option_and_then (λ (measures : Measures). some_more (with_measures measures))) e

pub both_read_so : (reads : PlanReads) (measures : Measures) (index : List Entry)
    → measures_read (parts []) reads ≡ Some measures → index_read (parts []) reads ≡ Some index
    → more_read (parts []) TheMeasuresAndIndex reads ≡ Some (with_both measures index)
both_read_so reads measures index e f =
    ap (option_and_then (λ (measures : Measures).
    option_and_then (λ (index : List Entry). some_more (with_both measures index))
    (index_read (parts []) reads))) e
    ∙ ap (option_and_then (λ (index : List Entry). some_more (with_both measures index))) f

-- ---- codes

-- the order is that of the index that is read
pub order_of_index : (source : List ℕ) (header : Header) (order : Glyphs) (index : List Entry)
    → IsOfGlyphs (parts source) header order TheIndex (with_index index)
    → order ≡ order_in index
order_of_index source header order index of =
    is_order_of of.index order of.in_order.glyphs_ordered ∙ ap order_in (sym of.is_extra)

pub order_of_both : (source : List ℕ) (header : Header) (order : Glyphs) (measures : Measures)
    (index : List Entry)
    → IsOfGlyphs (parts source) header order TheMeasuresAndIndex (with_both measures index)
    → order ≡ order_in index
order_of_both source header order measures index of =
    is_order_of of.index order of.in_order.glyphs_ordered ∙ ap order_in (sym of.is_extra.1)

-- ---- measures

-- a font's measures are what is defined
measured_so : (names : List (List ℕ)) (glyphs : List FlatGlyph)
    (defined : Result Measures MeasureError) (measures : Measures)
    → unless_refused names glyphs defined ≡ Ok measures → defined ≡ Ok measures
measured_so names glyphs (Ok made) measures e = let same : made ≡ measures = cc in ap Ok same
measured_so names glyphs (Err error) measures e = absurd cc

abbrev pub MeasuresAreForTheirHeader : Type 0
MeasuresAreForTheirHeader = (header : Header) (names : List (List ℕ)) (glyphs : List FlatGlyph)
    (measures : Measures) → IsHeader header → All IsFlatGlyph glyphs
    → All (BeginsWithMasters header) glyphs → measured_of header names glyphs ≡ Ok measures
    → AreMeasuresFor header measures

weaker : {P Q : FlatGlyph → Type 0} → ((glyph : FlatGlyph) → P glyph → Q glyph)
    → (glyphs : List FlatGlyph) → AllByRecursion P glyphs → AllByRecursion Q glyphs
weaker so [] all = tt
weaker so (glyph ∷ glyphs) all = (so glyph all.0, weaker so glyphs all.1)

pub measures_fit : DrawingLaws → MeasuresAreForTheirHeader
    → (source : List ℕ) (header : Header) (order : Glyphs) (measures : Measures)
    → IsHeader header → IsFlatGlyph (made_notdef_of header)
    → IsOfGlyphs (parts source) header order TheMeasures (with_measures measures)
    → AreMeasuresFor header measures
measures_fit laws fit_law source header order measures is_header made of =
    let glyphs = glyphs_with header order of.flats in
    let drawn = ordered_drawn laws source header of.index of.flats order of.in_order made in
    fit_law header order.names glyphs measures is_header
    (all_by IsFlatGlyph glyphs
    (weaker {Q = IsFlatGlyph} (λ glyph (d : IsDrawn header glyph). d.flat) glyphs drawn))
    (all_by (BeginsWithMasters header) glyphs
    (weaker {Q = BeginsWithMasters header} (λ glyph (d : IsDrawn header glyph). d.places) glyphs
    drawn))
    (measured_so order.names glyphs (measured_of header order.names glyphs) measures of.is_extra)

-- ---- variations

made_length : {A B : Type 0} (make : A → Result B Refusal) (xs : List A) (ys : List B)
    → AllMade make xs ys → length ys ≡ length xs
made_length make [] [] m = refl
made_length make [] (y ∷ ys) m = absurd m
made_length make (x ∷ xs) [] m = absurd m
made_length make (x ∷ xs) (y ∷ ys) m = ap suc (made_length make xs ys m.1)

varying_few : (header : Header) (flats : List FlatGlyph)
    → length (varying (parts []) header flats) ≤ length flats
varying_few header flats = by (has_axes header)
  where
    by : (b : Bool) → length (if b then flats else []) ≤ length flats
    by true = omega arith
    by false = omega arith

behind_few : (first : Option ℕ) (numbers : List (Option ℕ)) (variations : List (List ℕ)) (n : ℕ)
    → (first ≡ None → length variations + 1 ≤ n) → length variations ≤ n
    → length (behind_made (first ∷ numbers) [] variations) ≤ n
behind_few None numbers variations n made given = omega (arith, made refl)
behind_few (Some number) numbers variations n made given = given

pub variations_few : (source : List ℕ) (header : Header) (order : Glyphs)
    (variations : List (List ℕ))
    → IsOfGlyphs (parts source) header order TheVariations (with_data variations)
    → length (variations_with order variations) ≤ GLYPHS
variations_few source header order variations of =
    let index = of.index in
    let is = is_order_of index order of.in_order.glyphs_ordered in
    let few = order_few index order of.in_order.glyphs_ordered in
    let count = made_length (variations_in header index) (varying (parts []) header of.flats)
    variations of.is_extra in
    let drawn = drawn_count source of.in_order.tree header index (numbers_in index) of.flats
    of.in_order.glyphs_drawn in
    let fewer = varying_few header of.flats in
    subst (λ (o : Glyphs). length (variations_with o variations) ≤ GLYPHS) (sym is)
    (behind_few (option_map (λ glyph. glyph.0) (notdef_from 0 index))
    (map (λ glyph. Some glyph.0) (others_from 0 index)) variations 65535
    (λ e. omega (arith, few, count, drawn, fewer, made_count index (sym e)))
    (omega (arith, few, count, drawn, fewer, numbers_few index)))
