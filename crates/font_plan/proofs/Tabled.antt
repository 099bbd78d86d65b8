-- The tables of a font make a file: their tags rise, and "head" has 54 bytes.
use Rattle.std.proofs.Common.{◌≡◌, ◌≤◌, ℕ, Bool, true, false, List, [], ◌∷◌, ◌++◌, map, length}
use Rattle.std.proofs.Common.{Option, Some, None, Result, Ok, refl, sym, ap, ◌∙◌, subst, ◌&&◌, ◌||◌}
use Rattle.std.proofs.Common.{nat_eq, not, arith}
use Rattle.std.specs.Prelude.{IsSome, codes, option_and_then}
use Rattle.std.specs.List.{All, flat_map, list_all, list_any}
use Rattle.std.specs.Ordering.{nat_cmp, is_lt}
use Rattle.std.specs.Cmp.Lexicographic.{pointwise, slice_cmp, bytes_decides}
use Rattle.std.specs.declared.cmp.Ordering.{Ordering}
use Rattle.std.proofs.lemmas.Bool.{and_from, eq-eqb}
use Rattle.std.proofs.lemmas.Simd.{map-map}
use Rattle.refusal_codes.specs.declared.refusal.Refusal.{Refusal}
use Rattle.font_ir.specs.declared.header.Header.{Header}
use Rattle.font_ir.specs.declared.tag.Tag.{Tag}
use Rattle.metrics_tables.specs.declared.measures.Measures.{Measures}
use Rattle.metrics_tables.specs.Tables.{head_table}
use Rattle.font_assembly.specs.File.{Table, TagsRise, HasHead, is_head, fits_head}
use Rattle.character_codes.specs.CharacterCodes.{Entry}
use Rattle.font_tables.specs.Ordered.{comes_before, tags_rise}
use Rattle.font_tables.specs.declared.tags.TheConstants.{TABLE_TAGS}
use Rattle.font_graph.specs.Fonts.{IsTableOf, AreTablesOf, IsExtraOf}
use Rattle.font_graph.specs.Graph.{all_of, read_as, as_table}
use Rattle.font_graph.specs.Parts.{Extra, TheMeasures, with_measures}
use Rattle.font_graph.specs.Running as running
use Rattle.font_graph.specs.Running.{tables_read}
use Rattle.font_graph.specs.Same.{same_id}
use Rattle.font_graph.specs.declared.ids.JobId.TheVariants as job
use Rattle.font_plan.specs.FontFile.{present}
use Rattle.font_plan.specs.Jobs.{parts, table_in}
use Rattle.font_plan.specs.Reading.{PlanReads, table_read, present_table}
use Rattle.font_plan.proofs.Orders.{all_by, each_some}

-- ---- what is read

abbrev all_tables : List (Option (Option (List ℕ))) → Option (List (Option (List ℕ)))
all_tables values = all_of values

tables_by : (reads : PlanReads)
    → tables_read (parts []) reads ≡ all_tables (map (λ tag. table_read tag reads) TABLE_TAGS)
tables_by reads = ap all_tables (map-map
    (λ id. read_as (parts []) same_id (as_table (parts [])) reads id) job.Table TABLE_TAGS)

pub tables_there : (source : List ℕ) (reads : PlanReads) → running.FontFound (parts source) reads
    → All (λ tag. IsSome (table_read tag reads)) TABLE_TAGS
tables_there source reads found = all_by (λ tag. IsSome (table_read tag reads)) TABLE_TAGS
    (each_some (λ tag. table_read tag reads) TABLE_TAGS
    (subst IsSome (tables_by reads) found.tables))

present_one : (tag : Tag) (tags : List Tag) (bytes : Option (List ℕ))
    (tables : List (Option (List ℕ)))
    → present_table tag (Some bytes) ++ present tags tables ≡ present (tag ∷ tags) (bytes ∷ tables)
present_one tag tags None tables = refl
present_one tag tags (Some bytes) tables = refl

abbrev Collected : (Tag → Option (Option (List ℕ))) → List Tag → List (Option (List ℕ)) → Type 0
Collected read tags made = flat_map (λ tag. present_table tag (read tag)) tags ≡ present tags made

collected_more : (read : Tag → Option (Option (List ℕ))) (tag : Tag) (tags : List Tag)
    (bytes : Option (List ℕ)) (tables : List (Option (List ℕ))) → read tag ≡ Some bytes
    → ((made : List (Option (List ℕ))) → all_of (map read tags) ≡ Some made
    → Collected read tags made)
    → (o : Option (List (Option (List ℕ)))) → all_of (map read tags) ≡ o
    → option_and_then (λ more. Some (bytes ∷ more)) o ≡ Some tables
    → Collected read (tag ∷ tags) tables
collected_more read tag tags bytes tables is others None g h = absurd cc
collected_more read tag tags bytes tables is others (Some more) g h =
    let same : bytes ∷ more ≡ tables = cc in
    ap (λ o. present_table tag o ++ flat_map (λ t. present_table t (read t)) tags) is
    ∙ ap (λ xs. present_table tag (Some bytes) ++ xs) (others more g)
    ∙ present_one tag tags bytes more ∙ ap (present (tag ∷ tags)) same

collected_next : (read : Tag → Option (Option (List ℕ))) (tag : Tag) (tags : List Tag)
    (tables : List (Option (List ℕ)))
    → ((made : List (Option (List ℕ))) → all_of (map read tags) ≡ Some made
    → Collected read tags made)
    → (o : Option (Option (List ℕ))) → read tag ≡ o
    → all_of (o ∷ map read tags) ≡ Some tables → Collected read (tag ∷ tags) tables
collected_next read tag tags tables others None is f = absurd cc
collected_next read tag tags tables others (Some bytes) is f =
    collected_more read tag tags bytes tables is others (all_of (map read tags)) refl f

present_all : (read : Tag → Option (Option (List ℕ))) (tags : List Tag)
    (tables : List (Option (List ℕ))) → all_of (map read tags) ≡ Some tables
    → Collected read tags tables
present_all read [] tables e =
    let same : [] ≡ tables = cc in
    ap (present []) same
present_all read (tag ∷ tags) tables e =
    collected_next read tag tags tables (present_all read tags) (read tag) refl e

pub tables_are : (reads : PlanReads) (tables : List (Option (List ℕ)))
    → tables_read (parts []) reads ≡ Some tables
    → flat_map (λ tag. present_table tag (table_read tag reads)) TABLE_TAGS
    ≡ present TABLE_TAGS tables
tables_are reads tables e = present_all (λ tag. table_read tag reads) TABLE_TAGS tables
    (sym (tables_by reads) ∙ e)

-- ---- the tables make a file

and_first : (a b : Bool) → (a && b) ≡ true → a ≡ true
and_first true b e = refl
and_first false b e = absurd cc

and_second : (a b : Bool) → (a && b) ≡ true → b ≡ true
and_second true b e = e
and_second false b e = absurd cc

less_of : (o : Ordering) → is_lt o ≡ true → o ≡ Ordering.Less
less_of Ordering.Less e = refl
less_of Ordering.Equal e = absurd cc
less_of Ordering.Greater e = absurd cc

-- a tag comes before the first of some tables
abbrev IsBefore : Tag → List Table → Type 0
IsBefore tag [] = Unit {0}
IsBefore tag (t ∷ ts) = slice_cmp nat_cmp tag.0 t.tag ≡ Ordering.Less

first_below : (tag : Tag) (tags : List Tag) (tables : List (Option (List ℕ)))
    → list_all (comes_before tag) tags ≡ true → IsBefore tag (present tags tables)
first_below tag [] tables e = tt
first_below tag (other ∷ tags) [] e = tt
first_below tag (other ∷ tags) (None ∷ tables) e =
    first_below tag tags tables (and_second _ _ e)
first_below tag (other ∷ tags) (Some bytes ∷ tables) e = less_of _ (and_first _ _ e)

behind_first : (tag : Tag) (bytes : List ℕ) (tables : List Table) → IsBefore tag tables
    → TagsRise tables → TagsRise (record { tag = tag.0; bytes = bytes } ∷ tables)
behind_first tag bytes [] before rise = tt
behind_first tag bytes (t ∷ ts) before rise = (before, rise)

-- each tag comes before the one behind it
rises : (tags : List Tag) (tables : List (Option (List ℕ))) → tags_rise tags ≡ true
    → TagsRise (present tags tables)
rises [] tables e = tt
rises (tag ∷ tags) [] e = tt
rises (tag ∷ tags) (None ∷ tables) e = rises tags tables (and_second _ _ e)
rises (tag ∷ tags) (Some bytes ∷ tables) e =
    behind_first tag bytes (present tags tables) (first_below tag tags tables (and_first _ _ e))
    (rises tags tables (and_second _ _ e))

no_more : (tags : List Tag) (tables : List (Option (List ℕ)))
    → length (present tags tables) ≤ length tags
no_more [] tables = omega arith
no_more (tag ∷ tags) [] = omega arith
no_more (tag ∷ tags) (None ∷ tables) = omega (arith, no_more tags tables)
no_more (tag ∷ tags) (Some bytes ∷ tables) = omega (arith, no_more tags tables)

head_length : (h : Header) (m : Measures) → length (head_table h m) ≡ 54
unfolding head_table
head_length h m = refl

abbrev is_head_tag : Tag → Bool
is_head_tag tag = pointwise nat_eq tag.0 (codes "head")

-- a table that is "head" is there, and has 54 bytes
abbrev FitsHead : Tag → Option (List ℕ) → Type 0
FitsHead tag made = is_head_tag tag ≡ true
    → (bytes : List ℕ) × (made ≡ Some bytes) × (length bytes ≡ 54)

head_tag : (tag : Tag) → is_head_tag tag ≡ true → tag ≡ record { 0 = codes "head" }
head_tag tag e = ap (λ bytes. record { 0 = bytes }) ((bytes_decides tag.0 (codes "head")).0 e)

head_made : (source : List ℕ) (made : Option (List ℕ))
    → IsTableOf (parts source) (record { 0 = codes "head" }) made
    → (bytes : List ℕ) × (made ≡ Some bytes) × (length bytes ≡ 54)
head_made source made of = by of.more of.of_glyphs.is_extra of.table_made
  where
    some_made : (bytes : List ℕ) (made : Option (List ℕ))
        → ◌≡◌ {A = Result (Option (List ℕ)) Refusal} (Ok (Some bytes)) (Ok made)
        → made ≡ Some bytes
    some_made bytes made e = cc

    by : (more : Extra (List Entry) Measures (List ℕ))
        → IsExtraOf (parts source) of.header of.of_glyphs.index of.of_glyphs.flats of.order
        TheMeasures more
        → table_in (record { 0 = codes "head" }) of.header of.order more ≡ Ok made
        → (bytes : List ℕ) × (made ≡ Some bytes) × (length bytes ≡ 54)
    by (with_measures measures) is e = (
      head_table of.header measures,
      some_made (head_table of.header measures) made e,
      head_length of.header measures,
    )
    by _ is e = absurd is

fits : (source : List ℕ) (tag : Tag) (made : Option (List ℕ)) → IsTableOf (parts source) tag made
    → FitsHead tag made
fits source tag made of e = head_made source made
    (subst (λ t. IsTableOf (parts source) t made) (head_tag tag e) of)

-- all of them
abbrev AllFit : List Tag → List (Option (List ℕ)) → Type 0
AllFit [] [] = Unit {0}
AllFit (tag ∷ tags) (made ∷ tables) = FitsHead tag made × AllFit tags tables
AllFit [] (made ∷ tables) = ⊥
AllFit (tag ∷ tags) [] = ⊥

all_fit : (source : List ℕ) (tags : List Tag) (tables : List (Option (List ℕ)))
    → AreTablesOf (parts source) tags tables → AllFit tags tables
all_fit source [] [] t = tt
all_fit source [] (made ∷ tables) t = absurd t
all_fit source (tag ∷ tags) [] t = absurd t
all_fit source (tag ∷ tags) (made ∷ tables) t =
    (fits source tag made t.0, all_fit source tags tables t.1)

one_fits : (tag : Tag) (bytes : List ℕ) → FitsHead tag (Some bytes)
    → fits_head (record { tag = tag.0; bytes = bytes }) ≡ true
one_fits tag bytes fit = by (is_head_tag tag) refl
  where
    same : (other : List ℕ) → ◌≡◌ {A = Option (List ℕ)} (Some bytes) (Some other) → other ≡ bytes
    same other e = cc

    by : (b : Bool) → is_head_tag tag ≡ b → (not b || nat_eq (length bytes) 54) ≡ true
    by false e = refl
    by true e = let made = fit e in
        eq-eqb (length bytes) 54 (ap length (sym (same made.0 made.1)) ∙ made.2)

all_heads_fit : (tags : List Tag) (tables : List (Option (List ℕ))) → AllFit tags tables
    → list_all fits_head (present tags tables) ≡ true
all_heads_fit [] [] f = refl
all_heads_fit [] (made ∷ tables) f = absurd f
all_heads_fit (tag ∷ tags) [] f = absurd f
all_heads_fit (tag ∷ tags) (None ∷ tables) f = all_heads_fit tags tables f.1
all_heads_fit (tag ∷ tags) (Some bytes ∷ tables) f = and_from _ _ (one_fits tag bytes f.0)
    (all_heads_fit tags tables f.1)

or_true : (a b : Bool) → b ≡ true → (a || b) ≡ true
or_true true b e = refl
or_true false b e = e

head_there : (tags : List Tag) (tables : List (Option (List ℕ))) → AllFit tags tables
    → list_any is_head_tag tags ≡ true → list_any is_head (present tags tables) ≡ true
head_there [] tables f e = absurd cc
head_there (tag ∷ tags) [] f e = absurd f
head_there (tag ∷ tags) (made ∷ tables) f e = by (is_head_tag tag) refl made f.0 e
    (head_there tags tables f.1)
  where
    none_some : (bytes : List ℕ) → ◌≡◌ {A = Option (List ℕ)} None (Some bytes) → ⊥
    none_some bytes e = cc

    by : (b : Bool) → is_head_tag tag ≡ b → (made : Option (List ℕ)) → FitsHead tag made
        → (b || list_any is_head_tag tags) ≡ true
        → (list_any is_head_tag tags ≡ true → list_any is_head (present tags tables) ≡ true)
        → list_any is_head (present (tag ∷ tags) (made ∷ tables)) ≡ true
    by true is None fit e rest = let made = fit is in absurd (none_some made.0 made.1)
    by true is (Some bytes) fit e rest =
        ap (λ b. b || list_any is_head (present tags tables)) is
    by false is None fit e rest = rest e
    by false is (Some bytes) fit e rest =
        or_true (is_head_tag tag) (list_any is_head (present tags tables)) (rest e)

-- the tables of a font, as they are put together
pub record MakeFile (tables : List Table) : Type 0 where
  pub tags : TagsRise tables
  pub head : HasHead tables
  pub count : length tables ≤ 16

pub tables_make_file : (source : List ℕ) (reads : PlanReads) (tables : List (Option (List ℕ)))
    → running.FontFound (parts source) reads → tables_read (parts []) reads ≡ Some tables
    → MakeFile (present TABLE_TAGS tables)
tables_make_file source reads tables found e =
    let fit = all_fit source TABLE_TAGS tables (found.tables_are tables e) in
    record {
      tags = rises TABLE_TAGS tables refl;
      head = (head_there TABLE_TAGS tables fit refl, all_heads_fit TABLE_TAGS tables fit);
      count = no_more TABLE_TAGS tables;
    }
