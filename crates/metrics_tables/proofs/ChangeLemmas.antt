-- The regions of the masters, and the changes of glyphs one by one.
use Rattle.std.proofs.Common.{◌≡◌, ◌≢◌, ℕ, ◌+◌, ◌<◌, ◌≤◌, false, List, []}
use Rattle.std.proofs.Common.{◌∷◌, ◌++◌, length, map, get_or, take, drop, Option, None, Some, refl}
use Rattle.std.proofs.Common.{◌-◌, sym, ap, ◌∙◌, subst, arith, ℤ, pos}
use Rattle.std.proofs.lemmas.Int.{ints}
use Rattle.std.proofs.lemmas.Grind.{get_or_after_one}
use Rattle.std.proofs.lemmas.List.{append-nil, append_assoc, at_drop_more, length-drop}
use Rattle.std.proofs.lemmas.List.{get_or_default, get_or-map, length-map, map-append}
use Rattle.std.proofs.lemmas.List.{take_all, take_more}
use Rattle.std.proofs.lemmas.List.Elements.{All-head}
use Rattle.std.proofs.lemmas.Simd.{map-map}
use Rattle.std.proofs.lemmas.List.Folds.{list_any-append}
use Rattle.std.proofs.lemmas.List.Sums.{fold-append}
use Rattle.std.specs.Arc.{arc_value}
use Rattle.std.specs.Prelude.{◌||◌, Result, Ok, Err, IfOk}
use Rattle.refusal_codes.specs.declared.limits.TheConstants.{REGIONS}
use Rattle.font_ir.specs.Headers.{IsHeader, IsMaster}
use Rattle.font_ir.specs.declared.header.Header.{Header}
use Rattle.font_ir.specs.declared.header.Master.{Master}
use Rattle.metrics_tables.specs.Changes.{BeginsWithMasters, master_places, regions_of, row_over}
use Rattle.metrics_tables.specs.RegionIndexes.{AreRows, row_by}
use Rattle.std.specs.declared.alloc.Global.{Global}
use Rattle.std.specs.declared.sync.Arc.{Arc}
use Rattle.std.specs.List.{All, AllPairs, AllByRecursion}
use Rattle.fixed_math.specs.declared.F2Dot14.{F2Dot14}
use Rattle.font_ir.specs.FlatGlyphs.{glyphs_of}
use Rattle.font_ir.specs.Places.{axis_count, place_at}
use Rattle.font_ir.specs.declared.glyph.FlatGlyph.{FlatGlyph}
use Rattle.font_ir.specs.declared.variation.Region.{Region}
use Rattle.variation_model.specs.Deltas.{first_large, region_at}
use Rattle.variation_model.specs.Laws.{LaterSupportsCountNothing, OwnSupportsCountWhole}
use Rattle.variation_model.specs.Places.{ordered}
use Rattle.variation_model.specs.Scalar.{scalar_of}
use Rattle.variation_model.specs.Supports.{supports_of}
use Rattle.metrics_tables.specs.Changes.{Change, advance_deltas, changes_of}
use Rattle.metrics_tables.specs.Changes.{first_of, is_there, large_from, large_of, same_region}
use Rattle.metrics_tables.specs.Changes.{with_changes, with_glyphs}
use Rattle.metrics_tables.specs.RegionIndexes.{AllTold, AreTold, HasSides, stands_at, told_by}
use Rattle.metrics_tables.specs.RegionIndexes.{with_regions}
use Rattle.metrics_tables.specs.StaticLaws.{none_of}
use Rattle.metrics_tables.specs.declared.changes.LargeDelta.{LargeDelta}
use Rattle.metrics_tables.specs.declared.changes.PlacedDelta.{PlacedDelta}
use Rattle.metrics_tables.proofs.LargeLemmas.{first_of-assoc, some_of}
use Rattle.metrics_tables.proofs.RegionLemmas.{told_on, with_new, Told}
use Rattle.metrics_tables.proofs.RowLemmas.{AreApart, IsApart, are_apart, not_same, rows_told}

-- ---- the supports of places are different

module _ (places : List (List F2Dot14)) (own : OwnSupportsCountWhole places)
    (later : LaterSupportsCountNothing places)
    (as_many : length (supports_of places) ≡ length places) where
  differ : (j k : ℕ) → j < k → k < length places
      → region_at (supports_of places) j ≢ region_at (supports_of places) k
  differ j k below within e =
      let whole = own j (omega (arith, below, within)) in
      let nothing = later j k below within in
      let same = ap (λ (region : Region). scalar_of region.sides (place_at (ordered places) j)) e in
      let both : pos 65536 ≡ pos 0 = sym whole ∙ same ∙ nothing in
      omega (arith, ints, both)

  pub supports_differ : AllPairs (λ a b. a ≢ b) (drop 1 (supports_of places))
  supports_differ i j d below within e =
      let supports = supports_of places in
      let none : Region = record { sides = [] } in
      let there : 1 + j < length supports = omega (arith, within, length-drop 1 supports) in
      let first : get_or (drop 1 supports) i d ≡ region_at supports (1 + i)
      = get_or_after_one supports i d
      ∙ get_or_default supports (1 + i) d none (omega (arith, below, there)) in
      let second : get_or (drop 1 supports) j d ≡ region_at supports (1 + j)
      = get_or_after_one supports j d ∙ get_or_default supports (1 + j) d none there in
      differ (1 + i) (1 + j) (omega (arith, below)) (omega (arith, there, as_many))
      (sym first ∙ e ∙ second)

pub behind_first : (supports : List Region)
    → take (length supports - 1) (drop 1 supports) ≡ drop 1 supports
behind_first supports = take_all (length supports - 1) (drop 1 supports)
    (omega (arith, length-drop 1 supports))

-- ---- the masters' places

first_axes : (axes : ℕ) (masters : List Master) → All (IsMaster axes) masters
    → 0 < length masters → axis_count (map (λ master. master.location) masters) ≡ axes
first_axes axes [] all some = absurd (omega (arith, some))
first_axes axes (master ∷ masters) all some =
    (All-head (IsMaster axes) master masters all).location

pub model_axes : {E : Type 0} (header : Header) → IsHeader header
    → (result : Result (List (List F2Dot14)) E) (places : List (List F2Dot14))
    → IfOk result (λ model. model ≡ places) → places ≡ master_places header
    → IfOk result (λ model. axis_count model ≡ length header.axes)
model_axes header is (Ok model) places e same =
    ap axis_count (e ∙ same) ∙ first_axes (length header.axes) header.masters is.masters
    (omega (arith, is.origin))
model_axes header is (Err error) places e same = tt

-- ---- different regions are added as they are

abbrev NoneThere : List Region → List Region → Type 0
NoneThere before regions = AllByRecursion (λ region. is_there before region ≡ false) regions

none_there_more : (before : List Region) (region : Region) (regions : List Region)
    → NoneThere before regions → IsApart region regions → NoneThere (before ++ region ∷ []) regions
none_there_more before region [] none apart = tt
none_there_more before region (r ∷ regions) none apart =
    let other : same_region r region ≡ false = not_same r region (λ e. apart.0 (sym e)) in (
      list_any-append (same_region r) before (region ∷ [])
          ∙ (λ i. none.0 i || (other i || false)),
      none_there_more before region regions none.1 apart.1,
    )

with_apart : (before regions : List Region) → NoneThere before regions → AreApart regions
    → with_regions before regions ≡ before ++ regions
with_apart before [] none apart = sym (append-nil before)
with_apart before (region ∷ regions) none apart =
    ap (λ all. with_regions all regions) (with_new before region none.0)
    ∙ with_apart (before ++ region ∷ []) regions
    (none_there_more before region regions none.1 apart.0) apart.1
    ∙ append_assoc before (region ∷ []) regions

none_yet : (regions : List Region) → NoneThere [] regions
none_yet [] = tt
none_yet (region ∷ regions) = (refl, none_yet regions)

pub with_all : (regions : List Region) → AllPairs (λ a b. a ≢ b) regions
    → with_regions [] regions ≡ regions
with_all regions different =
    with_apart [] regions (none_yet regions) (are_apart regions different)

-- ---- glyph by glyph

-- what is told stays, as the regions of changes are added
all_told_on : (regions : List Region) (added : List Change) (all : List (List PlacedDelta))
    (changes : List (List Change)) → AllTold regions all changes
    → AllTold (with_changes regions added) all changes
all_told_on regions added [] [] e = refl
all_told_on regions added [] (each ∷ changes) e = absurd (omega (arith, ap length e))
all_told_on regions added (placed ∷ all) [] e = absurd (omega (arith, ap length e))
all_told_on regions added (placed ∷ all) (each ∷ changes) e =
    let here = told_on regions added placed each
    (ap (λ (xs : List (List Told)). get_or xs 0 []) e) in
    let rest = all_told_on regions added all changes
    (ap (λ (xs : List (List Told)). drop 1 xs) e) in
    (λ i. here i ∷ rest i)

module _ (glyphs : List (Arc FlatGlyph Global)) (gid : ℕ) (glyph : Arc FlatGlyph Global)
    (within : gid < length glyphs) (is : glyph ≡ get_or glyphs gid glyph) where
  front : glyphs_of (take (gid + 1) glyphs) ≡ glyphs_of (take gid glyphs) ++ glyph.value ∷ []
  front = ap glyphs_of (take_more glyphs gid glyph within)
      ∙ map-append arc_value (take gid glyphs) (get_or glyphs gid glyph ∷ [])
      ∙ ap (λ (last : Arc FlatGlyph Global). glyphs_of (take gid glyphs) ++ last.value ∷ [])
      (sym is)

  pub glyphs_more : (before : List Region)
      → with_glyphs before (glyphs_of (take (gid + 1) glyphs))
      ≡ with_changes (with_glyphs before (glyphs_of (take gid glyphs))) (changes_of glyph.value)
  glyphs_more before =
      ap (with_glyphs before) front
      ∙ fold-append (λ so_far (g : FlatGlyph). with_changes so_far (changes_of g)) before
      (glyphs_of (take gid glyphs)) (glyph.value ∷ [])

  changes_more : map changes_of (glyphs_of (take (gid + 1) glyphs))
      ≡ map changes_of (glyphs_of (take gid glyphs)) ++ changes_of glyph.value ∷ []
  changes_more = ap (map changes_of) front
      ∙ map-append changes_of (glyphs_of (take gid glyphs)) (glyph.value ∷ [])

  rest : glyphs_of (drop gid glyphs) ≡ glyph.value ∷ glyphs_of (drop (gid + 1) glyphs)
  rest = at_drop_more glyphs_of glyphs gid glyph within
      ∙ ap (λ (first : Arc FlatGlyph Global). first.value ∷ glyphs_of (drop (gid + 1) glyphs))
      (sym is)

  abbrev behind : Option LargeDelta
  behind = large_from (gid + 1) (glyphs_of (drop (gid + 1) glyphs))

  pub large_later : first_large 0 (advance_deltas glyph.value) ≡ None
      → large_from gid (glyphs_of (drop gid glyphs))
      ≡ large_from (gid + 1) (glyphs_of (drop (gid + 1) glyphs))
  large_later e = ap (large_from gid) rest ∙ ap (λ large. first_of large behind)
      (none_of gid glyph.value e)

  -- the glyph has a large delta
  pub large_here : (at number : ℕ) (value told : ℤ) (first : LargeDelta)
      → Some first ≡ first_of (Some (record { number = number; gid = gid; value = told }))
      (large_from (gid + 1) (glyphs_of (drop (gid + 1) glyphs)))
      → first_large 0 (advance_deltas glyph.value) ≡ Some (at, value)
      → number ≡ glyph.value.number → told ≡ value
      → large_from gid (glyphs_of (drop gid glyphs)) ≡ Some first
  large_here at number value told first is e same_number same_value =
      let same : LargeDelta = record { number = number; gid = gid; value = told } in
      let is_same : record same {
        number = glyph.value.number;
        value = value;
      } ≡ same = (λ i. record {
        number = sym same_number i;
        gid = gid;
        value = sym same_value i;
      }) in
      ap (large_from gid) rest ∙ ap (λ large. first_of large behind)
      (some_of gid glyph.value at value e ∙ ap Some is_same) ∙ sym is

  -- of an earlier one and this glyph's, if it has one, the first in the source
  pub large_more : (found first : LargeDelta)
      → Some first ≡ first_of (Some found) (large_of gid glyph.value)
      → first_of (Some first) (large_from (gid + 1) (glyphs_of (drop (gid + 1) glyphs)))
      ≡ first_of (Some found) (large_from gid (glyphs_of (drop gid glyphs)))
  large_more found first is = ap (λ large. first_of large behind) is
      ∙ first_of-assoc (Some found) (large_of gid glyph.value) behind
      ∙ ap (λ all. first_of (Some found) (large_from gid all)) (sym rest)

  -- what is told of the glyphs so far, and of one more
  pub all_told_more : (before after : List Region) (all : List (List PlacedDelta))
      (placed : List PlacedDelta) → after ≡ with_changes before (changes_of glyph.value)
      → AllTold before all (map changes_of (glyphs_of (take gid glyphs)))
      → AreTold after placed (changes_of glyph.value)
      → AllTold after (all ++ placed ∷ []) (map changes_of (glyphs_of (take (gid + 1) glyphs)))
  all_told_more before after all placed grown told last =
      let so_far = map changes_of (glyphs_of (take gid glyphs)) in
      let kept : AllTold after all so_far = subst (λ regions. AllTold regions all so_far)
      (sym grown) (all_told_on before (changes_of glyph.value) all so_far told) in
      map-append (map (told_by after)) all (placed ∷ [])
      ∙ (λ i. kept i ++ last i ∷ [])
      ∙ sym (map-append (map stands_at) so_far (changes_of glyph.value ∷ []))
      ∙ ap (map (map stands_at)) (sym changes_more)

-- what is said of the glyphs, said of the references
pub at_references : (P : FlatGlyph → Type 0) (glyphs : List (Arc FlatGlyph Global))
    → All P (glyphs_of glyphs) → All (λ glyph. P glyph.value) glyphs
at_references P glyphs all k d h =
    subst P (get_or-map arc_value glyphs k d d.value h)
    (all k d.value (omega (arith, length-map glyphs arc_value, h)))

pub begin_with : (header : Header) (masters : List (List F2Dot14))
    → masters ≡ master_places header → (glyphs : List (Arc FlatGlyph Global))
    → All (BeginsWithMasters header) (glyphs_of glyphs)
    → All (λ glyph. take (length masters) glyph.value.places ≡ masters) glyphs
begin_with header masters is glyphs all k d h =
    let places = (get_or glyphs k d).value.places in
    (λ i. take (length (is i)) places)
    ∙ ap (λ n. take n places) (length-map header.masters (λ master. master.location))
    ∙ at_references (BeginsWithMasters header) glyphs all k d h ∙ sym is

-- ---- the rows of all glyphs

pub are_rows : (header : Header) (glyphs : List FlatGlyph) (masters : List (List F2Dot14))
    (before regions : List Region) (all : List (List PlacedDelta)) (rows : List (List ℤ))
    (count : ℕ) → masters ≡ master_places header → before ≡ drop 1 (supports_of masters)
    → (regions ≡ with_glyphs before glyphs) × AllTold regions all (map changes_of glyphs)
    × (large_from 0 glyphs ≡ None)
    → AllPairs (λ a b. a ≢ b) regions → All (HasSides (length header.axes)) regions
    → count ≡ length regions → count ≤ REGIONS → rows ≡ map (row_by count) all
    → AreRows header glyphs regions rows
are_rows header glyphs masters before regions all rows count places first told different sides long
    few made =
    let are : regions ≡ regions_of header glyphs
    = told.0 ∙ (λ i. with_glyphs (first i) glyphs)
    ∙ (λ i. with_glyphs (drop 1 (supports_of (places i))) glyphs) in
    record {
      are_regions = are;
      are_rows = made ∙ ap (λ n. map (row_by n) all) long
          ∙ rows_told regions all (map changes_of glyphs) different told.1
          ∙ map-map (row_over regions) changes_of glyphs
          ∙ (λ i. map (λ glyph. row_over (are i) (changes_of glyph)) glyphs);
      none_large = told.2;
      few = subst (λ n. n ≤ REGIONS) long few;
      sides = sides;
    }
