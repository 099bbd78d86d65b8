-- What a row's place among others says of adding it.
use Rattle.std.proofs.Common.{◌≡◌, ℕ, ◌<◌, Bool, false, List, [], ◌∷◌, ◌++◌, length}
use Rattle.std.proofs.Common.{is_some, get_or, Option, Some, None, ap, sym, ◌∙◌, subst}
use Rattle.std.proofs.Common.{length-append, arith}
use Rattle.std.specs.Prelude.{ℤ, Vec, Ok, slice_get, if◌then◌else◌, nat_eq}
use Rattle.std.specs.declared.alloc.Global.{Global}
use Rattle.std.specs.List.{All, IsDistinct, position, list_any, flat_map}
use Rattle.std.specs.Option.{unwrap_or}
use Rattle.std.specs.Ordering.{int_eq}
use Rattle.std.specs.Cmp.Rules.{signed_items}
use Rattle.std.specs.Cmp.Lexicographic.{pointwise}
use Rattle.std.proofs.lemmas.Bool.Decides.{nat_tests}
use Rattle.std.proofs.lemmas.List.{map-append, length-map}
use Rattle.std.proofs.lemmas.List.Folds.{flat_map-map}
use Rattle.std.proofs.lemmas.List.Elements.{All-push}
use Rattle.std.proofs.lemmas.Map.Made.{AllPairs-from_IsDistinct}
use Rattle.indexmap.specs.IndexSet.{insert_key}
use Rattle.font_ir.specs.declared.variation.Region.{Region}
use Rattle.std.proofs.lemmas.List.Quantifiers.{position-Some}
use Rattle.std.proofs.lemmas.Option.{slice_get-get_or}
use Rattle.region_store.specs.Builders.{IsBuilt, place_among, rows_with, lacks_room, AddsRow}
use Rattle.region_store.specs.Stores.{item_variation_data_head, item_variation_data, delta_set}
use Rattle.region_store.specs.Views.{rows_of, store_of}
use Rattle.region_store.proofs.ListLemmas.{position-map, is_some-position, IsDistinct-map}
use Rattle.region_store.proofs.ListLemmas.{slice_get-last}

-- the room for a row that has this place among so many
abbrev lacks_at : ℕ → Option ℕ → Option ℕ
lacks_at count place = if is_some place then None else if nat_eq count 65535 then Some count else
    None

pub place_in_set : (keys : List (Vec ℤ Global)) (row : List ℤ)
    → position (λ key. pointwise int_eq row key.items) keys ≡ place_among (rows_of keys) row
place_in_set keys row = sym (position-map (pointwise int_eq row) (λ (key : Vec ℤ Global). key.items)
    keys)

pub not_in_set : (keys : List (Vec ℤ Global)) (row : List ℤ) → place_among (rows_of keys) row ≡ None
    → list_any (λ key. pointwise int_eq row key.items) keys ≡ false
not_in_set keys row none =
    sym (is_some-position (λ (key : Vec ℤ Global). pointwise int_eq row key.items) keys)
    ∙ ap is_some (place_in_set keys row ∙ none)

pub row_stands : (rows : List (List ℤ)) (row : List ℤ) (place : ℕ)
    → place_among rows row ≡ Some place → slice_get rows place ≡ Some row
row_stands rows row place found =
    let at = position-Some (pointwise int_eq row) rows place [] found in
    let same : row ≡ get_or rows place [] = (signed_items row (get_or rows place [])).0 at.1 in
    slice_get-get_or rows place [] at.0 ∙ ap Some (sym same)

pub adds_found : (rows : List (List ℤ)) (row : List ℤ) (place : ℕ)
    → place_among rows row ≡ Some place → AddsRow (Ok (0, place)) rows row
adds_found rows row place found = (
  ap (lacks_at (length rows)) found,
  ap (λ (p : Option ℕ). (0, unwrap_or p (length rows)))
      (sym found),
)

pub rows_with_found : (rows : List (List ℤ)) (row : List ℤ) (place : ℕ)
    → place_among rows row ≡ Some place → rows_with rows row ≡ rows
rows_with_found rows row place found = ap (λ (p : Option ℕ). if is_some p then rows else rows ++ row
    ∷ []) found

pub rows_with_new : (rows : List (List ℤ)) (row : List ℤ) → place_among rows row ≡ None
    → rows_with rows row ≡ rows ++ row ∷ []
rows_with_new rows row none = ap (λ (p : Option ℕ). if is_some p then rows else rows ++ row ∷ [])
    none

full_test : (n : ℕ) → n < 65535 → nat_eq n 65535 ≡ false
full_test n room = grind (arith, nat_tests)

pub lacks_full : (rows : List (List ℤ)) (row : List ℤ) (count : ℕ) → place_among rows row ≡ None
    → count ≡ length rows → count ≡ 65535 → lacks_room rows row ≡ Some count
lacks_full rows row count none is full =
    ap (lacks_at (length rows)) none ∙ ap (λ n. lacks_at n None) (sym is ∙ full)
    ∙ ap Some (sym full)

pub adds_new : (rows : List (List ℤ)) (row : List ℤ) (place : ℕ) → place_among rows row ≡ None
    → place ≡ length rows → place < 65535 → AddsRow (Ok (0, place)) rows row
adds_new rows row place none is room =
    let free : nat_eq (length rows) 65535 ≡ false = full_test (length rows) (omega arith) in (
      ap (lacks_at (length rows)) none ∙ ap (λ (full : Bool). if full then Some (length rows) else
          None) free,
      ap (λ n. (0, n)) is ∙ ap (λ (p : Option ℕ). (0, unwrap_or p (length rows))) (sym none),
    )

-- the rows after a new one is put into the set
pub grown : (keys new : List (Vec ℤ Global)) (key : Vec ℤ Global) (row : List ℤ) → key.items ≡ row
    → place_among (rows_of keys) row ≡ None
    → new ≡ insert_key (λ a b. pointwise int_eq a.items b.items) keys key
    → rows_of new ≡ rows_of keys ++ row ∷ []
grown keys new key row same none inserted =
    let absent : list_any (λ k. pointwise int_eq key.items k.items) keys ≡ false =
    ap (λ numbers. list_any (λ k. pointwise int_eq numbers k.items) keys) same
    ∙ not_in_set keys row none in
    ap rows_of (inserted ∙ ap (λ (found : Bool). if found then keys else keys ++ key ∷ []) absent)
    ∙ map-append (λ (k : Vec ℤ Global). k.items) keys (key ∷ [])
    ∙ ap (λ last. rows_of keys ++ last ∷ []) same

-- such a store is built as before
pub built_again : (axes : ℕ) (regions : List Region) (keys new : List (Vec ℤ Global)) (row : List ℤ)
    → IsBuilt (store_of axes regions keys) → rows_of new ≡ rows_of keys ++ row ∷ []
    → length row ≡ length regions → length (rows_of keys) < 65535
    → IsDistinct (λ a b. pointwise int_eq a.items b.items) new → IsBuilt (store_of axes regions new)
built_again axes regions keys new row built rows long room unique = record {
  is_store = record {
    few_regions = built.is_store.few_regions;
    few_rows = omega (arith, ap length rows, length-append (rows_of keys) (row ∷ []));
    sides = built.is_store.sides;
    deltas = subst (λ (all : List (List ℤ)). All (λ r. length r ≡ length regions) all) (sym rows)
        (All-push (λ r. length r ≡ length regions) (rows_of keys) row built.is_store.deltas long);
  };
  different = AllPairs-from_IsDistinct signed_items (rows_of new)
      (IsDistinct-map (pointwise int_eq) (λ (k : Vec ℤ Global). k.items) new unique);
}

-- the place of the last row
pub last_stands : (rows : List (List ℤ)) (row : List ℤ) (place : ℕ) → place ≡ length rows
    → slice_get (rows ++ row ∷ []) place ≡ Some row
last_stands rows row place is = ap (slice_get (rows ++ row ∷ [])) is ∙ slice_get-last rows row

-- the subtable of what the set holds
pub data_of_keys : (keys : List (Vec ℤ Global)) (regions : ℕ)
    → item_variation_data_head (length keys) regions ++ flat_map (λ key. delta_set key.items) keys
    ≡ item_variation_data regions (rows_of keys)
data_of_keys keys regions =
    (λ i. item_variation_data_head (sym (length-map keys (λ (key : Vec ℤ Global). key.items)) i)
    regions ++ sym (flat_map-map delta_set (λ (key : Vec ℤ Global). key.items) keys) i)
