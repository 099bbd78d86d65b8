-- The codes of an index that is read are distinct and those of characters, its entries are numbered
-- by their places under different names, and its `.notdef` is exported.
use Rattle.std.proofs.Common.{◌≡◌, ℕ, ◌+◌, Bool, true, false, cond, ◌&&◌, ◌||◌, not, List, []}
use Rattle.std.proofs.Common.{◌∷◌, map, zero, suc, slice_get, nat_eq, Option, Some, None, Ok}
use Rattle.std.proofs.Common.{nat_le, refl, ap, subst, arith}
use Rattle.std.specs.Prelude.{codes}
use Rattle.std.specs.Option.{option_map_or}
use Rattle.std.specs.List.{All, AllByRecursion, IsDistinct}
use Rattle.std.specs.Map.{keys_of}
use Rattle.std.specs.Cmp.Lexicographic.{pointwise, bytes_decides}
use Rattle.std.proofs.lemmas.Bool.{and_parts}
use Rattle.std.proofs.lemmas.Bool.Decides.{nat_tests}
use Rattle.std.proofs.lemmas.List.Elements.{All-from_recursion}
use Rattle.plist_reader.specs.declared.tree.Tree.{Tree}
use Rattle.plist_reader.specs.Tree.{find_in}
use Rattle.refusal_codes.specs.declared.job.TheConstants.{INDEX}
use Rattle.refusal_codes.specs.First.{first_of, foremost, or_next, refusal_of}
use Rattle.refusal_codes.specs.JudgedLaws.{judged_ok}
use Rattle.source_values.specs.declared.decimals.Decimal.{Decimal}
use Rattle.source_values.specs.declared.kinds.Range.TheVariants.{Code}
use Rattle.source_values.specs.Decimals.{is_whole}
use Rattle.source_values.specs.Values.{decimal_at, items_at, in_range, is_code, is_zero}
use Rattle.source_values.specs.Values.{decimal_under}
use Rattle.glyphs_source.specs.declared.entries.IndexEntry.{IndexEntry}
use Rattle.glyphs_source.specs.IndexReading.{code_by, code_at, codes_by, codes_at, glyph_codes}
use Rattle.glyphs_source.specs.IndexReading.{glyph_name, is_exported, entry_of, entries_from}
use Rattle.glyphs_source.specs.IndexReading.{glyph_numbers, repeated_names, repeated_codes}
use Rattle.glyphs_source.specs.IndexReading.{index_failures, index_of, IsCharacterCode, AreCoded}
use Rattle.glyphs_source.specs.IndexReading.{AreNumbered, IsNotdefExported}
use Rattle.glyphs_source.proofs.RepeatLaws.{index_without}

-- ---- an index that is read has the entries of the glyphs

entries_read : (t : Tree) (index : List (List ℕ × IndexEntry)) → index_of t ≡ Ok index
    → entries_from t 0 (glyph_numbers t) ≡ index
unfolding index_of
entries_read t index e =
    let entries = entries_from t 0 (glyph_numbers t) in
    (judged_ok (refusal_of INDEX []) (first_of (index_failures t))
    (or_next (foremost (repeated_names t [] (glyph_numbers t)))
    (foremost (repeated_codes t [] (map (λ entry. entry.1) entries))))
    entries index e).2

-- what each glyph's name and entry are, the index's are
module _ (P : List ℕ × IndexEntry → Type 0)
    (each : (t : Tree) (number g : ℕ) → P (glyph_name t g, entry_of t number g)) where
  from_number : (t : Tree) (number : ℕ) (gs : List ℕ) → AllByRecursion P (entries_from t number gs)
  from_number t number [] = tt
  from_number t number (g ∷ gs) = (each t number g, from_number t (number + 1) gs)

  all_read : (t : Tree) (index : List (List ℕ × IndexEntry)) → index_of t ≡ Ok index → All P index
  all_read t index e =
      let entries = entries_from t 0 (glyph_numbers t) in
      subst (All P) (entries_read t index e)
      (All-from_recursion P entries (from_number t 0 (glyph_numbers t)))

-- ---- codes

zero_code : IsCharacterCode 0
zero_code = record { most = omega arith; character = refl }

in_codes : (d : Decimal) → in_range Code d ≡ true → IsCharacterCode d.whole
in_codes d e =
    let parts = and_parts _ (is_code d.whole) e in
    let ends = and_parts _ (nat_le 0 d.whole && nat_le d.whole 1114111) parts.0 in
    let most = (and_parts (nat_le 0 d.whole) (nat_le d.whole 1114111) ends.1).1 in
    record { most = grind (arith, nat_tests); character = parts.1 }

chosen_code : (b : Bool) (code : ℕ) → (b ≡ true → IsCharacterCode code)
    → IsCharacterCode (cond b code 0)
chosen_code true code f = f refl
chosen_code false code f = zero_code

coded_by : (o : Option Decimal) → IsCharacterCode (code_by o)
coded_by None = zero_code
coded_by (Some d) = chosen_code (is_whole d && in_range Code d) d.whole
    (λ e. in_codes d (and_parts (is_whole d) (in_range Code d) e).1)

coded_at : (t : Tree) (n : ℕ) → IsCharacterCode (code_at t n)
unfolding code_at
coded_at t n = coded_by (decimal_at t n)

all_coded : (t : Tree) (items : List ℕ) → AllByRecursion IsCharacterCode (map (code_at t) items)
all_coded t [] = tt
all_coded t (n ∷ items) = (coded_at t n, all_coded t items)

list_by : (t : Tree) (n : ℕ) (o : Option (List ℕ)) → AllByRecursion IsCharacterCode (codes_by t n o)
list_by t n None = (coded_at t n, tt)
list_by t n (Some items) = all_coded t items

list_at : (t : Tree) (n : ℕ) → AllByRecursion IsCharacterCode (codes_at t n)
unfolding codes_at
list_at t n = list_by t n (items_at t n)

list_under : (t : Tree) (o : Option ℕ)
    → AllByRecursion IsCharacterCode (option_map_or (codes_at t) o [])
list_under t None = tt
list_under t (Some n) = list_at t n

glyph_coded : (t : Tree) (number g : ℕ) → All IsCharacterCode (entry_of t number g).codes
unfolding entry_of glyph_codes
glyph_coded t number g = All-from_recursion IsCharacterCode (glyph_codes t g)
    (list_under t (find_in t g (codes "unicode")))

pub read_codes : (t : Tree) (index : List (List ℕ × IndexEntry)) → index_of t ≡ Ok index
    → AreCoded index
read_codes t index e = record {
  distinct = (index_without t index e).codes;
  within = all_read (λ entry. All IsCharacterCode entry.1.codes) glyph_coded t index e;
}

-- ---- numbers and names

number_at : (t : Tree) (first : ℕ) (gs : List ℕ) (place : ℕ) (entry : List ℕ × IndexEntry)
    → slice_get (entries_from t first gs) place ≡ Some entry → entry.1.number ≡ first + place
unfolding entry_of
number_at t first [] place entry e = absurd cc
number_at t first (g ∷ gs) zero entry e =
    let same : (glyph_name t g, entry_of t first g) ≡ entry = cc in
    omega (arith, ap (λ (x : List ℕ × IndexEntry). x.1.number) same)
number_at t first (g ∷ gs) (suc place) entry e =
    omega (arith, number_at t (first + 1) gs place entry e)

pub read_numbers : (t : Tree) (index : List (List ℕ × IndexEntry)) → index_of t ≡ Ok index
    → AreNumbered index
read_numbers t index e = subst AreNumbered (entries_read t index e)
    (λ place entry there. omega (arith, number_at t 0 (glyph_numbers t) place entry there))

pub read_distinct : (t : Tree) (index : List (List ℕ × IndexEntry)) → index_of t ≡ Ok index
    → IsDistinct (pointwise nat_eq) (keys_of index)
read_distinct t index e = (index_without t index e).names

-- ---- `.notdef`

notdef_counts : (t : Tree) (number g : ℕ) → glyph_name t g ≡ codes ".notdef"
    → (entry_of t number g).exported ≡ true
unfolding entry_of is_exported
notdef_counts t number g e =
    ap (λ (b : Bool). b || not (is_zero (decimal_under t g (codes "export"))))
    ((bytes_decides (glyph_name t g) (codes ".notdef")).1 e)

pub read_notdef : (t : Tree) (index : List (List ℕ × IndexEntry)) → index_of t ≡ Ok index
    → IsNotdefExported index
read_notdef = all_read (λ entry. entry.0 ≡ codes ".notdef" → entry.1.exported ≡ true) notdef_counts
