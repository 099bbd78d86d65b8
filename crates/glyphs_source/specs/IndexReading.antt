-- The glyphs that a source names, in the order of the file, and the rules that they may fail
-- (Glyphs file format, version 3; the rules are fontc's own). Their layers are not read here.
use Rattle.std.specs.Prelude.{◌≡◌, ℕ, ◌+◌, ◌≤◌, Bool, true, false, not, ◌&&◌, ◌||◌, nat_eq, List}
use Rattle.std.specs.Prelude.{[], ◌∷◌, ◌++◌, map, flat_map, Option, Some, None, Result, codes}
use Rattle.std.specs.Prelude.{slice_get, if◌then◌else◌}
use Rattle.std.specs.Option.{option_map_or}
use Rattle.std.specs.List.{All, IsDistinct, list_any}
use Rattle.std.specs.Cmp.Lexicographic.{pointwise}
use Rattle.plist_reader.specs.declared.tree.Tree.{Tree}
use Rattle.plist_reader.specs.Tree.{find_in}
use Rattle.plist_reader.specs.Keys.{is_among}
use Rattle.font_ir.specs.Headers.{IsNameLong}
use Rattle.refusal_codes.specs.declared.refusal.Refusal.{Refusal}
use Rattle.refusal_codes.specs.declared.rule.Rule.TheVariants.{DuplicateGlyph, DuplicateUnicode}
use Rattle.refusal_codes.specs.declared.first.Failure.{Failure}
use Rattle.refusal_codes.specs.First.{first_of, foremost, or_next, refusal_of, judged}
use Rattle.refusal_codes.specs.declared.job.TheConstants.{INDEX}
use Rattle.source_values.specs.declared.decimals.Decimal.{Decimal}
use Rattle.source_values.specs.declared.kinds.Range.TheVariants.{Any, Code}
use Rattle.source_values.specs.Decimals.{is_whole}
use Rattle.source_values.specs.Values.{items_at, is_list, decimal_at, is_zero, in_range}
use Rattle.source_values.specs.Values.{items_under, is_code}
use Rattle.source_values.specs.Values.{text_under, text_or_empty, decimal_under}
use Rattle.source_values.specs.Asking.{fails, whole_failures, text_failures, name_failures, each}
use Rattle.source_values.specs.Asking.{dictionary, required, optional}
use Rattle.glyphs_source.specs.declared.entries.IndexEntry.{IndexEntry}

-- ---- local rules

-- codes: a whole number, or a list of them
unfoldable pub codes_failures : Tree → ℕ → List Failure
codes_failures t n =
    if is_list t n then each (whole_failures Code) t n else whole_failures Code t n

unfoldable pub glyph_parts_failures : Tree → ℕ → List Failure
glyph_parts_failures t g =
    required (codes "glyphname") name_failures t g
    ++ optional (codes "unicode") codes_failures t g
    ++ optional (codes "export") (whole_failures Any) t g
    ++ optional (codes "kernLeft") text_failures t g
    ++ optional (codes "kernRight") text_failures t g

-- what the top dictionary says of glyphs: a list of dictionaries
unfoldable pub glyph_list_failures : Tree → ℕ → List Failure
glyph_list_failures = optional (codes "glyphs") (each (dictionary glyph_parts_failures))

-- the local rules that the index fails
abbrev pub index_failures : Tree → List Failure
index_failures t = dictionary glyph_list_failures t t.top

-- ---- the entries

-- a code, and 0 where the value is none
abbrev pub code_by : Option Decimal → ℕ
code_by None = 0
code_by (Some d) = if is_whole d && in_range Code d then d.whole else 0

unfoldable pub code_at : Tree → ℕ → ℕ
code_at t n = code_by (decimal_at t n)

abbrev pub codes_by : Tree → ℕ → Option (List ℕ) → List ℕ
codes_by t n None = code_at t n ∷ []
codes_by t n (Some items) = map (code_at t) items

unfoldable pub codes_at : Tree → ℕ → List ℕ
codes_at t n = codes_by t n (items_at t n)

unfoldable pub glyph_codes : Tree → ℕ → List ℕ
glyph_codes t g = option_map_or (codes_at t) (find_in t g (codes "unicode")) []

unfoldable pub glyph_name : Tree → ℕ → List ℕ
glyph_name t g = text_or_empty t g (codes "glyphname")

-- a glyph is exported unless its `export` is 0; `.notdef` always is
unfoldable pub is_exported : Tree → ℕ → Bool
is_exported t g =
    pointwise nat_eq (glyph_name t g) (codes ".notdef")
    || not (is_zero (decimal_under t g (codes "export")))

unfoldable pub entry_of : Tree → ℕ → ℕ → IndexEntry
entry_of t number g = record {
  number = number;
  node = g;
  exported = is_exported t g;
  codes = glyph_codes t g;
  left = text_under t g (codes "kernLeft");
  right = text_under t g (codes "kernRight");
}

-- the entries of the glyphs, numbered from this number on
abbrev pub entries_from : Tree → ℕ → List ℕ → List (List ℕ × IndexEntry)
entries_from t number [] = []
entries_from t number (g ∷ gs) = (glyph_name t g, entry_of t number g)
    ∷ entries_from t (number + 1) gs

-- the values of the list of glyphs
unfoldable pub glyph_numbers : Tree → List ℕ
glyph_numbers t = items_under t t.top (codes "glyphs")

-- ---- whole rules, in the order of the file

-- each glyph whose name an earlier glyph has, where these are the names before
abbrev pub repeated_names : Tree → List (List ℕ) → List ℕ → List Failure
repeated_names t names [] = []
repeated_names t names (g ∷ gs) =
    (if is_among (glyph_name t g) names then fails DuplicateGlyph t g else [])
    ++ repeated_names t (names ++ glyph_name t g ∷ []) gs

-- whether one of the codes stands before, where these are the codes that do
abbrev pub repeats : List ℕ → List ℕ → Bool
repeats before [] = false
repeats before (c ∷ cs) = list_any (nat_eq c) before || repeats (before ++ c ∷ []) cs

-- the codes that count: those of exported glyphs
abbrev pub counting : IndexEntry → List ℕ
counting e = if e.exported then e.codes else []

-- each glyph in which a code stands again, where these are the codes before
abbrev pub repeated_codes : Tree → List ℕ → List IndexEntry → List Failure
repeated_codes t before [] = []
repeated_codes t before (e ∷ es) =
    (if repeats before (counting e) then fails DuplicateUnicode t e.node else [])
    ++ repeated_codes t (before ++ counting e) es

-- what the job of the index answers
unfoldable pub index_of : Tree → Result (List (List ℕ × IndexEntry)) Refusal
index_of t =
    let entries = entries_from t 0 (glyph_numbers t) in
    let names_again = foremost (repeated_names t [] (glyph_numbers t)) in
    let codes_again = foremost (repeated_codes t [] (map (λ entry. entry.1) entries)) in
    judged (refusal_of INDEX []) (first_of (index_failures t)) (or_next names_again codes_again)
    entries

-- ---- what each index that is read fulfils

-- each name has 1 to 255 bytes
abbrev pub AreNamed : List (List ℕ × IndexEntry) → Type 0
AreNamed index = All (λ entry. IsNameLong entry.0) index

-- the code of a character that a font may have: one of Unicode, but no surrogate and not 65535
pub record IsCharacterCode (code : ℕ) : Type 0 where
  pub most : code ≤ 1114111
  pub character : is_code code ≡ true

-- the codes of exported glyphs are distinct, joined in the order of the file, and each code is that
-- of a character that a font may have
pub record AreCoded (index : List (List ℕ × IndexEntry)) : Type 0 where
  pub distinct : IsDistinct nat_eq (flat_map (λ entry. counting entry.1) index)
  pub within : All (λ entry. All IsCharacterCode entry.1.codes) index

-- each entry's number is its place in the list
abbrev pub AreNumbered : List (List ℕ × IndexEntry) → Type 0
AreNumbered index = (number : ℕ) (entry : List ℕ × IndexEntry)
    → slice_get index number ≡ Some entry → entry.1.number ≡ number

-- each glyph named `.notdef` is exported
abbrev pub IsNotdefExported : List (List ℕ × IndexEntry) → Type 0
IsNotdefExported index = All (λ entry. entry.0 ≡ codes ".notdef" → entry.1.exported ≡ true) index
