-- The names of an index that is read have 1 to 255 bytes: another name fails a local rule.
use Rattle.std.proofs.Common.{◌≡◌, ℕ, ◌+◌, List, [], ◌∷◌, Option, Some, None, Result, Ok, Err, sym}
use Rattle.std.proofs.Common.{◌∙◌, subst}
use Rattle.std.specs.Prelude.{codes, IfOk, flat_map, option_and_then, unwrap_or, map}
use Rattle.std.specs.List.{AllByRecursion}
use Rattle.std.proofs.lemmas.List.Elements.{All-from_recursion}
use Rattle.std.proofs.lemmas.List.Concat.{flat_map-cons}
use Rattle.plist_reader.specs.declared.tree.Tree.{Tree}
use Rattle.plist_reader.specs.Tree.{find_in}
use Rattle.font_ir.specs.Headers.{IsNameLong}
use Rattle.refusal_codes.specs.declared.errors.ReadError.{ReadError}
use Rattle.refusal_codes.specs.declared.job.TheConstants.{INDEX}
use Rattle.refusal_codes.specs.Gives.{Gives}
use Rattle.refusal_codes.specs.First.{first_of, foremost, or_next, refusal_of}
use Rattle.refusal_codes.specs.FirstLaws.{first_of_none}
use Rattle.refusal_codes.specs.JudgedLaws.{judged_ok}
use Rattle.source_values.specs.Values.{items_at, is_dictionary}
use Rattle.source_values.specs.Asking.{each_by, each, dictionary, under_by}
use Rattle.glyphs_source.specs.declared.entries.IndexEntry.{IndexEntry}
use Rattle.glyphs_source.specs.IndexReading.{glyph_parts_failures, glyph_list_failures}
use Rattle.glyphs_source.specs.IndexReading.{index_failures, glyph_name, entries_from}
use Rattle.glyphs_source.specs.IndexReading.{glyph_numbers, repeated_names, repeated_codes}
use Rattle.glyphs_source.specs.IndexReading.{index_of, AreNamed}
use Rattle.glyphs_source.proofs.HeaderLaws.{first_empty, last_empty, dictionary_there, name_under}

-- a glyph that fails no local rule
abbrev FailsNone : Tree → ℕ → Type 0
FailsNone t g = dictionary glyph_parts_failures t g ≡ []

named : (t : Tree) (g : ℕ) → FailsNone t g → IsNameLong (glyph_name t g)
unfolding glyph_parts_failures glyph_name
named t g e =
    let parts = dictionary_there (is_dictionary t g) (glyph_parts_failures t g) _ e in
    name_under t g (find_in t g (codes "glyphname"))
    (first_empty _ _ (first_empty _ _ (first_empty _ _ (first_empty _ _ parts))))

-- of glyphs that fail none together each fails none
each_none : (t : Tree) (gs : List ℕ) → flat_map (dictionary glyph_parts_failures t) gs ≡ []
    → AllByRecursion (FailsNone t) gs
each_none t [] e = tt
each_none t (g ∷ gs) e =
    let split = sym (flat_map-cons (dictionary glyph_parts_failures t) g gs) ∙ e in (
      first_empty _ _ split,
      each_none t gs
          (last_empty (dictionary glyph_parts_failures t g) _ split),
    )

of_items : (t : Tree) (n : ℕ) (o : Option (List ℕ))
    → each_by (dictionary glyph_parts_failures t) t n o ≡ []
    → AllByRecursion (FailsNone t) (unwrap_or o [])
of_items t n None e = absurd cc
of_items t n (Some items) e = each_none t items e

of_list : (t : Tree) (o : Option ℕ)
    → under_by (each (dictionary glyph_parts_failures) t) [] o ≡ []
    → AllByRecursion (FailsNone t) (unwrap_or (option_and_then (items_at t) o) [])
of_list t None e = tt
of_list t (Some n) e = of_items t n (items_at t n) e

of_tree : (t : Tree) → index_failures t ≡ [] → AllByRecursion (FailsNone t) (glyph_numbers t)
unfolding glyph_list_failures glyph_numbers
of_tree t e = of_list t (find_in t t.top (codes "glyphs"))
    (dictionary_there (is_dictionary t t.top) (glyph_list_failures t t.top) _ e)

entries_named : (t : Tree) (number : ℕ) (gs : List ℕ) → AllByRecursion (FailsNone t) gs
    → AllByRecursion (λ (entry : List ℕ × IndexEntry). IsNameLong entry.0)
    (entries_from t number gs)
entries_named t number [] h = tt
entries_named t number (g ∷ gs) h = (named t g h.0, entries_named t (number + 1) gs h.1)

pub read_names : (t : Tree) (index : List (List ℕ × IndexEntry)) → index_of t ≡ Ok index
    → AreNamed index
unfolding index_of
read_names t index e =
    let entries = entries_from t 0 (glyph_numbers t) in
    let parts = judged_ok (refusal_of INDEX []) (first_of (index_failures t))
    (or_next (foremost (repeated_names t [] (glyph_numbers t)))
    (foremost (repeated_codes t [] (map (λ entry. entry.1) entries))))
    entries index e in
    subst AreNamed parts.2
    (All-from_recursion (λ (entry : List ℕ × IndexEntry). IsNameLong entry.0) entries
    (entries_named t 0 (glyph_numbers t) (of_tree t (first_of_none _ parts.0))))

-- the same of what a call answers
pub given_names : (t : Tree) (result : Result (List (List ℕ × IndexEntry)) ReadError)
    → Gives (λ index. index) result (index_of t) → IfOk result AreNamed
given_names t (Ok index) g = read_names t index g
given_names t (Err error) g = tt
