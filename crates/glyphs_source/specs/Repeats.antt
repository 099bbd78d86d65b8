-- What an index and its refusals say of names and codes that stand again. A law above the rules of
-- `IndexReading`, in the words of lists: items are distinct where no one stands twice. fontc's own.
use Rattle.std.specs.Prelude.{◌≡◌, ℕ, true, List, ◌∷◌, ◌++◌, map, flat_map, nat_eq}
use Rattle.std.specs.List.{IsDistinct}
use Rattle.std.specs.Map.{keys_of}
use Rattle.std.specs.Cmp.Lexicographic.{pointwise}
use Rattle.plist_reader.specs.declared.tree.Tree.{Tree}
use Rattle.plist_reader.specs.Keys.{is_among}
use Rattle.refusal_codes.specs.declared.refusal.Refusal.{Refusal}
use Rattle.refusal_codes.specs.declared.errors.ReadError.{ReadError}
use Rattle.refusal_codes.specs.declared.errors.ReadError.TheVariants as read_errors
use Rattle.refusal_codes.specs.declared.rule.Rule.TheVariants.{DuplicateGlyph, DuplicateUnicode}
use Rattle.glyphs_source.specs.declared.entries.IndexEntry.{IndexEntry}
use Rattle.source_values.specs.Values.{place_at}
use Rattle.glyphs_source.specs.IndexReading.{glyph_name, glyph_numbers, entries_from, counting}

-- the names are distinct, and so are the codes that count, joined in the order of the file
pub record IsWithoutRepeats (index : List (List ℕ × IndexEntry)) : Type 0 where
  pub names : IsDistinct (pointwise nat_eq) (keys_of index)
  pub codes : IsDistinct nat_eq (flat_map (λ entry. counting entry.1) index)

-- at this place stands the first of these glyphs whose name an earlier one has: the names before it
-- are distinct
pub record IsFirstRepeatedName (t : Tree) (glyphs : List ℕ) (place : ℕ) : Type 0 where
  pub before : List ℕ
  pub glyph : ℕ
  pub behind : List ℕ
  pub in_order : glyphs ≡ before ++ glyph ∷ behind
  pub distinct : IsDistinct (pointwise nat_eq) (map (glyph_name t) before)
  pub again : is_among (glyph_name t glyph) (map (glyph_name t) before) ≡ true
  pub there : place ≡ place_at t glyph

-- at this place stands the first of these glyphs with a code that stands again: the codes that
-- count before it are distinct, and with its own they aren't
pub record IsFirstRepeatedCode (t : Tree) (entries : List IndexEntry) (place : ℕ) : Type 0 where
  pub before : List IndexEntry
  pub entry : IndexEntry
  pub behind : List IndexEntry
  pub in_order : entries ≡ before ++ entry ∷ behind
  pub distinct : IsDistinct nat_eq (flat_map counting before)
  pub again : ¬ IsDistinct nat_eq (flat_map counting before ++ counting entry)
  pub there : place ≡ place_at t entry.node

-- where a refusal is that of a repeated name, or of a repeated code, its place is that of the first
-- such glyph
pub record TellsRepeat (t : Tree) (r : Refusal) : Type 0 where
  pub name : r.rule ≡ DuplicateGlyph → IsFirstRepeatedName t (glyph_numbers t) r.place
  pub code : r.rule ≡ DuplicateUnicode → IsFirstRepeatedCode t
      (map (λ entry. entry.1) (entries_from t 0 (glyph_numbers t))) r.place

-- the same of an error, which may be want of memory
abbrev pub TellsRepeatOf : Tree → ReadError → Type 0
TellsRepeatOf t (read_errors.Refused r) = TellsRepeat t r
TellsRepeatOf t read_errors.NoMemory = Unit {0}
