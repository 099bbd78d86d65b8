-- One turn of the loops that look for a name or a code that stands again.
use Rattle.std.proofs.Common.{◌≡◌, ℕ, ◌+◌, ◌<◌, Bool, true, false, cond, ◌||◌, List, [], ◌∷◌, ◌++◌}
use Rattle.std.proofs.Common.{length, get_or, drop, Option, Some, None, is_some, nat_eq, refl, ap}
use Rattle.std.proofs.Common.{◌∙◌}
use Rattle.std.specs.List.{list_any}
use Rattle.std.specs.Map.{lookup, keys_of}
use Rattle.std.specs.Cmp.Lexicographic.{pointwise}
use Rattle.std.proofs.lemmas.List.{at_drop_more, map-append}
use Rattle.indexmap.specs.IndexSet.{insert_key}
use Rattle.plist_reader.specs.declared.tree.Tree.{Tree}
use Rattle.plist_reader.specs.Keys.{is_among}
use Rattle.refusal_codes.specs.declared.rule.Rule.TheVariants.{DuplicateGlyph}
use Rattle.refusal_codes.specs.First.{foremost}
use Rattle.glyphs_source.specs.declared.entries.IndexEntry.{IndexEntry}
use Rattle.source_values.specs.Values.{place_at}
use Rattle.source_values.specs.Asking.{fails}
use Rattle.glyphs_source.specs.IndexReading.{glyph_name, repeats, repeated_names, entry_of}
use Rattle.glyphs_source.specs.IndexReading.{entries_from}

-- ---- codes

repeats_next : (seen cs : List ℕ) (i : ℕ) → i < length cs
    → repeats seen (drop i cs) ≡ (list_any (nat_eq (get_or cs i 0)) seen
    || repeats (seen ++ get_or cs i 0 ∷ []) (drop (i + 1) cs))
repeats_next seen cs i lt = at_drop_more (repeats seen) cs i 0 lt

pub repeats_found : (seen cs : List ℕ) (i : ℕ) → i < length cs
    → list_any (nat_eq (get_or cs i 0)) seen ≡ true → repeats seen (drop i cs) ≡ true
repeats_found seen cs i lt e = repeats_next seen cs i lt
    ∙ ap (λ (b : Bool). b || repeats (seen ++ get_or cs i 0 ∷ []) (drop (i + 1) cs)) e

pub repeats_new : (seen cs : List ℕ) (i : ℕ) → i < length cs
    → list_any (nat_eq (get_or cs i 0)) seen ≡ false
    → repeats seen (drop i cs) ≡ repeats (seen ++ get_or cs i 0 ∷ []) (drop (i + 1) cs)
repeats_new seen cs i lt e = repeats_next seen cs i lt
    ∙ ap (λ (b : Bool). b || repeats (seen ++ get_or cs i 0 ∷ []) (drop (i + 1) cs)) e

pub insert_key-new : (seen : List ℕ) (c : ℕ) → list_any (nat_eq c) seen ≡ false
    → insert_key nat_eq seen c ≡ seen ++ c ∷ []
insert_key-new seen c e = ap (λ (b : Bool). cond b seen (seen ++ c ∷ [])) e

-- ---- names

module _ (t : Tree) where
  names_next : (names : List (List ℕ)) (gs : List ℕ) (i : ℕ) → i < length gs
      → repeated_names t names (drop i gs) ≡
      (cond (is_among (glyph_name t (get_or gs i 0)) names) (fails DuplicateGlyph t (get_or gs i 0))
      [] ++ repeated_names t (names ++ glyph_name t (get_or gs i 0) ∷ []) (drop (i + 1) gs))
  names_next names gs i lt = at_drop_more (repeated_names t names) gs i 0 lt

  pub names_found : (names : List (List ℕ)) (gs : List ℕ) (i : ℕ) → i < length gs
      → is_among (glyph_name t (get_or gs i 0)) names ≡ true
      → foremost (repeated_names t names (drop i gs))
      ≡ Some (record { rule = DuplicateGlyph; place = place_at t (get_or gs i 0) })
  names_found names gs i lt e =
      ap foremost (names_next names gs i lt
      ∙ ap (λ (b : Bool). cond b (fails DuplicateGlyph t (get_or gs i 0)) []
      ++ repeated_names t (names ++ glyph_name t (get_or gs i 0) ∷ []) (drop (i + 1) gs)) e)

  pub names_new : (names : List (List ℕ)) (gs : List ℕ) (i : ℕ) → i < length gs
      → is_among (glyph_name t (get_or gs i 0)) names ≡ false
      → repeated_names t names (drop i gs) ≡ repeated_names t
      (names ++ glyph_name t (get_or gs i 0) ∷ []) (drop (i + 1) gs)
  names_new names gs i lt e =
      names_next names gs i lt ∙ ap (λ (b : Bool). cond b (fails DuplicateGlyph t (get_or gs i 0))
      [] ++ repeated_names t (names ++ glyph_name t (get_or gs i 0) ∷ []) (drop (i + 1) gs)) e

  pub entries_next : (k : ℕ) (gs : List ℕ) (i : ℕ) → i < length gs
      → entries_from t k (drop i gs) ≡ (glyph_name t (get_or gs i 0), entry_of t k (get_or gs i 0))
      ∷ entries_from t (k + 1) (drop (i + 1) gs)
  entries_next k gs i lt = at_drop_more (entries_from t k) gs i 0 lt

-- a map has a name exactly where the name is among its keys
pub among_keys : (name : List ℕ) (es : List (List ℕ × IndexEntry))
    → is_some (lookup (pointwise nat_eq name) es) ≡ is_among name (keys_of es)
among_keys name [] = refl
among_keys name (e ∷ es) = chosen (pointwise nat_eq name e.0) (lookup (pointwise nat_eq name) es)
    (is_among name (keys_of es)) (among_keys name es)
  where
    chosen : (b : Bool) (r : Option IndexEntry) (s : Bool) → is_some r ≡ s
        → is_some (cond b (Some e.1) r) ≡ (b || s)
    chosen true r s h = refl
    chosen false r s h = h

pub keys_of-push : (es : List (List ℕ × IndexEntry)) (name : List ℕ) (e : IndexEntry)
    → keys_of (es ++ (name, e) ∷ []) ≡ keys_of es ++ name ∷ []
keys_of-push es name e = map-append (λ (p : List ℕ × IndexEntry). p.0) es ((name, e) ∷ [])

-- an option of which it is known that it is none
pub none_from : {X : Type 0} (o : Option X) → is_some o ≡ false → o ≡ None
none_from None e = refl
none_from (Some x) e = absurd cc
