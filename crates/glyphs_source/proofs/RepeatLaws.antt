-- Where an index is read, its names and its codes are distinct; where a name or a code stands
-- again, the glyph is the first.
use Rattle.std.proofs.Common.{◌≡◌, ℕ, ◌+◌, Bool, true, false, cond, ◌||◌, List, [], ◌∷◌, ◌++◌, map}
use Rattle.std.proofs.Common.{Option, Some, None, unwrap_or, Result, Ok, Err, nat_eq, true≢false}
use Rattle.std.proofs.Common.{refl, sym, ap, ◌∙◌, subst}
use Rattle.std.specs.Prelude.{flat_map, IfOk, IfErr}
use Rattle.std.specs.List.{IsDistinct, AllByRecursion, list_any}
use Rattle.std.specs.Map.{keys_of}
use Rattle.std.specs.Cmp.{IsEquivalence}
use Rattle.std.specs.Cmp.Lexicographic.{pointwise, nat_list_eq_equiv}
use Rattle.std.proofs.lemmas.Cmp.{nat_eq_equiv}
use Rattle.std.proofs.lemmas.List.{append-nil, append_assoc, map-append}
use Rattle.std.proofs.lemmas.List.Concat.{flat_map-cons}
use Rattle.std.proofs.lemmas.Grind.{flat_map-append}
use Rattle.plist_reader.specs.declared.tree.Tree.{Tree}
use Rattle.plist_reader.specs.Keys.{is_among}
use Rattle.refusal_codes.specs.declared.refusal.Refusal.{Refusal}
use Rattle.refusal_codes.specs.declared.errors.ReadError.{ReadError}
use Rattle.refusal_codes.specs.declared.errors.ReadError.TheVariants as read_errors
use Rattle.refusal_codes.specs.declared.first.Failure.{Failure}
use Rattle.refusal_codes.specs.declared.rule.Rule.TheVariants.{DuplicateGlyph, DuplicateUnicode}
use Rattle.refusal_codes.specs.First.{first_of, foremost, or_next, refusal_of, judged}
use Rattle.refusal_codes.specs.declared.job.TheConstants.{INDEX}
use Rattle.refusal_codes.specs.Gives.{Gives}
use Rattle.glyphs_source.specs.declared.entries.IndexEntry.{IndexEntry}
use Rattle.source_values.specs.Values.{place_at}
use Rattle.glyphs_source.specs.IndexReading.{glyph_name, glyph_numbers, entries_from}
use Rattle.glyphs_source.specs.IndexReading.{repeated_names, repeats, counting, repeated_codes}
use Rattle.glyphs_source.specs.IndexReading.{index_failures, index_of}
use Rattle.glyphs_source.specs.Repeats.{IsWithoutRepeats, IsFirstRepeatedName, IsFirstRepeatedCode}
use Rattle.glyphs_source.specs.Repeats.{TellsRepeat, TellsRepeatOf}
use Rattle.glyphs_source.proofs.LocalRules.{first_local}

-- ---- lists

neither : (b r : Bool) → (b || r) ≡ false → (b ≡ false) × (r ≡ false)
neither true r n = absurd (true≢false n)
neither false r n = (refl, n)

-- of two tests, one of which is true
chosen : {A : Type 0} (b r : Bool) → (b || r) ≡ true → (b ≡ true → A) → (r ≡ true → A) → A
chosen true r n f g = f refl
chosen false r n f g = g n

none_distinct : {K : Type 0} (e : K → K → Bool) → IsDistinct e []
unfolding IsDistinct
none_distinct e = tt

module _ {K : Type 0} (e : K → K → Bool) (laws : IsEquivalence e) where
  all_last : (P : K → Type 0) (xs : List K) (c : K) → AllByRecursion P xs → P c
      → AllByRecursion P (xs ++ c ∷ [])
  all_last P [] c h p = (p, tt)
  all_last P (x ∷ xs) c h p = (h.0, all_last P xs c h.1 p)

  all_middle : (P : K → Type 0) (xs : List K) (c : K) (ys : List K)
      → AllByRecursion P (xs ++ c ∷ ys) → P c
  all_middle P [] c ys h = h.0
  all_middle P (x ∷ xs) c ys h = all_middle P xs c ys h.1

  -- what no item is equal to goes last
  distinct_last : (xs : List K) (c : K) → IsDistinct e xs → list_any (e c) xs ≡ false
      → IsDistinct e (xs ++ c ∷ [])
  unfolding IsDistinct
  distinct_last [] c h n = (tt, tt)
  distinct_last (x ∷ xs) c h n =
      let parts = neither (e c x) (list_any (e c) xs) n in (
        all_last (λ y. e x y ≡ false) xs c h.0 (laws.symm x c ∙ parts.0),
        distinct_last xs c h.1
            parts.1,
      )

  -- an item equal to one before it is in no distinct list
  not_distinct : (xs : List K) (c : K) (ys : List K) → list_any (e c) xs ≡ true
      → ¬ IsDistinct e (xs ++ c ∷ ys)
  unfolding IsDistinct
  not_distinct [] c ys n = λ h. true≢false (sym n)
  not_distinct (x ∷ xs) c ys n =
      λ h. chosen (e c x) (list_any (e c) xs) n
      (λ q. true≢false (sym q ∙ laws.symm c x ∙ all_middle (λ y. e x y ≡ false) xs c ys h.0))
      (λ q. not_distinct xs c ys q h.1)

-- ---- codes

abbrev distinct_codes : List ℕ → Type 0
distinct_codes = IsDistinct nat_eq

codes_end : (xs : List ℕ) → distinct_codes xs → distinct_codes (xs ++ [])
codes_end xs h = subst distinct_codes (sym (append-nil xs)) h

-- codes that repeat none go behind distinct ones
unrepeated : (before cs : List ℕ) → distinct_codes before → repeats before cs ≡ false
    → distinct_codes (before ++ cs)
unrepeated before [] h n = codes_end before h
unrepeated before (c ∷ cs) h n =
    let parts = neither (list_any (nat_eq c) before) (repeats (before ++ c ∷ []) cs) n in
    subst distinct_codes (append_assoc before (c ∷ []) cs)
    (unrepeated (before ++ c ∷ []) cs (distinct_last nat_eq nat_eq_equiv before c h parts.0)
    parts.1)

repeated : (before cs : List ℕ) → repeats before cs ≡ true → ¬ distinct_codes (before ++ cs)
repeated before [] n = λ h. true≢false (sym n)
repeated before (c ∷ cs) n =
    λ h. chosen (list_any (nat_eq c) before) (repeats (before ++ c ∷ []) cs) n
    (λ q. not_distinct nat_eq nat_eq_equiv before c cs q h)
    (λ q. repeated (before ++ c ∷ []) cs q
    (subst distinct_codes (sym (append_assoc before (c ∷ []) cs)) h))

flat_last : (before : List IndexEntry) (e : IndexEntry)
    → flat_map counting (before ++ e ∷ []) ≡ flat_map counting before ++ counting e
flat_last before e =
    flat_map-append counting before (e ∷ [])
    ∙ ap (λ cs. flat_map counting before ++ cs)
    (flat_map-cons counting e [] ∙ append-nil (counting e))

-- a first failure of a list and the rest, by whether it is there
at_first : {A : Type 0} (b : Bool) (x f : Failure) (fs : List Failure)
    → foremost (cond b (x ∷ []) [] ++ fs) ≡ Some f → (b ≡ true → x ≡ f → A)
    → (b ≡ false → foremost fs ≡ Some f → A) → A
at_first true x f fs n g h = g refl (ap (λ o. unwrap_or o x) n)
at_first false x f fs n g h = h refl n

at_none : (b : Bool) (x : Failure) (fs : List Failure) → foremost (cond b (x ∷ []) [] ++ fs) ≡ None
    → (b ≡ false) × (foremost fs ≡ None)
at_none true x fs n = absurd cc
at_none false x fs n = (refl, n)

module _ (t : Tree) where
  codes_first : (before es : List IndexEntry) (f : Failure)
      → distinct_codes (flat_map counting before)
      → foremost (repeated_codes t (flat_map counting before) es) ≡ Some f
      → (f.rule ≡ DuplicateUnicode) × IsFirstRepeatedCode t (before ++ es) f.place
  codes_first before [] f h n = absurd cc
  codes_first before (e ∷ es) f h n =
      let x : Failure = record { rule = DuplicateUnicode; place = place_at t e.node } in
      at_first (repeats (flat_map counting before) (counting e)) x f
      (repeated_codes t (flat_map counting before ++ counting e) es) n
      (λ b q. (
        sym (ap (λ y. y.rule) q),
        record {
          before = before;
          entry = e;
          behind = es;
          in_order = refl;
          distinct = h;
          again
              = repeated (flat_map counting before) (counting e) b;
          there
              = sym (ap (λ y. y.place) q);
        },
      ))
      (λ b q. subst (λ all. (f.rule ≡ DuplicateUnicode) × IsFirstRepeatedCode t all f.place)
      (append_assoc before (e ∷ []) es)
      (codes_first (before ++ e ∷ []) es f (subst distinct_codes (sym (flat_last before e))
      (unrepeated (flat_map counting before) (counting e) h b))
      (ap (λ seen. foremost (repeated_codes t seen es)) (flat_last before e) ∙ q)))

  codes_none : (before es : List IndexEntry) → distinct_codes (flat_map counting before)
      → foremost (repeated_codes t (flat_map counting before) es) ≡ None
      → distinct_codes (flat_map counting (before ++ es))
  codes_none before [] h n = subst (λ all. distinct_codes (flat_map counting all))
      (sym (append-nil before)) h
  codes_none before (e ∷ es) h n =
      let x : Failure = record { rule = DuplicateUnicode; place = place_at t e.node } in
      let parts = at_none (repeats (flat_map counting before) (counting e)) x
      (repeated_codes t (flat_map counting before ++ counting e) es) n in
      subst (λ all. distinct_codes (flat_map counting all)) (append_assoc before (e ∷ []) es)
      (codes_none (before ++ e ∷ []) es (subst distinct_codes (sym (flat_last before e))
      (unrepeated (flat_map counting before) (counting e) h parts.0))
      (ap (λ seen. foremost (repeated_codes t seen es)) (flat_last before e) ∙ parts.1))

-- ---- names

abbrev distinct_names : List (List ℕ) → Type 0
distinct_names = IsDistinct (pointwise nat_eq)

module _ (t : Tree) where
  names_last : (before : List ℕ) (g : ℕ) → map (glyph_name t) (before ++ g ∷ [])
      ≡ map (glyph_name t) before ++ glyph_name t g ∷ []
  names_last before g = map-append (glyph_name t) before (g ∷ [])

  names_first : (before gs : List ℕ) (f : Failure) → distinct_names (map (glyph_name t) before)
      → foremost (repeated_names t (map (glyph_name t) before) gs) ≡ Some f
      → (f.rule ≡ DuplicateGlyph) × IsFirstRepeatedName t (before ++ gs) f.place
  names_first before [] f h n = absurd cc
  names_first before (g ∷ gs) f h n =
      let x : Failure = record { rule = DuplicateGlyph; place = place_at t g } in
      at_first (is_among (glyph_name t g) (map (glyph_name t) before)) x f
      (repeated_names t (map (glyph_name t) before ++ glyph_name t g ∷ []) gs) n
      (λ b q. (
        sym (ap (λ y. y.rule) q),
        record {
          before = before;
          glyph = g;
          behind = gs;
          in_order = refl;
          distinct = h;
          again = b;
          there
              = sym (ap (λ y. y.place) q);
        },
      ))
      (λ b q. subst (λ all. (f.rule ≡ DuplicateGlyph) × IsFirstRepeatedName t all f.place)
      (append_assoc before (g ∷ []) gs)
      (names_first (before ++ g ∷ []) gs f (subst distinct_names (sym (names_last before g))
      (distinct_last (pointwise nat_eq) nat_list_eq_equiv (map (glyph_name t) before)
      (glyph_name t g) h b))
      (ap (λ names. foremost (repeated_names t names gs)) (names_last before g) ∙ q)))

  names_none : (before gs : List ℕ) → distinct_names (map (glyph_name t) before)
      → foremost (repeated_names t (map (glyph_name t) before) gs) ≡ None
      → distinct_names (map (glyph_name t) (before ++ gs))
  names_none before [] h n = subst (λ all. distinct_names (map (glyph_name t) all))
      (sym (append-nil before)) h
  names_none before (g ∷ gs) h n =
      let x : Failure = record { rule = DuplicateGlyph; place = place_at t g } in
      let parts = at_none (is_among (glyph_name t g) (map (glyph_name t) before)) x
      (repeated_names t (map (glyph_name t) before ++ glyph_name t g ∷ []) gs) n in
      subst (λ all. distinct_names (map (glyph_name t) all)) (append_assoc before (g ∷ []) gs)
      (names_none (before ++ g ∷ []) gs (subst distinct_names (sym (names_last before g))
      (distinct_last (pointwise nat_eq) nat_list_eq_equiv (map (glyph_name t) before)
      (glyph_name t g) h parts.0))
      (ap (λ names. foremost (repeated_names t names gs)) (names_last before g) ∙ parts.1))

  keys_entries : (k : ℕ) (gs : List ℕ) → keys_of (entries_from t k gs) ≡ map (glyph_name t) gs
  keys_entries k [] = refl
  keys_entries k (g ∷ gs) = ap (λ names. glyph_name t g ∷ names) (keys_entries (k + 1) gs)

-- the codes of entries with their names are those of the entries
codes_of : (index : List (List ℕ × IndexEntry))
    → flat_map counting (map (λ entry. entry.1) index) ≡ flat_map (λ entry. counting entry.1) index
codes_of [] = refl
codes_of (e ∷ es) =
    flat_map-cons counting e.1 (map (λ entry. entry.1) es)
    ∙ ap (λ cs. counting e.1 ++ cs) (codes_of es)
    ∙ sym (flat_map-cons (λ entry. counting entry.1) e es)

-- ---- what the job answers

other_rule : ¬ (DuplicateGlyph ≡ DuplicateUnicode)
other_rule e = absurd cc

abbrev ok_or : {X : Type 0} → Result X Refusal → X → X
ok_or (Ok x) y = x
ok_or (Err r) y = y

abbrev refused_by : {X : Type 0} → Result X Refusal → Refusal → Refusal
refused_by (Ok x) r = r
refused_by (Err r) other = r

module _ (t : Tree) where
  abbrev all_entries : List (List ℕ × IndexEntry)
  all_entries = entries_from t 0 (glyph_numbers t)

  abbrev name_again : Option Failure
  name_again = foremost (repeated_names t [] (glyph_numbers t))

  abbrev code_again : Option Failure
  code_again = foremost (repeated_codes t [] (map (λ entry. entry.1) all_entries))

  without : (local names again : Option Failure) → names ≡ name_again → again ≡ code_again
      → (index : List (List ℕ × IndexEntry))
      → judged (refusal_of INDEX []) local (or_next names again) all_entries ≡ Ok index
      → IsWithoutRepeats index
  without (Some f) names again n a index e = absurd cc
  without None (Some f) again n a index e = absurd cc
  without None None (Some f) n a index e = absurd cc
  without None None None n a index e = subst IsWithoutRepeats (ap (λ x. ok_or x index) e) (record {
    names = subst distinct_names (sym (keys_entries t 0 (glyph_numbers t)))
        (names_none t [] (glyph_numbers t) (none_distinct (pointwise nat_eq)) (sym n));
    codes = subst distinct_codes (codes_of all_entries)
        (codes_none t [] (map (λ entry. entry.1) all_entries) (none_distinct nat_eq) (sym a));
  })

  tells : (local names again : Option Failure) → local ≡ first_of (index_failures t)
      → names ≡ name_again → again ≡ code_again → (r : Refusal)
      → judged (refusal_of INDEX []) local (or_next names again) all_entries ≡ Err r
      → TellsRepeat t r
  tells (Some f) names again l n a r e =
      let other = first_local t f (sym l) in
      subst (TellsRepeat t) (ap (λ x. refused_by x r) e)
      (record { name = λ h. absurd (other.0 h); code = λ h. absurd (other.1 h) })
  tells None (Some f) again l n a r e =
      let first = names_first t [] (glyph_numbers t) f (none_distinct (pointwise nat_eq)) (sym n) in
      subst (TellsRepeat t) (ap (λ x. refused_by x r) e)
      (record { name = λ h. first.1; code = λ h. absurd (other_rule (sym first.0 ∙ h)) })
  tells None None (Some f) l n a r e =
      let first = codes_first t [] (map (λ entry. entry.1) all_entries) f (none_distinct nat_eq)
      (sym a) in
      subst (TellsRepeat t) (ap (λ x. refused_by x r) e)
      (record { name = λ h. absurd (other_rule (sym h ∙ first.0)); code = λ h. first.1 })
  tells None None None l n a r e = absurd cc

  -- an index that is read has no repeats
  pub index_without : (index : List (List ℕ × IndexEntry)) → index_of t ≡ Ok index
      → IsWithoutRepeats index
  unfolding index_of
  index_without index e = without (first_of (index_failures t)) name_again code_again refl refl
      index e

  -- and a refusal tells the first repeat
  pub refusal_tells : (r : Refusal) → index_of t ≡ Err r → TellsRepeat t r
  unfolding index_of
  refusal_tells r e = tells (first_of (index_failures t)) name_again code_again refl refl refl r e

-- the same of what a call answers
pub read_without : (t : Tree) (result : Result (List (List ℕ × IndexEntry)) ReadError)
    → Gives (λ index. index) result (index_of t) → IfOk result IsWithoutRepeats
read_without t (Ok index) g = index_without t index g
read_without t (Err error) g = tt

pub read_tells : (t : Tree) (result : Result (List (List ℕ × IndexEntry)) ReadError)
    → Gives (λ index. index) result (index_of t) → IfErr result (TellsRepeatOf t)
read_tells t (Ok index) g = tt
read_tells t (Err (read_errors.Refused r)) g = refusal_tells t r g
read_tells t (Err read_errors.NoMemory) g = tt
