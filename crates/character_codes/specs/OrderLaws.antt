-- An order that begins with one glyph and goes on with others in the order of the file is over the
-- index: for the proofs of crates that make such an order.
use Rattle.std.proofs.Common.{◌≡◌, ◌≢◌, ℕ, zero, suc, ◌+◌, Bool, true, false, List, []}
use Rattle.std.proofs.Common.{◌∷◌, map, Option, Some, None, true≢false, refl, sym, ap, ◌∙◌}
use Rattle.std.proofs.Common.{subst, arith}
use Rattle.std.specs.Prelude.{if◌then◌else◌}
use Rattle.std.specs.Option.{option_map}
use Rattle.std.specs.List.{All, AllPairs, slice_get}
use Rattle.std.proofs.lemmas.List.Elements.{All-nil, All-cons, All-head, All-tail, All-map}
use Rattle.std.proofs.lemmas.List.Elements.{All-weaker}
use Rattle.std.proofs.lemmas.Option.{same_Some}
use Rattle.character_codes.specs.CharacterCodes.{Entry}
use Rattle.character_codes.specs.Laws.{IsExportedAt, AreDifferent, IsOrderOver}

-- ---- glyphs that pass a test, with their numbers, of entries numbered from a number on

module _ (test : Entry → Bool) where
  -- the first of them
  abbrev pub first_from : ℕ → List Entry → Option (ℕ × Entry)
  first_from number [] = None
  first_from number (entry ∷ entries) = if test entry then Some (number, entry) else first_from
      (number + 1) entries

  -- all of them
  abbrev pub chosen_from : ℕ → List Entry → List (ℕ × Entry)
  chosen_from number [] = []
  chosen_from number (entry ∷ entries) =
      if test entry then (number, entry)
      ∷ chosen_from (number + 1) entries else chosen_from (number + 1) entries

-- the numbers of an order that begins with a glyph, or with one that the compiler made, and goes on
-- with others
abbrev pub numbers_with : Option (ℕ × Entry) → List (ℕ × Entry) → List (Option ℕ)
numbers_with first others = option_map (λ glyph. glyph.0) first
    ∷ map (λ glyph. Some glyph.0) others

-- ---- where they stand

-- a glyph stands among entries that are numbered from a number on, and passes a test
pub record Stands (test : Entry → Bool) (number : ℕ) (entries : List Entry) (glyph : ℕ × Entry)
    : Type 0 where
  pub place : ℕ
  pub counted : glyph.0 ≡ number + place
  pub there : slice_get entries place ≡ Some glyph.1
  pub passes : test glyph.1 ≡ true

module _ (test : Entry → Bool) where
  deeper : (number : ℕ) (entry : Entry) (entries : List Entry) (glyph : ℕ × Entry)
      → Stands test (number + 1) entries glyph → Stands test number (entry ∷ entries) glyph
  deeper number entry entries glyph s =
      let counted = s.counted in record {
        place = suc s.place;
        counted = omega (arith, counted);
        there = s.there;
        passes = s.passes;
      }

  here : (number : ℕ) (entry : Entry) (entries : List Entry) → test entry ≡ true
      → Stands test number (entry ∷ entries) (number, entry)
  here number entry entries e = record {
    place = 0;
    counted = omega arith;
    there = refl;
    passes = e;
  }

  first_step : (b : Bool) (number : ℕ) (entry : Entry) (entries : List Entry) (glyph : ℕ × Entry)
      → test entry ≡ b
      → (first_from test (number + 1) entries ≡ Some glyph → Stands test (number + 1) entries glyph)
      → (if b then Some (number, entry) else first_from test (number + 1) entries) ≡ Some glyph
      → Stands test number (entry ∷ entries) glyph
  first_step true number entry entries glyph t further e =
      subst (Stands test number (entry ∷ entries)) (same_Some (number, entry) glyph e)
      (here number entry entries t)
  first_step false number entry entries glyph t further e =
      deeper number entry entries glyph (further e)

  pub first_stands : (number : ℕ) (entries : List Entry) (glyph : ℕ × Entry)
      → first_from test number entries ≡ Some glyph → Stands test number entries glyph
  first_stands number [] glyph e = absurd cc
  first_stands number (entry ∷ entries) glyph e =
      first_step (test entry) number entry entries glyph refl
      (first_stands (number + 1) entries glyph) e

  chosen_step : (b : Bool) (number : ℕ) (entry : Entry) (entries : List Entry) → test entry ≡ b
      → All (Stands test (number + 1) entries) (chosen_from test (number + 1) entries)
      → All (Stands test number (entry ∷ entries))
      (if b then (number, entry)
      ∷ chosen_from test (number + 1) entries else chosen_from test (number + 1) entries)
  chosen_step b number entry entries t h = by b t
    where
      others : All (Stands test number (entry ∷ entries)) (chosen_from test (number + 1) entries)
      others = All-weaker (Stands test (number + 1) entries) (Stands test number (entry ∷ entries))
          (deeper number entry entries) (chosen_from test (number + 1) entries) h

      by : (b : Bool) → test entry ≡ b → All (Stands test number (entry ∷ entries))
          (if b then (number, entry)
          ∷ chosen_from test (number + 1) entries else chosen_from test (number + 1) entries)
      by true t = All-cons (Stands test number (entry ∷ entries)) (number, entry)
          (chosen_from test (number + 1) entries) (here number entry entries t) others
      by false t = others

  pub chosen_stand : (number : ℕ) (entries : List Entry)
      → All (Stands test number entries) (chosen_from test number entries)
  chosen_stand number [] = All-nil (Stands test number [])
  chosen_stand number (entry ∷ entries) =
      chosen_step (test entry) number entry entries refl (chosen_stand (number + 1) entries)

-- ---- no number stands twice

pairs_cons : (x : Option ℕ) (xs : List (Option ℕ)) → All (AreDifferent x) xs
    → AllPairs AreDifferent xs → AllPairs AreDifferent (x ∷ xs)
pairs_cons x xs h p i zero d lt within = absurd (omega (arith, lt))
pairs_cons x xs h p zero (suc j) d lt within = h j d (omega (arith, within))
pairs_cons x xs h p (suc i) (suc j) d lt within =
    p i j d (omega (arith, lt)) (omega (arith, within))

module _ (test : Entry → Bool) where
  different_step : (b : Bool) (number : ℕ) (entry : Entry) (entries : List Entry)
      → AllPairs AreDifferent
      (map (λ glyph. Some glyph.0) (chosen_from test (number + 1) entries))
      → AllPairs AreDifferent (map (λ glyph. Some glyph.0)
      (if b then (number, entry)
      ∷ chosen_from test (number + 1) entries else chosen_from test (number + 1) entries))
  different_step true number entry entries h =
      let rest = chosen_from test (number + 1) entries in
      pairs_cons (Some number) (map (λ glyph. Some glyph.0) rest)
      (All-map (AreDifferent (Some number)) (λ (glyph : ℕ × Entry). Some glyph.0) rest
      (All-weaker (Stands test (number + 1) entries) (λ glyph. number ≢ glyph.0)
      (λ glyph s e. let counted = s.counted in absurd (omega (arith, e, counted)))
      rest (chosen_stand test (number + 1) entries))) h
  different_step false number entry entries h = h

  chosen_different : (number : ℕ) (entries : List Entry)
      → AllPairs AreDifferent (map (λ glyph. Some glyph.0) (chosen_from test number entries))
  chosen_different number [] = λ i j d lt within. absurd (omega (arith, within))
  chosen_different number (entry ∷ entries) =
      different_step (test entry) number entry entries (chosen_different (number + 1) entries)

-- ---- the order

pub at_zero : (test : Entry → Bool) (index : List Entry) (glyph : ℕ × Entry)
    → Stands test 0 index glyph → slice_get index glyph.0 ≡ Some glyph.1
at_zero test index glyph s =
    let counted = s.counted in
    let place : s.place ≡ glyph.0 = omega (arith, counted) in
    subst (λ n. slice_get index n ≡ Some glyph.1) place s.there

-- what is so of each entry is so of the one at a number
pub all_at : (P : Entry → Type 0) (entries : List Entry) (n : ℕ) (entry : Entry) → All P entries
    → slice_get entries n ≡ Some entry → P entry
all_at P [] n entry h e = absurd cc
all_at P (first ∷ entries) zero entry h e = subst P (same_Some first entry e)
    (All-head P first entries h)
all_at P (first ∷ entries) (suc n) entry h e = all_at P entries n entry
    (All-tail P first entries h) e

-- It begins with the first glyph that passes one test, and goes on with those that pass another.
-- Where a glyph passes the one or the other, it is exported, and none passes both.
module _ (is_first is_other : Entry → Bool) (index : List Entry)
    (first_exported : All (λ entry. is_first entry ≡ true → entry.1.exported ≡ true) index)
    (other_exported : (entry : Entry) → is_other entry ≡ true → entry.1.exported ≡ true)
    (other_later : (entry : Entry) → is_other entry ≡ true → is_first entry ≡ false) where
  exported_first : (first : Option (ℕ × Entry)) → first_from is_first 0 index ≡ first
      → IsExportedAt index (option_map (λ glyph. glyph.0) first)
  exported_first None e = tt
  exported_first (Some glyph) e =
      let s = first_stands is_first 0 index glyph e in
      let there = at_zero is_first index glyph s in (
        glyph.1,
        there,
        all_at (λ entry. is_first entry ≡ true → entry.1.exported ≡ true) index glyph.0 glyph.1
            first_exported there s.passes,
      )

  exported_others : All (IsExportedAt index)
      (map (λ glyph. Some glyph.0) (chosen_from is_other 0 index))
  exported_others = All-map (IsExportedAt index) (λ (glyph : ℕ × Entry). Some glyph.0)
      (chosen_from is_other 0 index)
      (All-weaker (Stands is_other 0 index) (λ glyph. IsExportedAt index (Some glyph.0))
      (λ glyph s. (glyph.1, at_zero is_other index glyph s, other_exported glyph.1 s.passes))
      (chosen_from is_other 0 index) (chosen_stand is_other 0 index))

  different_first : (first : Option (ℕ × Entry)) → first_from is_first 0 index ≡ first
      → All (AreDifferent (option_map (λ glyph. glyph.0) first))
      (map (λ glyph. Some glyph.0) (chosen_from is_other 0 index))
  different_first None e = All-map (AreDifferent None) (λ (glyph : ℕ × Entry). Some glyph.0)
      (chosen_from is_other 0 index) (λ k d lt. tt)
  different_first (Some glyph) e =
      let s = first_stands is_first 0 index glyph e in
      All-map (AreDifferent (Some glyph.0)) (λ (other : ℕ × Entry). Some other.0)
      (chosen_from is_other 0 index)
      (All-weaker (Stands is_other 0 index) (λ other. glyph.0 ≢ other.0)
      (λ other o same.
      let one : glyph.1 ≡ other.1 = same_Some glyph.1 other.1
      (sym (at_zero is_first index glyph s) ∙ ap (slice_get index) same
      ∙ at_zero is_other index other o) in
      true≢false (sym s.passes ∙ ap is_first one ∙ other_later other.1 o.passes))
      (chosen_from is_other 0 index) (chosen_stand is_other 0 index))

  pub order_is_over : IsOrderOver index
      (numbers_with (first_from is_first 0 index) (chosen_from is_other 0 index))
  order_is_over =
      let first = first_from is_first 0 index in
      let number = option_map (λ glyph. glyph.0) first in
      let others = map (λ glyph. Some glyph.0) (chosen_from is_other 0 index) in
      record {
        exported = All-cons (IsExportedAt index) number others (exported_first first refl)
            exported_others;
        different = pairs_cons number others (different_first first refl)
            (chosen_different is_other 0 index);
      }
