-- The delta that is refused is the first outside an i16.
use Rattle.std.proofs.Common.{◌≡◌, ℕ, zero, suc, ◌+◌, ◌<◌, true, false, ⊎_elim, List, [], ◌∷◌, sym}
use Rattle.std.proofs.Common.{ap, ◌∙◌, arith, length, get_or, subst, ℤ, pos, FitsSigned, Some, None}
use Rattle.std.proofs.Common.{Result, Ok, Err, Vec}
use Rattle.std.proofs.lemmas.Bool.{cases_Bool, cond-true, cond-false}
use Rattle.std.proofs.lemmas.Int.{ints}
use Rattle.std.specs.Prelude.{EachIndex}
use Rattle.std.specs.Int.{w16}
use Rattle.std.specs.declared.alloc.Global.{Global}
use Rattle.variation_model.specs.Deltas.{GivesDeltas, RefusesDeltas, first_large, is_storable}
use Rattle.variation_model.specs.Laws.{IsFirstOutside, RefusesFirst, RefusesFirstOutside}
use Rattle.variation_model.specs.declared.errors.DeltaError.{DeltaError}
use Rattle.variation_model.specs.declared.errors.DeltaError.TheVariants as delta_errors

storable_fits : (d : ℤ) → is_storable d ≡ true → FitsSigned w16 d
storable_fits d e = grind (arith, ints)

fits_storable : (d : ℤ) → FitsSigned w16 d → is_storable d ≡ true
fits_storable d f = grind (arith, ints)

not_storable : (d : ℤ) → is_storable d ≡ false → FitsSigned w16 d → ⊥
not_storable d e f = let storable = fits_storable d f in cc

-- counted from a number on
abbrev FirstFrom : ℕ → List ℤ → ℕ → ℤ → Type 0
FirstFrom n deltas at value = (j : ℕ) × (at ≡ n + j) × IsFirstOutside deltas j value

first_here : (n : ℕ) (delta : ℤ) (deltas : List ℤ) (at : ℕ) (value : ℤ) → is_storable delta ≡ false
    → ◌≡◌ {A = ℕ × ℤ} (n, delta) (at, value) → FirstFrom n (delta ∷ deltas) at value
first_here n delta deltas at value e f =
    let number : n ≡ at = ap (λ (p : ℕ × ℤ). p.0) f in
    let same : delta ≡ value = ap (λ (p : ℕ × ℤ). p.1) f in
    let start : at ≡ n + 0 = omega arith in
    let P : ℤ → Type 0 = λ z. FitsSigned w16 z → ⊥ in
    let first : IsFirstOutside (delta ∷ deltas) 0 value = record {
      within = omega arith;
      there = same;
      outside = subst P same (not_storable delta e);
      before = λ k h. absurd (omega arith);
    } in
    (0, start, first)

fits_before : (delta : ℤ) (deltas : List ℤ) (j : ℕ) → FitsSigned w16 delta
    → ((k : ℕ) → k < j → FitsSigned w16 (get_or deltas k (pos 0))) → (k : ℕ) → k < suc j
    → FitsSigned w16 (get_or (delta ∷ deltas) k (pos 0))
fits_before delta deltas j f g zero h = f
fits_before delta deltas j f g (suc k) h = g k (omega arith)

first_later : (n : ℕ) (delta : ℤ) (deltas : List ℤ) (at : ℕ) (value : ℤ) → is_storable delta ≡ true
    → FirstFrom (n + 1) deltas at value → FirstFrom n (delta ∷ deltas) at value
first_later n delta deltas at value e f =
    let start : at ≡ n + suc f.0 = omega (arith, f.1) in
    let later = f.2 in
    let first : IsFirstOutside (delta ∷ deltas) (suc f.0) value = record {
      within = omega (arith, later.within);
      there = later.there;
      outside = later.outside;
      before = fits_before delta deltas f.0 (storable_fits delta e) later.before;
    } in
    (suc f.0, start, first)

pair_of : (p q : ℕ × ℤ) → Some p ≡ Some q → p ≡ q
pair_of p q e = cc

first_from : (n : ℕ) (deltas : List ℤ) (at : ℕ) (value : ℤ)
    → first_large n deltas ≡ Some (at, value) → FirstFrom n deltas at value
first_from n [] at value e = cc
first_from n (delta ∷ deltas) at value e =
    ⊎_elim
    (λ h. first_later n delta deltas at value h
    (first_from (n + 1) deltas at value (sym
    (cond-true (is_storable delta) (first_large (n + 1) deltas) (Some (n, delta)) h) ∙ e)))
    (λ h. first_here n delta deltas at value h
    (pair_of (n, delta) (at, value) (sym (cond-false (is_storable delta)
    (first_large (n + 1) deltas) (Some (n, delta)) h) ∙ e)))
    (cases_Bool (is_storable delta))

none_from : (n : ℕ) (deltas : List ℤ) → first_large n deltas ≡ None
    → EachIndex deltas (λ k. FitsSigned w16 (get_or deltas k (pos 0)))
none_from n [] e = λ k h. absurd (omega arith)
none_from n (delta ∷ deltas) e =
    ⊎_elim
    (λ h. λ k l. fits_before delta deltas (length deltas) (storable_fits delta h)
    (none_from (n + 1) deltas (sym (cond-true (is_storable delta) (first_large (n + 1) deltas)
    (Some (n, delta)) h) ∙ e)) k l)
    (λ h. λ k l. let refused = sym (cond-false (is_storable delta) (first_large (n + 1) deltas)
    (Some (n, delta)) h) ∙ e in cc)
    (cases_Bool (is_storable delta))

refused_first : (e : DeltaError) (deltas : List ℤ) → RefusesDeltas e deltas → RefusesFirst e deltas
refused_first (delta_errors.TooLarge at value) deltas given =
    let first = first_from 0 deltas at value given in
    let P : ℕ → Type 0 = λ n. IsFirstOutside deltas n value in
    let same : first.0 ≡ at = omega (arith, first.1) in
    subst P same first.2
refused_first delta_errors.NoMemory deltas given = tt

pub given_refuses_first : (result : Result (Vec ℤ Global) DeltaError) (deltas : List ℤ)
    → GivesDeltas result deltas → RefusesFirstOutside result deltas
given_refuses_first (Ok answer) deltas given = none_from 0 deltas given.1
given_refuses_first (Err e) deltas given = refused_first e deltas given
