-- Sums over the views of all seats.
use Rattle.std.proofs.Common.{◌≡◌, ◌≢◌, ℕ, zero, suc, ◌+◌, ◌≤◌, List, [], ◌∷◌, set, refl, sym, ap}
use Rattle.std.proofs.Common.{arith}
use Rattle.std.specs.List.{sum_by}
use Rattle.std.proofs.lemmas.List.Sums.{sum_by-cons}
use mathlib.Core.Option.{some, some-injective, some-ne-none}
use lib.ListN.{get_elem?}

module _ {A : Type 0} (f : A → ℕ) where
  pub total_set : (xs : List A) (i : ℕ) (x y : A) → get_elem? xs i ≡ some x
      → sum_by f (set xs i y) + f x ≡ sum_by f xs + f y
  total_set [] i x y at = absurd (some-ne-none x (sym at))
  total_set (z ∷ xs) zero x y at =
      let e : f z ≡ f x = ap f (some-injective z x at)
      in omega (arith, sum_by-cons f y xs, sum_by-cons f z xs)
  total_set (z ∷ xs) (suc i) x y at =
      omega (arith, sum_by-cons f z (set xs i y), sum_by-cons f z xs, total_set xs i x y at)

  pub total_same : (xs : List A) (i : ℕ) (x y : A) → get_elem? xs i ≡ some x → f y ≡ f x
      → sum_by f (set xs i y) ≡ sum_by f xs
  total_same xs i x y at e = omega (arith, total_set xs i x y at)

  pub one_le : (xs : List A) (i : ℕ) (x : A) → get_elem? xs i ≡ some x → f x ≤ sum_by f xs
  one_le [] i x at = absurd (some-ne-none x (sym at))
  one_le (z ∷ xs) zero x at = let e : f z ≡ f x = ap f (some-injective z x at)
      in omega (arith, sum_by-cons f z xs)
  one_le (z ∷ xs) (suc i) x at = omega (arith, sum_by-cons f z xs, one_le xs i x at)

  pub two_le : (xs : List A) (i j : ℕ) (x y : A) → i ≢ j → get_elem? xs i ≡ some x
      → get_elem? xs j ≡ some y → f x + f y ≤ sum_by f xs
  two_le [] i j x y apart at there = absurd (some-ne-none x (sym at))
  two_le (z ∷ xs) zero zero x y apart at there = absurd (apart refl)
  two_le (z ∷ xs) zero (suc j) x y apart at there =
      let e : f z ≡ f x = ap f (some-injective z x at)
      in omega (arith, sum_by-cons f z xs, one_le xs j y there)
  two_le (z ∷ xs) (suc i) zero x y apart at there =
      let e : f z ≡ f y = ap f (some-injective z y there)
      in omega (arith, sum_by-cons f z xs, one_le xs i x at)
  two_le (z ∷ xs) (suc i) (suc j) x y apart at there =
      omega (arith, sum_by-cons f z xs, two_le xs i j x y (λ e. apart (ap suc e)) at there)

  pub all_le : (g : A → ℕ) (xs : List A) → ((i : ℕ) (x : A) → get_elem? xs i ≡ some x → f x ≤ g x)
      → sum_by f xs ≤ sum_by g xs
  all_le g [] le = omega arith
  all_le g (z ∷ xs) le =
      omega (
        arith,
        sum_by-cons f z xs,
        sum_by-cons g z xs,
        le 0 z refl,
        all_le g xs
            (λ i x at. le (suc i) x at),
      )
