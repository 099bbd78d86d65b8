-- What is computed as the least and the greatest of numbers is their least and their greatest.
use Rattle.std.proofs.Common.{◌≡◌, zero, suc, ℤ, ◌≤ℤ◌, ◌⊎◌, inl, inr, Bool, true, false, cond}
use Rattle.std.proofs.Common.{int_lt, List, [], ◌∷◌, refl, sym, ◌∙◌, arith}
use Rattle.std.proofs.lemmas.Int.{ints, clamps}
use Rattle.std.proofs.lemmas.List.Elements.{All-from_recursion}
use Rattle.std.specs.List.{fold, AllByRecursion, Contains}
use Rattle.std.specs.Int.{int_min, int_max}
use Rattle.font_ir.specs.Extremes.{least, greatest, IsLeast, IsGreatest}

-- the first of two numbers or the second
min_either : (x y : ℤ) → (int_min x y ≡ x) ⊎ (int_min x y ≡ y)
min_either x y = by (int_lt y x)
  where
    by : (t : Bool) → (cond t y x ≡ x) ⊎ (cond t y x ≡ y)
    by true = inr refl
    by false = inl refl

min_members : (x : ℤ) (xs : List ℤ) → Contains (x ∷ xs) (fold int_min x xs)
min_members x [] = (0, omega arith, refl)
min_members x (y ∷ ys) = by (min_members (int_min x y) ys) (min_either x y)
  where
    by : Contains (int_min x y ∷ ys) (fold int_min (int_min x y) ys)
        → (int_min x y ≡ x) ⊎ (int_min x y ≡ y)
        → Contains (x ∷ y ∷ ys) (fold int_min (int_min x y) ys)
    by (zero, h, e) (inl f) = (0, omega arith, sym f ∙ e)
    by (zero, h, e) (inr f) = (1, omega arith, sym f ∙ e)
    by (suc k, h, e) f = (suc (suc k), omega (arith, h), e)

min_bound : (x bound : ℤ) (xs : List ℤ) → x ≤ℤ bound → fold int_min x xs ≤ℤ bound
min_bound x bound [] h = h
min_bound x bound (y ∷ ys) h = min_bound (int_min x y) bound ys (omega (arith, ints, clamps, h))

min_all : (x : ℤ) (xs : List ℤ) → AllByRecursion (λ other. fold int_min x xs ≤ℤ other) xs
min_all x [] = tt
min_all x (y ∷ ys) = (
  min_bound (int_min x y) y ys (omega (arith, ints, clamps)),
  min_all
      (int_min x y) ys,
)

-- the first of two numbers or the second
max_either : (x y : ℤ) → (int_max x y ≡ x) ⊎ (int_max x y ≡ y)
max_either x y = by (int_lt y x)
  where
    by : (t : Bool) → (cond t x y ≡ x) ⊎ (cond t x y ≡ y)
    by true = inl refl
    by false = inr refl

max_members : (x : ℤ) (xs : List ℤ) → Contains (x ∷ xs) (fold int_max x xs)
max_members x [] = (0, omega arith, refl)
max_members x (y ∷ ys) = by (max_members (int_max x y) ys) (max_either x y)
  where
    by : Contains (int_max x y ∷ ys) (fold int_max (int_max x y) ys)
        → (int_max x y ≡ x) ⊎ (int_max x y ≡ y)
        → Contains (x ∷ y ∷ ys) (fold int_max (int_max x y) ys)
    by (zero, h, e) (inl f) = (0, omega arith, sym f ∙ e)
    by (zero, h, e) (inr f) = (1, omega arith, sym f ∙ e)
    by (suc k, h, e) f = (suc (suc k), omega (arith, h), e)

max_bound : (x bound : ℤ) (xs : List ℤ) → bound ≤ℤ x → bound ≤ℤ fold int_max x xs
max_bound x bound [] h = h
max_bound x bound (y ∷ ys) h = max_bound (int_max x y) bound ys (omega (arith, ints, clamps, h))

max_all : (x : ℤ) (xs : List ℤ) → AllByRecursion (λ other. other ≤ℤ fold int_max x xs) xs
max_all x [] = tt
max_all x (y ∷ ys) = (
  max_bound (int_max x y) y ys (omega (arith, ints, clamps)),
  max_all
      (int_max x y) ys,
)

pub least_is : (x : ℤ) (xs : List ℤ) → IsLeast (x ∷ xs) (least (x ∷ xs))
least_is x xs = record {
  there = min_members x xs;
  none_below = All-from_recursion (λ other. fold int_min x xs ≤ℤ other) (x ∷ xs)
      (min_bound x x xs (omega (arith, ints)), min_all x xs);
}

pub greatest_is : (x : ℤ) (xs : List ℤ) → IsGreatest (x ∷ xs) (greatest (x ∷ xs))
greatest_is x xs = record {
  there = max_members x xs;
  none_above = All-from_recursion (λ other. other ≤ℤ fold int_max x xs) (x ∷ xs)
      (max_bound x x xs (omega (arith, ints)), max_all x xs);
}
