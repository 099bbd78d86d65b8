-- Steps of loops over two lists, and along one.
use Rattle.fixed_math.specs.declared.F2Dot14.{F2Dot14}
use Rattle.variation_model.specs.Places.{zero_number}
use Rattle.std.proofs.Common.{◌≡◌, ℕ, ◌+◌, ◌<◌, List, ◌∷◌, length, get_or, drop, add-one, drop-cons}

-- what is left of two lists, each with its next item
pub step_both : {A B R : Type 0} (f : List A → List B → R) (xs : List A) (ys : List B) (i : ℕ)
    (d : A) (e : B) → i < length xs → i < length ys
    → f (drop i xs) (drop i ys) ≡ f (get_or xs i d ∷ drop (i + 1) xs)
    (get_or ys i e ∷ drop (i + 1) ys)
step_both f xs ys i d e h k = rw (add-one, drop-cons xs i d, drop-cons ys i e)

-- what is left of one list, with its next item
pub step_one : {A R : Type 0} (f : List A → R) (xs : List A) (i : ℕ) (d : A) → i < length xs
    → f (drop i xs) ≡ f (get_or xs i d ∷ drop (i + 1) xs)
step_one f xs i d h = rw (add-one, drop-cons xs i d)

-- what is looked up past the end of a region
abbrev pub zero_side : F2Dot14 × F2Dot14 × F2Dot14
zero_side = (zero_number, zero_number, zero_number)
