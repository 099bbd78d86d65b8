-- Two lists are compared an index at a time.
use Rattle.std.proofs.Common.{◌≡◌, ℕ, zero, suc, ◌+◌, ◌<◌, Bool, ◌&&◌, List, [], ◌∷◌, length, drop}
use Rattle.std.proofs.Common.{Option, Some, None, option_map, slice_get, not, true, false}
use Rattle.std.proofs.Common.{true≢false, refl, sym, ap, ◌∙◌, arith}
use Rattle.std.specs.Option.{option_eq}
use Rattle.std.specs.Ordering.{on}
use Rattle.std.specs.Cmp.Lexicographic.{pointwise}

pointwise-step : {K : Type 0} (test : K → K → Bool) (xs ys : List K) (i : ℕ) → i < length xs
    → length xs ≡ length ys
    → pointwise test (drop i xs) (drop i ys)
    ≡ (option_eq test (slice_get xs i) (slice_get ys i)
    && pointwise test (drop (suc i) xs) (drop (suc i) ys))
pointwise-step test [] ys i h e = absurd (omega (arith, h))
pointwise-step test (x ∷ xs) [] i h e = absurd (omega (arith, e))
pointwise-step test (x ∷ xs) (y ∷ ys) zero h e = refl
pointwise-step test (x ∷ xs) (y ∷ ys) (suc i) h e
    = pointwise-step test xs ys i (omega (arith, h)) (omega (arith, e))

pub option_eq-on : {J K : Type 0} (f : J → K) (test : K → K → Bool) (a b : Option J)
    → option_eq (on f test) a b ≡ option_eq test (option_map f a) (option_map f b)
option_eq-on f test None None = refl
option_eq-on f test None (Some b) = refl
option_eq-on f test (Some a) None = refl
option_eq-on f test (Some a) (Some b) = refl

-- what is left is the same exactly where the items at this index are and what is left behind them
-- is
pub pointwise-at : {J K : Type 0} (f : J → K) (test : K → K → Bool) (xs ys : List K) (i : ℕ)
    (a b : Option J)
    → option_map f a ≡ slice_get xs i → option_map f b ≡ slice_get ys i → i < length xs
    → length xs ≡ length ys
    → pointwise test (drop i xs) (drop i ys)
    ≡ (option_eq (on f test) a b && pointwise test (drop (i + 1) xs) (drop (i + 1) ys))
pointwise-at f test xs ys i a b p q h e =
    pointwise-step test xs ys i h e
    ∙ ap (λ j. option_eq test (slice_get xs i) (slice_get ys i)
    && pointwise test (drop j xs) (drop j ys)) (let n : suc i ≡ i + 1 = omega arith in n)
    ∙ ap (λ t. t && pointwise test (drop (i + 1) xs) (drop (i + 1) ys))
    (sym (option_eq-on f test a b ∙ ap (λ x. option_eq test x (option_map f b)) p
    ∙ ap (λ y. option_eq test (slice_get xs i) y) q))

pub differs : (t rest : Bool) → true ≡ not t → false ≡ (t && rest)
differs true rest h = absurd (true≢false h)
differs false rest h = refl

pub agrees : (t rest : Bool) → false ≡ not t → (t && rest) ≡ rest
agrees true rest h = refl
agrees false rest h = absurd (true≢false (sym h))
