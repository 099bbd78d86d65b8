-- Lists and the images of their elements: the first place that passes a test, and what is told of
-- all.
use Rattle.std.proofs.Common.{◌≡◌, ℕ, zero, suc, ◌+◌, Bool, true, false, cond, not, ◌||◌, List, []}
use Rattle.std.proofs.Common.{◌∷◌, ◌++◌, length, map, is_some, Option, Some, None, ltb}
use Rattle.std.proofs.Common.{refl, ap, sym, ◌∙◌, arith}
use Rattle.std.specs.Prelude.{slice_get}
use Rattle.std.specs.List.{position, position_or_len, prefix_len, list_any, flat_map}
use Rattle.std.specs.List.{range_with_len, IsDistinct, AllByRecursion}
use Rattle.std.proofs.lemmas.Bool.Decides.{nat_tests}
use Rattle.std.proofs.lemmas.List.{length-map, flat_map_more}

prefix_len-map : {A B : Type 0} (p : B → Bool) (f : A → B) (xs : List A)
    → prefix_len p (map f xs) ≡ prefix_len (λ x. p (f x)) xs
prefix_len-map p f [] = refl
prefix_len-map p f (x ∷ xs) = ap (λ n. cond (p (f x)) (1 + n) 0) (prefix_len-map p f xs)

-- the place n, where it is below the length m
abbrev place_below : ℕ → ℕ → Option ℕ
place_below n m = cond (ltb n m) (Some n) None

-- to search what f makes of a list is to search the list by f
pub position-map : {A B : Type 0} (p : B → Bool) (f : A → B) (xs : List A)
    → position p (map f xs) ≡ position (λ x. p (f x)) xs
position-map p f xs =
    ap (λ n. place_below n (length (map f xs))) (prefix_len-map (λ y. not (p y)) f xs)
    ∙ ap (place_below (position_or_len (λ x. p (f x)) xs)) (length-map xs f)

step : (b : Bool) (n m : ℕ) → ltb (cond (not b) (1 + n) 0) (suc m) ≡ (b || ltb n m)
step true n m = grind (arith, nat_tests)
step false n m = grind (arith, nat_tests)

passes : {A : Type 0} (p : A → Bool) (xs : List A)
    → ltb (position_or_len p xs) (length xs) ≡ list_any p xs
passes p [] = refl
passes p (x ∷ xs) = step (p x) (position_or_len p xs) (length xs)
    ∙ ap (λ found. p x || found) (passes p xs)

is_some-cond : (b : Bool) (n : ℕ) → is_some (cond b (Some n) None) ≡ b
is_some-cond true n = refl
is_some-cond false n = refl

-- whether a search finds a place
pub is_some-position : {A : Type 0} (p : A → Bool) (xs : List A)
    → is_some (position p xs) ≡ list_any p xs
is_some-position p xs = is_some-cond (ltb (position_or_len p xs) (length xs)) (position_or_len p xs)
    ∙ passes p xs

AllByRecursion-map : {A B : Type 0} (P : B → Type 0) (f : A → B) (xs : List A)
    → AllByRecursion (λ x. P (f x)) xs → AllByRecursion P (map f xs)
AllByRecursion-map P f [] h = tt
AllByRecursion-map P f (x ∷ xs) h = (h.0, AllByRecursion-map P f xs h.1)

-- what differs by f is different under f
pub IsDistinct-map : {A B : Type 0} (e : B → B → Bool) (f : A → B) (xs : List A)
    → IsDistinct (λ a b. e (f a) (f b)) xs → IsDistinct e (map f xs)
unfolding IsDistinct
IsDistinct-map e f [] h = tt
IsDistinct-map e f (x ∷ xs) h = (
  AllByRecursion-map (λ y. e (f x) y ≡ false) f xs h.0,
  IsDistinct-map e f xs h.1,
)

-- the last element stands behind the others
pub slice_get-last : {X : Type 0} (xs : List X) (x : X)
    → slice_get (xs ++ x ∷ []) (length xs) ≡ Some x
slice_get-last [] x = refl
slice_get-last (y ∷ xs) x = slice_get-last xs x

range_more : (a n j : ℕ) → a + n ≡ j → range_with_len a (suc n) ≡ range_with_len a n ++ j ∷ []
range_more a zero j e = let same : a ≡ j = omega arith in ap (λ k. k ∷ []) same
range_more a (suc n) j e = ap (λ l. a ∷ l) (range_more (a + 1) n j (omega arith))

-- what is told of the numbers from 0 on, and of one more
pub range_told_more : {X : Type 0} (f : ℕ → List X) (bs : List X) (n : ℕ)
    → (bs ++ flat_map f (range_with_len 0 n)) ++ f n ≡ bs ++ flat_map f (range_with_len 0 (n + 1))
range_told_more f bs n =
    let one_more : n + 1 ≡ suc n = omega arith in
    let front : range_with_len 0 n ++ n ∷ []
    ≡ range_with_len 0 (n + 1) = sym (ap (range_with_len 0) one_more
    ∙ range_more 0 n n (omega arith)) in
    flat_map_more f bs (range_with_len 0 n) n ∙ ap (λ numbers. bs ++ flat_map f numbers) front
