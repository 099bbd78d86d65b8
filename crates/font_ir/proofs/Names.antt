-- The place of a name in a list that a set keeps.
use Rattle.std.proofs.Common.{◌≡◌, ℕ, suc, ◌+◌, Bool, true, false, cond, not, ◌||◌, ◌&&◌, List, []}
use Rattle.std.proofs.Common.{◌∷◌, ◌++◌, ◌≤◌, length, map, is_some, Option, Some, None, ltb, refl}
use Rattle.std.proofs.Common.{ap, sym, ◌∙◌, subst, arith}
use Rattle.std.specs.Prelude.{if◌then◌else◌}
use Rattle.std.specs.List.{All, position, position_or_len, prefix_len, list_any, IsDistinct}
use Rattle.std.specs.List.{AllByRecursion}
use Rattle.std.specs.Cmp.Lexicographic.{pointwise}
use Rattle.std.proofs.lemmas.Bool.Decides.{nat_tests}
use Rattle.std.proofs.lemmas.List.{length-map, map-append}
use Rattle.std.proofs.lemmas.List.Elements.{All-push}
use Rattle.refusal_codes.specs.declared.limits.TheConstants.{NAME_BYTES}

prefix_len-map : {A B : Type 0} (p : B → Bool) (f : A → B) (xs : List A)
    → prefix_len p (map f xs) ≡ prefix_len (λ x. p (f x)) xs
prefix_len-map p f [] = refl
prefix_len-map p f (x ∷ xs) = ap (λ n. cond (p (f x)) (1 + n) 0) (prefix_len-map p f xs)

-- the place n, where it is below the length m
abbrev place_below : ℕ → ℕ → Option ℕ
place_below n m = cond (ltb n m) (Some n) None

-- to search what f makes of a list is to search the list by f
pub position-map : {A B : Type 0} (p : B → Bool) (f : A → B) (xs : List A)
    → position p (map f xs) ≡ position (λ x. p (f x)) xs
position-map p f xs =
    ap (λ n. place_below n (length (map f xs))) (prefix_len-map (λ y. not (p y)) f xs)
    ∙ ap (place_below (position_or_len (λ x. p (f x)) xs)) (length-map xs f)

step : (b : Bool) (n m : ℕ) → ltb (cond (not b) (1 + n) 0) (suc m) ≡ (b || ltb n m)
step true n m = grind (arith, nat_tests)
step false n m = grind (arith, nat_tests)

passes : {A : Type 0} (p : A → Bool) (xs : List A)
    → ltb (position_or_len p xs) (length xs) ≡ list_any p xs
passes p [] = refl
passes p (x ∷ xs) = step (p x) (position_or_len p xs) (length xs)
    ∙ ap (λ found. p x || found) (passes p xs)

is_some-cond : (b : Bool) (n : ℕ) → is_some (cond b (Some n) None) ≡ b
is_some-cond true n = refl
is_some-cond false n = refl

-- whether a search finds a place
pub is_some-position : {A : Type 0} (p : A → Bool) (xs : List A)
    → is_some (position p xs) ≡ list_any p xs
is_some-position p xs = is_some-cond (ltb (position_or_len p xs) (length xs)) (position_or_len p xs)
    ∙ passes p xs

-- whether a name has a place, where the names are what f makes of a list
pub is_some-position_map : {A B : Type 0} (p : B → Bool) (f : A → B) (xs : List A)
    → is_some (position p (map f xs)) ≡ list_any (λ x. p (f x)) xs
is_some-position_map p f xs = ap is_some (position-map p f xs) ∙ is_some-position (λ x. p (f x)) xs

AllByRecursion-map : {A B : Type 0} (P : B → Type 0) (f : A → B) (xs : List A)
    → AllByRecursion (λ x. P (f x)) xs → AllByRecursion P (map f xs)
AllByRecursion-map P f [] h = tt
AllByRecursion-map P f (x ∷ xs) h = (h.0, AllByRecursion-map P f xs h.1)

-- what differs by f is different under f
pub IsDistinct-map : {A B : Type 0} (e : B → B → Bool) (f : A → B) (xs : List A)
    → IsDistinct (λ a b. e (f a) (f b)) xs → IsDistinct e (map f xs)
unfolding IsDistinct
IsDistinct-map e f [] h = tt
IsDistinct-map e f (x ∷ xs) h = (
  AllByRecursion-map (λ y. e (f x) y ≡ false) f xs h.0,
  IsDistinct-map e f xs h.1,
)

-- to compare by f is to compare what f makes
pub pointwise-map : {A B : Type 0} (e : B → B → Bool) (f : A → B) (xs ys : List A)
    → pointwise (λ a b. e (f a) (f b)) xs ys ≡ pointwise e (map f xs) (map f ys)
pointwise-map e f [] [] = refl
pointwise-map e f [] (y ∷ ys) = refl
pointwise-map e f (x ∷ xs) [] = refl
pointwise-map e f (x ∷ xs) (y ∷ ys) = ap (λ same. e (f x) (f y) && same) (pointwise-map e f xs ys)

-- the second of two tests decides where the first passed
pub and_second : (a b x y : Bool) → x ≡ true → x ≡ a → y ≡ b → y ≡ (a && b)
and_second a b x y t e f = f ∙ ap (λ first. first && b) (sym t ∙ e)

abbrev IsShort : List ℕ → Type 0
IsShort name = length name ≤ NAME_BYTES

-- with a short name more, where it isn't there, all are short
short_kept : {A : Type 0} (f : A → List ℕ) (found : Bool) (keys : List A) (key : A)
    → All IsShort (map f keys) → IsShort (f key)
    → All IsShort (map f (if found then keys else keys ++ key ∷ []))
short_kept f true keys key h k = h
short_kept f false keys key h k = subst (All IsShort) (sym (map-append f keys (key ∷ [])))
    (All-push IsShort (map f keys) (f key) h k)

pub short_inserted : {A : Type 0} (f : A → List ℕ) (found : Bool) (keys new : List A) (key : A)
    → new ≡ (if found then keys else keys ++ key ∷ [])
    → All IsShort (map f keys) → IsShort (f key) → All IsShort (map f new)
short_inserted f found keys new key e h k = subst (λ (ks : List _). All IsShort (map f ks)) (sym e)
    (short_kept f found keys key h k)
