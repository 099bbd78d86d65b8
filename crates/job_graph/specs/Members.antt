-- What stands in a list: lemmas that serve the laws of plans, and no contract. fontc's own.
use Rattle.std.proofs.Common.{◌≡◌, ℕ, zero, suc, ◌+◌, ◌<◌, Bool, true, false, cond, ◌⊎◌, inl, inr}
use Rattle.std.proofs.Common.{List, [], ◌∷◌, ◌++◌, map, length, get_or, drop, Some, refl, sym, ap}
use Rattle.std.proofs.Common.{◌∙◌, subst, arith}
use Rattle.std.specs.List.{list_all, list_any, flat_map, filter, find, Contains, slice_get}
use Rattle.std.proofs.Math.Seq.{drop-cons}
use Rattle.std.proofs.lemmas.Bool.{and_parts, and_from, or_cases, or_left, or_right, false≢true}

abbrev pub In : {X : Type 0} → X → List X → Type 0
In x [] = ⊥
In x (y ∷ ys) = (y ≡ x) ⊎ In x ys

module _ {X : Type 0} where
  pub In-append_left : (xs ys : List X) (x : X) → In x xs → In x (xs ++ ys)
  In-append_left [] ys x h = absurd h
  In-append_left (y ∷ xs) ys x h = elim h [ inl e ↦ inl e | inr i ↦ inr (In-append_left xs ys x i) ]

  pub In-append_right : (xs ys : List X) (x : X) → In x ys → In x (xs ++ ys)
  In-append_right [] ys x h = h
  In-append_right (y ∷ xs) ys x h = inr (In-append_right xs ys x h)

  pub In-append_cases : (xs ys : List X) (x : X) → In x (xs ++ ys) → In x xs ⊎ In x ys
  In-append_cases [] ys x h = inr h
  In-append_cases (y ∷ xs) ys x h =
      elim h [
        | inl e ↦ inl (inl e)
        | inr i ↦ elim (In-append_cases xs ys x i) [ inl l ↦ inl (inr l) | inr r ↦ inr r ]
      ]

  pub list_all-In : (p : X → Bool) (xs : List X) (x : X) → list_all p xs ≡ true → In x xs
      → p x ≡ true
  list_all-In p [] x a h = absurd h
  list_all-In p (y ∷ ys) x a h =
      elim h [
        | inl e ↦ sym (ap p e) ∙ (and_parts (p y) (list_all p ys) a).0
        | inr i ↦ list_all-In p ys x (and_parts (p y) (list_all p ys) a).1 i
      ]

  -- between this form and std's
  In-at : (xs : List X) (x : X) (k : ℕ) → k < length xs → get_or xs k x ≡ x → In x xs
  In-at [] x k lt e = absurd (omega arith)
  In-at (y ∷ ys) x zero lt e = inl e
  In-at (y ∷ ys) x (suc k) lt e = inr (In-at ys x k (omega arith) e)

  pub In-from_Contains : (xs : List X) (x : X) → Contains xs x → In x xs
  In-from_Contains xs x c = In-at xs x c.0 c.1 c.2

  pub Contains-from_In : (xs : List X) (x : X) → In x xs → Contains xs x
  Contains-from_In [] x h = absurd h
  Contains-from_In (y ∷ ys) x h =
      elim h [
        | inl e ↦ (0, omega arith, e)
        | inr i ↦ let c = Contains-from_In ys x i in (suc c.0, omega (arith, c.1), c.2)
      ]

pub slice_get-In : {X : Type 0} (xs : List X) (i : ℕ) (x : X) → slice_get xs i ≡ Some x → In x xs
slice_get-In [] i x e = cc
slice_get-In (y ∷ xs) zero x e = let s : y ≡ x = cc in inl s
slice_get-In (y ∷ xs) (suc i) x e = inr (slice_get-In xs i x e)

pub In-flat_map : {X Y : Type 0} (f : X → List Y) (xs : List X) (y : Y) → In y (flat_map f xs)
    → (x : X) × In x xs × In y (f x)
In-flat_map f [] y h = absurd h
In-flat_map f (x ∷ xs) y h =
    elim (In-append_cases (f x) (flat_map f xs) y h) [
      | inl l ↦ (x, inl refl, l)
      | inr r ↦ let m = In-flat_map f xs y r in (m.0, inr m.1, m.2)
    ]

module _ {X : Type 0} where
  pub In-filter : (p : X → Bool) (xs : List X) (x : X) → In x (filter p xs) → In x xs × (p x ≡ true)
  In-filter p [] x h = absurd h
  In-filter p (y ∷ ys) x h =
      elim (p y) as (λ b. p y ≡ b → In x (cond b (y ∷ filter p ys) (filter p ys))
      → In x (y ∷ ys) × (p x ≡ true)) [
        | true ↦ λ is h. elim h [
          | inl e ↦ (inl e, sym (ap p e) ∙ is)
          | inr i ↦ (inr (In-filter p ys x i).0, (In-filter p ys x i).1)
        ]
        | false ↦ λ is h. (inr (In-filter p ys x h).0, (In-filter p ys x h).1)
      ] refl h

  pub list_all-from : (p : X → Bool) (xs : List X) → ((x : X) → In x xs → p x ≡ true)
      → list_all p xs ≡ true
  list_all-from p [] all = refl
  list_all-from p (y ∷ ys) all = and_from (p y) (list_all p ys) (all y (inl refl))
      (list_all-from p ys (λ x i. all x (inr i)))

  pub list_any-In : (p : X → Bool) (xs : List X) (x : X) → In x xs → p x ≡ true
      → list_any p xs ≡ true
  list_any-In p [] x h e = absurd h
  list_any-In p (y ∷ ys) x h e =
      elim h [
        | inl same ↦ or_left (p y) (list_any p ys) (ap p same ∙ e)
        | inr i ↦ or_right (p y) (list_any p ys) (list_any-In p ys x i e)
      ]

  pub list_any-found : (p : X → Bool) (xs : List X) → list_any p xs ≡ true
      → (x : X) × In x xs × (p x ≡ true)
  list_any-found p [] e = absurd (false≢true e)
  list_any-found p (y ∷ ys) e =
      elim (or_cases (p y) (list_any p ys) e) [
        | inl here ↦ (y, inl refl, here)
        | inr there ↦ let f = list_any-found p ys there in (f.0, inr f.1, f.2)
      ]

  pub find-some : (p : X → Bool) (xs : List X) (x : X) → find p xs ≡ Some x → In x xs × (p x ≡ true)
  find-some p [] x e = cc
  find-some p (y ∷ ys) x e =
      elim (p y) as (λ b. p y ≡ b → cond b (Some y) (find p ys) ≡ Some x
      → In x (y ∷ ys) × (p x ≡ true)) [
        | true ↦ λ is e. let same : y ≡ x = cc in (inl same, sym (ap p same) ∙ is)
        | false ↦ λ is e. (inr (find-some p ys x e).0, (find-some p ys x e).1)
      ] refl e

  pub find-In : (p : X → Bool) (xs : List X) (x : X) → In x xs → p x ≡ true
      → (y : X) × (find p xs ≡ Some y)
  find-In p [] x h e = absurd h
  find-In p (y ∷ ys) x h e =
      elim (p y) as (λ b. p y ≡ b → (z : X) × (cond b (Some y) (find p ys) ≡ Some z)) [
        | true ↦ λ is. (y, refl)
        | false ↦ λ is. elim h [
          | inl same ↦ absurd (false≢true (sym is ∙ (ap p same ∙ e)))
          | inr i ↦ find-In p ys x i e
        ]
      ] refl

pub map_agree : {X Y : Type 0} (f g : X → Y) (xs : List X) → ((x : X) → In x xs → f x ≡ g x)
    → map f xs ≡ map g xs
map_agree f g [] agree = refl
map_agree f g (y ∷ ys) agree = λ i. agree y (inl refl) i
    ∷ map_agree f g ys (λ x h. agree x (inr h)) i

pub flat_map-In : {X Y : Type 0} (f : X → List Y) (xs : List X) (x : X) (y : Y) → In x xs
    → In y (f x) → In y (flat_map f xs)
flat_map-In f [] x y h i = absurd h
flat_map-In f (z ∷ xs) x y h i =
    elim h [
      | inl e ↦ In-append_left (f z) (flat_map f xs) y (subst (λ w. In y (f w)) (sym e) i)
      | inr there ↦ In-append_right (f z) (flat_map f xs) y (flat_map-In f xs x y there i)
    ]

find_here : {X : Type 0} (p : X → Bool) (y x : X) (ys : List X) → y ≡ x → p x ≡ true
    → find p (y ∷ ys) ≡ Some x
find_here p y x ys e is = ap (λ b. cond b (Some y) (find p ys)) (ap p e ∙ is) ∙ ap Some e

find_later : {X : Type 0} (p : X → Bool) (y x : X) (ys : List X) → y ≡ x → p x ≡ false
    → find p (y ∷ ys) ≡ find p ys
find_later p y x ys e is = ap (λ b. cond b (Some y) (find p ys)) (ap p e ∙ is)

-- a search that comes to an element
pub find_drop-found : {X : Type 0} (p : X → Bool) (xs : List X) (i : ℕ) (x : X) → i < length xs
    → x ≡ get_or xs i x → p x ≡ true → find p (drop i xs) ≡ Some x
find_drop-found p xs i x lt at is = ap (find p) (drop-cons xs i x lt)
    ∙ find_here p (get_or xs i x) x (drop (suc i) xs) (sym at) is

pub find_drop-passed : {X : Type 0} (p : X → Bool) (xs : List X) (i : ℕ) (x : X) → i < length xs
    → x ≡ get_or xs i x → p x ≡ false → find p (drop (i + 1) xs) ≡ find p (drop i xs)
find_drop-passed p xs i x lt at is =
    let s : i + 1 ≡ suc i = omega arith in
    ap (λ n. find p (drop n xs)) s ∙ sym (ap (find p) (drop-cons xs i x lt)
    ∙ find_later p (get_or xs i x) x (drop (suc i) xs) (sym at) is)
