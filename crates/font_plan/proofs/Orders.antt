-- What is read for each number of a font's order is what is read of each glyph of the index, behind
-- what is made.
use Rattle.std.proofs.Common.{◌≡◌, ℕ, zero, suc, ◌<◌, ◌+◌, List, [], ◌∷◌, ◌++◌, map}
use Rattle.std.proofs.Common.{length, Option, Some, None, refl, sym, ap, ◌∙◌}
use Rattle.std.proofs.Common.{subst, arith, get_or}
use Rattle.std.specs.Prelude.{IsSome, option_and_then}
use Rattle.std.specs.List.{All, AllByRecursion}
use Rattle.std.specs.Option.{option_map}
use Rattle.std.proofs.lemmas.List.{length-map}
use Rattle.font_graph.specs.Graph.{all_of}
use Rattle.character_codes.specs.CharacterCodes.{Entry}
use Rattle.font_plan.specs.Order.{others_from, notdef_from, order_in}
use Rattle.font_plan.specs.Order.{number_of, numbers_in, behind_made, order_or_refused}
use Rattle.font_plan.specs.Order.{too_many_glyphs}
use Rattle.refusal_codes.specs.declared.limits.TheConstants.{GLYPHS}
use Rattle.std.proofs.lemmas.Bool.Decides.{nat_tests}
use Rattle.std.specs.Prelude.{if◌then◌else◌, nat_lt}
use Rattle.std.proofs.Common.{◌≤◌, Bool, true, false, Ok, Err}
use Rattle.font_ir.specs.Glyphs.{Glyphs}
use Rattle.font_plan.specs.Reading.{number_read}

-- ---- lists

pub all_by : {X : Type 0} (P : X → Type 0) (xs : List X) → AllByRecursion P xs → All P xs
all_by P [] all = λ k d w. absurd (omega (arith, w))
all_by {X} P (x ∷ xs) all = λ k d w. at (all_by P xs all.1) k d w
  where
    at : All P xs → (k : ℕ) (d : X) → k < length (x ∷ xs) → P (get_or (x ∷ xs) k d)
    at rest zero d w = all.0
    at rest (suc k) d w = rest k d (omega (arith, w))

pub by_all : {X : Type 0} (P : X → Type 0) (xs : List X) → All P xs → AllByRecursion P xs
by_all P [] all = tt
by_all P (x ∷ xs) all = (
  all 0 x (omega arith),
  by_all P xs (λ k d w. all (suc k) d (omega (arith, w))),
)

pub by_all_map : {X Y : Type 0} (P : Y → Type 0) (f : X → Y) (xs : List X)
    → All (λ x. P (f x)) xs → AllByRecursion P (map f xs)
by_all_map P f [] all = tt
by_all_map P f (x ∷ xs) all = (
  all 0 x (omega arith),
  by_all_map P f xs (λ k d w. all (suc k) d (omega (arith, w))),
)

pub some_there : {A : Type 0} (o : Option A) → IsSome o → (a : A) × (o ≡ Some a)
some_there (Some a) is = (a, refl)
some_there None is = absurd cc

pub same_some : {A : Type 0} (a b : A) → Some a ≡ Some b → a ≡ b
same_some a b e = cc

pub all_some : {A : Type 0} (xs : List A) → all_of (map Some xs) ≡ Some xs
all_some [] = refl
all_some (x ∷ xs) = ap (option_and_then (λ rest. Some (x ∷ rest))) (all_some xs)

-- what is read one by one is what is read of all
pub same_values : {A B : Type 0} (f : B → Option A) (xs : List B) (found values : List A)
    → map Some found ≡ map f xs → all_of (map f xs) ≡ Some values → found ≡ values
same_values f xs found values e a = same_some found values
    (sym (all_some found) ∙ ap all_of e ∙ a)

pub each_some : {A B : Type 0} (f : B → Option A) (xs : List B) → IsSome (all_of (map f xs))
    → AllByRecursion (λ x. IsSome (f x)) xs
each_some f [] is = tt
each_some {A} f (x ∷ xs) is = one (f x) refl (each_some f xs) is
  where
    rest : (a : A) (o : Option (List A)) → IsSome (option_and_then (λ more. Some (a ∷ more)) o)
        → IsSome o
    rest a None g = absurd cc
    rest a (Some more) g = refl

    one : (o : Option A) → f x ≡ o
        → (IsSome (all_of (map f xs)) → AllByRecursion (λ y. IsSome (f y)) xs)
        → IsSome (all_of (o ∷ map f xs)) → AllByRecursion (λ y. IsSome (f y)) (x ∷ xs)
    one None e others h = absurd cc
    one (Some a) e others h = (
      subst IsSome (sym e) refl,
      others (rest a (all_of (map f xs)) h),
    )

pub each_value : {A B : Type 0} (f : B → Option A) (xs : List B) (values : List A)
    → all_of (map f xs) ≡ Some values → map Some values ≡ map f xs
each_value f [] values e =
    let same : [] ≡ values = cc in ap (map Some) (sym same)
each_value {A} f (x ∷ xs) values e = one (f x) refl (each_value f xs) e
  where
    rest : (a : A) (o : Option (List A)) → all_of (map f xs) ≡ o
        → option_and_then (λ more. Some (a ∷ more)) o ≡ Some values
        → ((more : List A) → all_of (map f xs) ≡ Some more → map Some more ≡ map f xs)
        → map Some values ≡ Some a ∷ map f xs
    rest a None is g others = absurd cc
    rest a (Some more) is g others =
        let same : a ∷ more ≡ values = cc in
        ap (map Some) (sym same) ∙ ap (λ xs. Some a ∷ xs) (others more is)

    one : (o : Option A) → f x ≡ o
        → ((more : List A) → all_of (map f xs) ≡ Some more → map Some more ≡ map f xs)
        → all_of (o ∷ map f xs) ≡ Some values → map Some values ≡ map f (x ∷ xs)
    one None is others h = absurd cc
    one (Some a) is others h =
        rest a (all_of (map f xs)) refl h others ∙ ap (λ o. o ∷ map f xs) (sym is)

-- ---- the numbers of an order

abbrev entries : Option (ℕ × Entry) → List (ℕ × Entry) → List (Option ℕ)
entries first others = option_map (λ glyph. glyph.0) first ∷ map (λ glyph. Some glyph.0) others

abbrev numbers : Option (ℕ × Entry) → List (ℕ × Entry) → List ℕ
numbers first others = number_of first ++ map (λ glyph. glyph.0) others

module _ {A : Type 0} (made : A) (read : ℕ → Option A) where
  others_read : (others : List (ℕ × Entry))
      → map (number_read made read) (map (λ glyph. Some glyph.0) others)
      ≡ map read (map (λ glyph. glyph.0) others)
  others_read [] = refl
  others_read (glyph ∷ others) = ap (λ rest. read glyph.0 ∷ rest) (others_read others)

  behind : (first : Option (ℕ × Entry)) (others : List (ℕ × Entry)) (found values : List A)
      → map Some found ≡ map (number_read made read) (entries first others)
      → all_of (map read (numbers first others)) ≡ Some values
      → found ≡ behind_made (entries first others) made values
  behind (Some glyph) others found values e a = same_values read (glyph.0 ∷ map (λ g. g.0) others)
      found values (e ∙ ap (λ rest. read glyph.0 ∷ rest) (others_read others)) a
  behind None others [] values e a = absurd cc
  behind None others (one ∷ found) values e a =
      let same : one ≡ made = cc in
      let rest : map Some found ≡ map (number_read made read) (map (λ glyph. Some glyph.0) others)
      = cc in
      ap (λ x. x ∷ found) same ∙ ap (λ xs. made ∷ xs)
      (same_values read (map (λ g. g.0) others) found values (rest ∙ others_read others) a)

  some_others : (others : List (ℕ × Entry))
      → AllByRecursion (λ n. IsSome (read n)) (map (λ glyph. glyph.0) others)
      → AllByRecursion (λ n. IsSome (number_read made read n)) (map (λ glyph. Some glyph.0) others)
  some_others [] all = tt
  some_others (glyph ∷ others) all = (all.0, some_others others all.1)

  some_entries : (first : Option (ℕ × Entry)) (others : List (ℕ × Entry))
      → IsSome (all_of (map read (numbers first others)))
      → AllByRecursion (λ n. IsSome (number_read made read n)) (entries first others)
  some_entries None others is = (
    refl,
    some_others others (each_some read (map (λ glyph. glyph.0) others) is),
  )
  some_entries (Some glyph) others is =
      let all = each_some read (glyph.0 ∷ map (λ g. g.0) others) is in
      (all.0, some_others others all.1)

  -- what is read for each number of the order
  pub read_behind : (index : List Entry) (found values : List A)
      → map Some found ≡ map (number_read made read) (order_in index).numbers
      → all_of (map read (numbers_in index)) ≡ Some values
      → found ≡ behind_made (order_in index).numbers made values
  read_behind index found values e a =
      behind (notdef_from 0 index) (others_from 0 index) found values e a

  pub read_there : (index : List Entry) → IsSome (all_of (map read (numbers_in index)))
      → All (λ n. IsSome (number_read made read n)) (order_in index).numbers
  read_there index is = all_by (λ n. IsSome (number_read made read n)) (order_in index).numbers
      (some_entries (notdef_from 0 index) (others_from 0 index) is)

  -- as many as there are names
  pub read_count : (index : List Entry) (found : List A)
      → map Some found ≡ map (number_read made read) (order_in index).numbers
      → length found ≡ length (order_in index).names
  read_count index found e =
      sym (length-map found Some) ∙ ap length e
      ∙ length-map (order_in index).numbers (number_read made read)
      ∙ ap suc (length-map (others_from 0 index) (λ (glyph : ℕ × Entry). Some glyph.0)
      ∙ sym (length-map (others_from 0 index) (λ (glyph : ℕ × Entry). glyph.1.0)))

-- ---- how many there are

count_others : (others : List (ℕ × Entry)) → length (map (λ glyph. glyph.0) others)
    ≡ length (map (λ glyph. glyph.1.0) others)
count_others others = length-map others (λ (glyph : ℕ × Entry). glyph.0)
    ∙ sym (length-map others (λ (glyph : ℕ × Entry). glyph.1.0))

pub given_count : (index : List Entry) (number : ℕ)
    → Some number ≡ option_map (λ glyph. glyph.0) (notdef_from 0 index)
    → length (numbers_in index) ≡ length (order_in index).names
given_count index number e = by (notdef_from 0 index) e
  where
    by : (first : Option (ℕ × Entry)) → Some number ≡ option_map (λ glyph. glyph.0) first
        → length (numbers first (others_from 0 index)) ≡ length (order_in index).names
    by None f = absurd cc
    by (Some glyph) f = ap suc (count_others (others_from 0 index))

pub made_count : (index : List Entry)
    → None ≡ option_map (λ glyph. glyph.0) (notdef_from 0 index)
    → length (numbers_in index) + 1 ≡ length (order_in index).names
made_count index e = by (notdef_from 0 index) e
  where
    by : (first : Option (ℕ × Entry)) → None ≡ option_map (λ glyph. glyph.0) first
        → length (numbers first (others_from 0 index)) + 1 ≡ length (order_in index).names
    by None f = omega (arith, count_others (others_from 0 index))
    by (Some glyph) f = absurd cc

-- no more numbers than names, and no more names than a font may have
pub numbers_few : (index : List Entry)
    → length (numbers_in index) ≤ length (order_in index).names
numbers_few index = by (notdef_from 0 index)
  where
    by : (first : Option (ℕ × Entry))
        → length (numbers first (others_from 0 index)) ≤ length (order_in index).names
    by None = omega (arith, count_others (others_from 0 index))
    by (Some glyph) = omega (arith, count_others (others_from 0 index))

pub order_few : (index : List Entry) (order : Glyphs) → order_or_refused index ≡ Ok order
    → length (order_in index).names ≤ GLYPHS
order_few index order e = by (nat_lt GLYPHS (length (order_in index).names)) refl e
  where
    by : (b : Bool) → nat_lt GLYPHS (length (order_in index).names) ≡ b
        → (if b then Err (too_many_glyphs (length (order_in index).names))
        else Ok (order_in index)) ≡ Ok order → length (order_in index).names ≤ GLYPHS
    by true is f = absurd cc
    by false is f = grind (arith, nat_tests)
