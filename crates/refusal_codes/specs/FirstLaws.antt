-- Laws of the least failure.
use Rattle.std.proofs.Common.{◌≡◌, ℕ, zero, suc, Bool, true, false, ◌||◌, ◌&&◌, eqb, ltb, cond}
use Rattle.std.proofs.Common.{List, [], ◌∷◌, ◌++◌, Option, Some, None, refl, subst, arith}
use Rattle.std.specs.List.{AllByRecursion, Contains}
use Rattle.std.proofs.lemmas.Bool.Decides.{nat_tests}
use Rattle.refusal_codes.specs.Rules.{rule_number}
use Rattle.refusal_codes.specs.declared.first.Failure.{Failure}
use Rattle.refusal_codes.specs.First.{is_before, earlier, noted, first_of, IsFirst}

-- noting two lists is noting the one after the other
pub noted-append : (least : Option Failure) (xs ys : List Failure)
    → noted least (xs ++ ys) ≡ noted (noted least xs) ys
noted-append least [] ys = refl
noted-append least (x ∷ xs) ys = noted-append (Some (earlier least x)) xs ys

-- the same, as a set for the tactics
pub ruleset noting = (noted-append)

-- the order of places and numbers, on numbers alone
abbrev below : ℕ → ℕ → ℕ → ℕ → Bool
below p m q n = ltb p q || (eqb p q && ltb m n)

-- what is not below the lesser of two is below neither
not_below_first : (p m q n r k : ℕ) → below q n p m ≡ true → below q n r k ≡ false
    → below p m r k ≡ false
not_below_first p m q n r k lesser not = grind (arith, nat_tests)

not_below_second : (p m q n r k : ℕ) → below q n p m ≡ false → below p m r k ≡ false
    → below q n r k ≡ false
not_below_second p m q n r k not_lesser not = grind (arith, nat_tests)

here : (f : Failure) (fs : List Failure) → Contains (f ∷ fs) f
here f fs = (0, omega arith, refl)

further : (f g : Failure) (fs : List Failure) → Contains fs f → Contains (g ∷ fs) f
further f g fs (k, within, is) = (suc k, omega (arith, within), is)

-- a member of the list with one of two in front is a member with both in front
kept : (b : Bool) (least x f : Failure) (xs : List Failure) → Contains (cond b x least ∷ xs) f
    → Contains (least ∷ x ∷ xs) f
kept true least x f xs there = further f least (x ∷ xs) there
kept false least x f xs (zero, within, is) = (0, omega arith, is)
kept false least x f xs (suc k, within, is) = (suc (suc k), omega (arith, within), is)

not_before_itself : (f : Failure) → is_before f f ≡ false
not_before_itself f = not_below_itself f.place (rule_number f.rule)
  where
    not_below_itself : (p m : ℕ) → below p m p m ≡ false
    not_below_itself p m = grind (arith, nat_tests)

-- what comes before neither the lesser of two comes before both
neither : (b : Bool) (least x f : Failure) → is_before x least ≡ b
    → is_before (cond b x least) f ≡ false → (is_before least f ≡ false) × (is_before x f ≡ false)
neither true least x f lesser not = (
  not_below_first least.place (rule_number least.rule) x.place
      (rule_number x.rule) f.place (rule_number f.rule) lesser not,
  not,
)
neither false least x f lesser not = (
  not,
  not_below_second least.place (rule_number least.rule)
      x.place (rule_number x.rule) f.place (rule_number f.rule) lesser not,
)

noted_least : (least : Failure) (fs : List Failure) (f : Failure) → noted (Some least) fs ≡ Some f
    → Contains (least ∷ fs) f × (is_before least f ≡ false)
    × AllByRecursion (λ g. is_before g f ≡ false) fs
noted_least least [] f e =
    let same : least ≡ f = cc in
    subst (λ (g : Failure). Contains (least ∷ []) g × (is_before least g ≡ false) × Unit {0}) same
    (here least [], not_before_itself least, tt)
noted_least least (x ∷ xs) f e =
    let rest = noted_least (cond (is_before x least) x least) xs f e in
    let both = neither (is_before x least) least x f refl rest.1 in
    (kept (is_before x least) least x f xs rest.0, both.0, (both.1, rest.2))

-- the first of some failures is the least of them
pub first_is_least : (fs : List Failure) (f : Failure) → first_of fs ≡ Some f → IsFirst fs f
first_is_least [] f e = absurd cc
first_is_least (x ∷ xs) f e =
    let found = noted_least x xs f e in
    record { there = found.0; none_before = (found.1, found.2) }

-- and there is none only of no failures
pub first_of_none : (fs : List Failure) → first_of fs ≡ None → fs ≡ []
first_of_none [] e = refl
first_of_none (x ∷ xs) e = absurd (some_stays x xs e)
  where
    some_stays : (least : Failure) (fs : List Failure) → noted (Some least) fs ≡ None → ⊥
    some_stays least [] e = cc
    some_stays least (y ∷ ys) e = some_stays (cond (is_before y least) y least) ys e
