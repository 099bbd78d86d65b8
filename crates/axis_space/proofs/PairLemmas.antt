-- Pairs in their order: what the comparison says, that two lists in strict order with the same
-- members are one, and that what puts pairs in order keeps their members.
use Rattle.std.proofs.Common.{◌≡◌, ◌≢◌, ◌⊎◌, inl, inr, arith, refl, sym, ap, subst, ◌∙◌, ℤ, ◌<ℤ◌}
use Rattle.std.proofs.Common.{◌≤ℤ◌, Bool, true, ◌&&◌, List, [], ◌∷◌}
use Rattle.std.proofs.lemmas.Int.{ints}
use Rattle.std.proofs.lemmas.Cmp.{int_ranked, int_cmp_total, on_total, then_total, tied_itself}
use Rattle.std.proofs.lemmas.Cmp.{and_equiv, on_equiv, int_eq_equiv}
use Rattle.std.proofs.lemmas.List.Elements.{All-cons, All-nil, All-contains, Contains-append_right}
use Rattle.std.proofs.lemmas.List.Elements.{Contains-append_cases}
use Rattle.std.proofs.lemmas.List.Sorted.{IsPermutation-sym, Contains-permutation}
use Rattle.std.proofs.lemmas.List.Kept.{IsStrictlySortedBy-dedup, Contains-dedup}
use Rattle.std.proofs.lemmas.List.Kept.{Contains-from_dedup}
use Rattle.std.specs.Cmp.{IsTotalOrder, IsEquivalence, int_cmp_is, both_tied}
use Rattle.std.specs.List.{Contains, AllByRecursion, dedup}
use Rattle.std.specs.List.Sorted.{IsStrictlySortedBy, IsSorted, IsPermutation}
use Rattle.std.specs.Ordering.{int_cmp, int_eq, is_eq, ordering_then, ordering_reverse, eq_by_cmp}
use Rattle.std.specs.declared.cmp.Ordering.{Ordering}
use Rattle.std.specs.declared.cmp.Ordering.TheVariants.{Less, Equal, Greater}
use Rattle.font_ir.specs.AxisMaps.{Pair, pair, Rises}
use Rattle.axis_space.specs.AxisPairs.{pair_cmp, placed_by, with_pair, in_order}

-- the order

pub pair_cmp_total : IsTotalOrder pair_cmp
pair_cmp_total = then_total (on_total (λ (p : Pair). p.0.0) int_cmp_total)
    (on_total (λ (p : Pair). p.1.0) int_cmp_total)

pub same_pair : (p q : Pair) → p.0.0 ≡ q.0.0 → p.1.0 ≡ q.1.0 → p ≡ q
same_pair p q e f = ap (λ x. pair x p.1.0) e ∙ ap (λ y. pair q.0.0 y) f

then_equal : (a b : Ordering) → ordering_then a b ≡ Equal → (a ≡ Equal) × (b ≡ Equal)
then_equal Less b e = cc
then_equal Equal b e = (refl, e)
then_equal Greater b e = cc

then_less : (a b : Ordering) → ordering_then a b ≡ Less → (a ≡ Less) ⊎ ((a ≡ Equal) × (b ≡ Less))
then_less Less b e = inl refl
then_less Equal b e = inr (refl, e)
then_less Greater b e = cc

int_tied : (x y : ℤ) → int_cmp x y ≡ Equal → x ≡ y
int_tied x y e = int_ranked x y Equal (sym e)

int_below : (x y : ℤ) → int_cmp x y ≡ Less → x <ℤ y
int_below x y e = int_ranked x y Less (sym e)

-- pairs that compare equal are equal
pub tied : (p q : Pair) → pair_cmp p q ≡ Equal → p ≡ q
tied p q e =
    let parts = then_equal (int_cmp p.0.0 q.0.0) (int_cmp p.1.0 q.1.0) e in
    same_pair p q (int_tied p.0.0 q.0.0 parts.0) (int_tied p.1.0 q.1.0 parts.1)

-- a pair that comes before another is not above it by the first number
pub before : (p q : Pair) → pair_cmp p q ≡ Less → p.0.0 ≤ℤ q.0.0
before p q e =
    elim (then_less (int_cmp p.0.0 q.0.0) (int_cmp p.1.0 q.1.0) e) [
      | inl l ↦ let h = int_below p.0.0 q.0.0 l in omega (arith, ints)
      | inr t ↦ let h = int_tied p.0.0 q.0.0 t.0 in omega (arith, ints)
    ]

-- none comes before itself
pub not_before_itself : (p q : Pair) → pair_cmp p q ≡ Less → p ≢ q
not_before_itself p q e same =
    let itself : pair_cmp p p ≡ Equal = tied_itself pair_cmp_total p in
    let other : pair_cmp p p ≡ Less = ap (pair_cmp p) same ∙ e in
    cc

-- what rises comes before
pub before_from_rises : (p q : Pair) → Rises p q → pair_cmp p q ≡ Less
before_from_rises p q r = ap (λ o. ordering_then o (int_cmp p.1.0 q.1.0))
    (sym (int_cmp_is p.0.0 q.0.0 Less r.0))

-- membership

pub contains_head : (x : Pair) (xs : List Pair) → Contains (x ∷ xs) x
contains_head x xs = (0, omega arith, refl)

pub contains_tail : (x : Pair) (xs : List Pair) (y : Pair) → Contains xs y → Contains (x ∷ xs) y
contains_tail x xs y h = Contains-append_right (x ∷ []) xs y h

pub contains_none : (y : Pair) → ¬ (Contains [] y)
contains_none y (k, h, e) = absurd (omega arith)

only_one : (x y : Pair) → Contains (x ∷ []) y → x ≡ y
only_one x y h =
    let P : Pair → Type 0 = λ z. x ≡ z in
    All-contains P (x ∷ []) y (All-cons P x [] refl (All-nil P)) h

pub contains_cases : (x : Pair) (xs : List Pair) (y : Pair) → Contains (x ∷ xs) y
    → (x ≡ y) ⊎ Contains xs y
contains_cases x xs y h =
    elim (Contains-append_cases (x ∷ []) xs y h)
    [ inl one ↦ inl (only_one x y one) | inr more ↦ inr more ]

pub each_of : (P : Pair → Type 0) (xs : List Pair) (y : Pair) → AllByRecursion P xs → Contains xs y
    → P y
each_of P [] y all h = absurd (contains_none y h)
each_of P (x ∷ xs) y all h =
    elim (contains_cases x xs y h) [
      | inl e ↦ subst P e all.0
      | inr more ↦ each_of P xs y all.1 more
    ]

pub of_each : (P : Pair → Type 0) (xs : List Pair) → ((y : Pair) → Contains xs y → P y)
    → AllByRecursion P xs
of_each P [] f = tt
of_each P (x ∷ xs) f = (
  f x (contains_head x xs),
  of_each P xs
      (λ y h. f y (contains_tail x xs y h)),
)

-- lists in strict order

same_heads : (x y : Pair) (xs ys : List Pair) → AllByRecursion (λ z. pair_cmp x z ≡ Less) xs
    → AllByRecursion (λ z. pair_cmp y z ≡ Less) ys → (y ≡ x) ⊎ Contains ys x
    → (x ≡ y) ⊎ Contains xs y → x ≡ y
same_heads x y xs ys s t (inl e) g = sym e
same_heads x y xs ys s t (inr h) (inl e) = e
same_heads x y xs ys s t (inr h) (inr k) =
    let back : pair_cmp y x ≡ Less = each_of (λ z. pair_cmp y z ≡ Less) ys x t h in
    let on : pair_cmp x y ≡ Less = each_of (λ z. pair_cmp x z ≡ Less) xs y s k in
    absurd (not_before_itself x x (pair_cmp_total.trans x y x on back) refl)

tail_members : (x y : Pair) (xs ys : List Pair) → AllByRecursion (λ z. pair_cmp x z ≡ Less) xs
    → x ≡ y → ((p : Pair) → Contains (x ∷ xs) p → Contains (y ∷ ys) p) → (p : Pair) → Contains xs p
    → Contains ys p
tail_members x y xs ys s e into p h =
    elim (contains_cases y ys p (into p (contains_tail x xs p h))) [
      | inl same ↦ absurd (not_before_itself x p (each_of (λ z. pair_cmp x z ≡ Less) xs p s h)
          (e ∙ same))
      | inr more ↦ more
    ]

-- two of them with the same members are one
pub same_list : (xs ys : List Pair) → IsStrictlySortedBy pair_cmp xs
    → IsStrictlySortedBy pair_cmp ys → ((p : Pair) → Contains xs p → Contains ys p)
    → ((p : Pair) → Contains ys p → Contains xs p) → xs ≡ ys
unfolding IsStrictlySortedBy
same_list [] [] s t into back = refl
same_list [] (y ∷ ys) s t into back = absurd (contains_none y (back y (contains_head y ys)))
same_list (x ∷ xs) [] s t into back = absurd (contains_none x (into x (contains_head x xs)))
same_list (x ∷ xs) (y ∷ ys) s t into back =
    let e : x ≡ y = same_heads x y xs ys s.0 t.0
    (contains_cases y ys x (into x (contains_head x xs)))
    (contains_cases x xs y (back y (contains_head y ys))) in
    let tails : xs ≡ ys = same_list xs ys s.1 t.1 (tail_members x y xs ys s.0 e into)
    (tail_members y x ys xs t.0 (sym e) back) in
    ap (λ z. z ∷ xs) e ∙ ap (λ zs. y ∷ zs) tails

-- putting pairs in order

placed_from : (o : Ordering) (p q : Pair) (qs further : List Pair) (r : Pair)
    → (Contains further r → (p ≡ r) ⊎ Contains qs r) → Contains (placed_by o p q qs further) r
    → (p ≡ r) ⊎ Contains (q ∷ qs) r
placed_from Less p q qs further r f h = contains_cases p (q ∷ qs) r h
placed_from Equal p q qs further r f h = inr h
placed_from Greater p q qs further r f h =
    elim (contains_cases q further r h) [
      | inl e ↦ inr (subst (Contains (q ∷ qs)) e (contains_head q qs))
      | inr more ↦ elim (f more) [ inl e ↦ inl e | inr k ↦ inr (contains_tail q qs r k) ]
    ]

pub with_pair_from : (p : Pair) (qs : List Pair) (r : Pair) → Contains (with_pair p qs) r
    → (p ≡ r) ⊎ Contains qs r
with_pair_from p [] r h = inl (only_one p r h)
with_pair_from p (q ∷ qs) r h = placed_from (pair_cmp p q) p q qs (with_pair p qs) r
    (with_pair_from p qs r) h

placed_keeps : (o : Ordering) (p q : Pair) (qs further : List Pair) (r : Pair)
    → (Contains qs r → Contains further r) → Contains (q ∷ qs) r
    → Contains (placed_by o p q qs further) r
placed_keeps Less p q qs further r f h = contains_tail p (q ∷ qs) r h
placed_keeps Equal p q qs further r f h = h
placed_keeps Greater p q qs further r f h =
    elim (contains_cases q qs r h) [
      | inl e ↦ subst (Contains (q ∷ further)) e (contains_head q further)
      | inr more ↦ contains_tail q further r (f more)
    ]

pub with_pair_keeps : (p : Pair) (qs : List Pair) (r : Pair) → Contains qs r
    → Contains (with_pair p qs) r
with_pair_keeps p [] r h = absurd (contains_none r h)
with_pair_keeps p (q ∷ qs) r h = placed_keeps (pair_cmp p q) p q qs (with_pair p qs) r
    (with_pair_keeps p qs r) h

placed_has : (o : Ordering) (p q : Pair) (qs further : List Pair) → pair_cmp p q ≡ o
    → Contains further p → Contains (placed_by o p q qs further) p
placed_has Less p q qs further e h = contains_head p (q ∷ qs)
placed_has Equal p q qs further e h = subst (Contains (q ∷ qs)) (sym (tied p q e))
    (contains_head q qs)
placed_has Greater p q qs further e h = contains_tail q further p h

pub with_pair_has : (p : Pair) (qs : List Pair) → Contains (with_pair p qs) p
with_pair_has p [] = contains_head p []
with_pair_has p (q ∷ qs) = placed_has (pair_cmp p q) p q qs (with_pair p qs) refl
    (with_pair_has p qs)

reversed : (o : Ordering) (p q : Pair) → pair_cmp p q ≡ o → pair_cmp q p ≡ ordering_reverse o
reversed o p q e = pair_cmp_total.antisymm q p ∙ ap ordering_reverse e

placed_sorted : (o : Ordering) (p q : Pair) (qs further : List Pair) → pair_cmp p q ≡ o
    → IsStrictlySortedBy pair_cmp (q ∷ qs) → IsStrictlySortedBy pair_cmp further
    → ((r : Pair) → Contains further r → (p ≡ r) ⊎ Contains qs r)
    → IsStrictlySortedBy pair_cmp (placed_by o p q qs further)
unfolding IsStrictlySortedBy
placed_sorted Less p q qs further e s t f =
    let P : Pair → Type 0 = λ z. pair_cmp p z ≡ Less in (
      of_each P (q ∷ qs) (λ r h. elim (contains_cases q qs r h) [
        | inl same ↦ subst P same e
        | inr more ↦ pair_cmp_total.trans p q r e (each_of (λ z. pair_cmp q z ≡ Less) qs r s.0 more)
      ]),
      s,
    )
placed_sorted Equal p q qs further e s t f = s
placed_sorted Greater p q qs further e s t f =
    let P : Pair → Type 0 = λ z. pair_cmp q z ≡ Less in (
      of_each P further (λ r h. elim (f r h) [
        | inl same ↦ subst P same (reversed Greater p q e)
        | inr more ↦ each_of P qs r s.0 more
      ]),
      t,
    )

pub with_pair_sorted : (p : Pair) (qs : List Pair) → IsStrictlySortedBy pair_cmp qs
    → IsStrictlySortedBy pair_cmp (with_pair p qs)
unfolding IsStrictlySortedBy
with_pair_sorted p [] s = (tt, tt)
with_pair_sorted p (q ∷ qs) s =
    placed_sorted (pair_cmp p q) p q qs (with_pair p qs) refl s (with_pair_sorted p qs s.1)
    (with_pair_from p qs)

pub in_order_sorted : (ps : List Pair) → IsStrictlySortedBy pair_cmp (in_order ps)
unfolding IsStrictlySortedBy
in_order_sorted [] = tt
in_order_sorted (p ∷ ps) = with_pair_sorted p (in_order ps) (in_order_sorted ps)

pub in_order_keeps : (ps : List Pair) (r : Pair) → Contains ps r → Contains (in_order ps) r
in_order_keeps [] r h = h
in_order_keeps (p ∷ ps) r h =
    elim (contains_cases p ps r h) [
      | inl e ↦ subst (Contains (with_pair p (in_order ps))) e (with_pair_has p (in_order ps))
      | inr more ↦ with_pair_keeps p (in_order ps) r (in_order_keeps ps r more)
    ]

pub in_order_from : (ps : List Pair) (r : Pair) → Contains (in_order ps) r → Contains ps r
in_order_from [] r h = h
in_order_from (p ∷ ps) r h =
    elim (with_pair_from p (in_order ps) r h) [
      | inl e ↦ subst (Contains (p ∷ ps)) e (contains_head p ps)
      | inr more ↦ contains_tail p ps r (in_order_from ps r more)
    ]

-- what `==` answers at pairs
abbrev pub pair_eq : Pair → Pair → Bool
pair_eq p q = int_eq p.0.0 q.0.0 && int_eq p.1.0 q.1.0

pair_eq_equivalence : IsEquivalence pair_eq
pair_eq_equivalence = and_equiv (on_equiv (λ (p : Pair). p.0.0) int_eq_equiv)
    (on_equiv (λ (p : Pair). p.1.0) int_eq_equiv)

pair_eq_ties : (p q : Pair) → pair_eq p q ≡ eq_by_cmp pair_cmp p q
pair_eq_ties p q =
    both_tied (int_eq p.0.0 q.0.0) (int_eq p.1.0 q.1.0) (int_cmp p.0.0 q.0.0) (int_cmp p.1.0 q.1.0)
    refl refl

equal_from_is_eq : (o : Ordering) → is_eq o ≡ true → o ≡ Equal
equal_from_is_eq Less e = cc
equal_from_is_eq Equal e = refl
equal_from_is_eq Greater e = cc

pair_eq_same : (p q : Pair) → pair_eq p q ≡ true → p ≡ q
pair_eq_same p q e = tied p q (equal_from_is_eq (pair_cmp p q) (sym (pair_eq_ties p q) ∙ e))

-- what a sort and `dedup` leave is the list in order
pub sorted_is_in_order : (set sorted : List Pair) → IsPermutation set sorted
    → IsSorted pair_cmp sorted → dedup pair_eq sorted ≡ in_order set
sorted_is_in_order set sorted moved rises =
    same_list (dedup pair_eq sorted) (in_order set)
    (IsStrictlySortedBy-dedup pair_cmp_total pair_eq_ties sorted rises) (in_order_sorted set)
    (λ p h. in_order_keeps set p (Contains-permutation sorted set p
    (IsPermutation-sym set sorted moved) (Contains-from_dedup pair_eq sorted p h)))
    (λ p h. Contains-dedup pair_eq_equivalence pair_eq_same sorted p
    (Contains-permutation set sorted p moved (in_order_from set p h)))
