-- Ranks by counting: of items that all differ, each number below how many there are is the rank of
-- one.
use Rattle.std.proofs.Common.{◌≡◌, ◌≢◌, ℕ, zero, suc, ◌+◌, ◌-◌, ◌<◌, ◌≤◌, Bool, true, false, cond}
use Rattle.std.proofs.Common.{⊎_elim, List, [], ◌∷◌, refl, sym, arith, length, get_or, count_by}
use Rattle.std.proofs.Common.{subst}
use Rattle.std.proofs.lemmas.Bool.{cases_Bool, cases_order}
use Rattle.std.proofs.lemmas.List.Sums.{sum_by-cons, count_by-le-length}

-- an order of which one of two different items is less
pub record IsStrict {X : Type 0} (less : X → X → Bool) : Type 0 where
  pub irreflexive : (x : X) → less x x ≡ false
  pub transitive : (x y z : X) → less x y ≡ true → less y z ≡ true → less x z ≡ true
  pub total : (x y : X) → less x y ≡ false → less y x ≡ false → x ≡ y

-- how many are less than an item
abbrev pub rank : {X : Type 0} → (X → X → Bool) → List X → X → ℕ
rank less xs x = count_by (λ other. less other x) xs

rank-cons : {X : Type 0} (less : X → X → Bool) (y : X) (xs : List X) (x : X)
    → rank less (y ∷ xs) x ≡ cond (less y x) 1 0 + rank less xs x
rank-cons less y xs x = sum_by-cons (λ other. cond (less other x) 1 0) y xs

flag_true : (b : Bool) → b ≡ true → cond {A = ℕ} b 1 0 ≡ 1
flag_true true e = refl
flag_true false e = cc

flag_false : (b : Bool) → b ≡ false → cond {A = ℕ} b 1 0 ≡ 0
flag_false true e = cc
flag_false false e = refl

flag_grows : (a b : Bool) → (a ≡ true → b ≡ true) → cond a 1 0 ≤ cond b 1 0
flag_grows true b f = let e = flag_true b (f refl) in omega arith
flag_grows false b f = omega arith

-- a lesser item has no greater rank
pub rank_grows : {X : Type 0} (less : X → X → Bool) (laws : IsStrict less) (xs : List X) (x y : X)
    → less x y ≡ true → rank less xs x ≤ rank less xs y
rank_grows less laws [] x y e = omega arith
rank_grows less laws (z ∷ xs) x y e =
    let own = flag_grows (less z x) (less z y) (λ h. laws.transitive z x y h e) in
    let others = rank_grows less laws xs x y e in
    omega (arith, rank-cons less z xs x, rank-cons less z xs y, own, others)

-- and a smaller one where it is among those counted
pub rank_rises : {X : Type 0} (less : X → X → Bool) (laws : IsStrict less) (xs : List X) (i : ℕ)
    (d y : X) → i < length xs → less (get_or xs i d) y ≡ true
    → rank less xs (get_or xs i d) < rank less xs y
rank_rises less laws [] i d y h e = absurd (omega arith)
rank_rises less laws (x ∷ xs) zero d y h e =
    let none = flag_false (less x x) (laws.irreflexive x) in
    let one = flag_true (less x y) e in
    let others = rank_grows less laws xs x y e in
    omega (arith, rank-cons less x xs x, rank-cons less x xs y, none, one, others)
rank_rises less laws (x ∷ xs) (suc i) d y h e =
    let own = flag_grows (less x (get_or xs i d)) (less x y)
    (λ f. laws.transitive x (get_or xs i d) y f e) in
    let others = rank_rises less laws xs i d y (omega arith) e in
    omega (arith, rank-cons less x xs (get_or xs i d), rank-cons less x xs y, own, others)

-- an item that is counted isn't less than itself
pub rank_below : {X : Type 0} (less : X → X → Bool) (laws : IsStrict less) (xs : List X) (i : ℕ)
    (d : X) → i < length xs → rank less xs (get_or xs i d) < length xs
rank_below less laws [] i d h = absurd (omega arith)
rank_below less laws (x ∷ xs) zero d h =
    let none = flag_false (less x x) (laws.irreflexive x) in
    omega (arith, rank-cons less x xs x, none, count_by-le-length (λ other. less other x) xs)
rank_below less laws (x ∷ xs) (suc i) d h =
    let own = flag_grows (less x (get_or xs i d)) true (λ _. refl) in
    let others = rank_below less laws xs i d (omega arith) in
    omega (arith, rank-cons less x xs (get_or xs i d), own, others)

-- all items differ
abbrev pub AllDiffer : {X : Type 0} → List X → X → Type 0
AllDiffer xs d = (i j : ℕ) → i < j → j < length xs → get_or xs i d ≢ get_or xs j d

AllDiffer-tail : {X : Type 0} (x : X) (xs : List X) (d : X) → AllDiffer (x ∷ xs) d → AllDiffer xs d
AllDiffer-tail x xs d f i j h k = f (suc i) (suc j) (omega arith) (omega arith)

-- an item and its rank
abbrev pub HasRank : {X : Type 0} → (X → X → Bool) → List X → X → ℕ → Type 0
HasRank less xs d k = (i : ℕ) × (i < length xs) × (rank less xs (get_or xs i d) ≡ k)

below_first : {X : Type 0} (less : X → X → Bool) (laws : IsStrict less) (y : X) (xs : List X)
    (d : X) (k : ℕ) → k < rank less xs y → HasRank less xs d k → HasRank less (y ∷ xs) d k
below_first less laws y xs d k h r =
    let x = get_or xs r.0 d in
    let not_less : less y x ≡ false =
    ⊎_elim (λ e. let grows = rank_grows less laws xs y x e in absurd (omega (arith, r.2))) (λ e. e)
    (cases_Bool (less y x)) in
    let none = flag_false (less y x) not_less in
    let same : rank less (y ∷ xs) x ≡ k = omega (arith, rank-cons less y xs x, r.2, none) in
    let within : suc r.0 < length (y ∷ xs) = omega (arith, r.1) in
    (suc r.0, within, same)

above_first : {X : Type 0} (less : X → X → Bool) (laws : IsStrict less) (y : X) (xs : List X)
    (d : X) (k : ℕ) → AllDiffer (y ∷ xs) d → rank less xs y ≤ k → HasRank less xs d k
    → HasRank less (y ∷ xs) d (k + 1)
above_first less laws y xs d k f h r =
    let x = get_or xs r.0 d in
    let is_less : less y x ≡ true =
    ⊎_elim (λ e. e)
    (λ e. ⊎_elim
    (λ g. let rises = rank_rises less laws xs r.0 d y r.1 g in absurd (omega (arith, r.2)))
    (λ g. absurd (f 0 (suc r.0) (omega arith) (omega (arith, r.1)) (laws.total y x e g)))
    (cases_Bool (less x y)))
    (cases_Bool (less y x)) in
    let one = flag_true (less y x) is_less in
    let same : rank less (y ∷ xs) x ≡ k + 1 = omega (arith, rank-cons less y xs x, r.2, one) in
    let within : suc r.0 < length (y ∷ xs) = omega (arith, r.1) in
    (suc r.0, within, same)

own_rank : {X : Type 0} (less : X → X → Bool) (laws : IsStrict less) (y : X) (xs : List X) (d : X)
    → HasRank less (y ∷ xs) d (rank less xs y)
own_rank less laws y xs d =
    let none = flag_false (less y y) (laws.irreflexive y) in
    let same : rank less (y ∷ xs) y ≡ rank less xs y = omega (arith, rank-cons less y xs y, none) in
    let within : 0 < length (y ∷ xs) = omega arith in
    (0, within, same)

pub ranked : {X : Type 0} (less : X → X → Bool) (laws : IsStrict less) (xs : List X) (d : X) (k : ℕ)
    → AllDiffer xs d → k < length xs → HasRank less xs d k
ranked less laws [] d k f h = absurd (omega arith)
ranked {X} less laws (y ∷ xs) d k f h =
    let own = rank less xs y in
    let bound : own ≤ length xs = count_by-le-length (λ other. less other y) xs in
    let P : ℕ → Type 0 = λ n. HasRank less (y ∷ xs) d n in
    let others = AllDiffer-tail y xs d f in
    ⊎_elim (λ e. subst P (sym e) (own_rank less laws y xs d))
    (λ o. ⊎_elim
    (λ l. below_first less laws y xs d k l (ranked less laws xs d k others (omega arith)))
    (λ l. let back : k - 1 + 1 ≡ k = omega arith in
    subst P back (above_first less laws y xs d (k - 1) f (omega arith)
    (ranked less laws xs d (k - 1) others (omega arith))))
    o)
    (cases_order k own)
