-- An index of a list to which an item is added.
use Rattle.std.proofs.Common.{◌≡◌, ℕ, suc, ◌+◌, ◌<◌, Bool, true, false, cond, List, [], ◌∷◌, ◌++◌}
use Rattle.std.proofs.Common.{map, length, get_or, Option, Some, None, is_some, refl, sym, ap, ◌∙◌}
use Rattle.std.proofs.Common.{zero-add, arith}
use Rattle.std.proofs.lemmas.Bool.{false≢true}
use Rattle.std.specs.Cmp.{IsEquivalence}
use Rattle.std.specs.Prelude.{slice_get, option_map}
use Rattle.std.proofs.lemmas.Option.{slice_get_within, slice_get-get_or, slice_get-map, same_Some}
use Rattle.std.specs.BTreeMap as tree
use Rattle.std.specs.BTreeMap.{BTreeMap}
use Rattle.std.specs.declared.cmp.Ordering.{Ordering}
use Rattle.access_context.specs.declared.settled.Settled.{Settled}
use Rattle.access_context.specs.Plain.{Plain, plain}
use Rattle.access_context.specs.Read.{plain_item, read_of}
use Rattle.access_context.specs.Places.{place_from, IsIndex}
use Rattle.job_graph.specs.Places.{first_of}

pub place_from-push : {Id X : Type 0} (same : Id → Id → Bool) (n : ℕ) (xs : List (Id × X)) (k : Id)
    (v : X) (q : Id) → place_from same n (xs ++ (k, v) ∷ []) q
    ≡ first_of (place_from same n xs q) (cond (same k q) (Some (n + length xs)) None)
place_from-push same n [] k v q = let e : n ≡ n + 0 = omega arith
    in ap (λ m. cond (same k q) (Some m) None) e
place_from-push same n (x ∷ xs) k v q =
    let e : suc n + length xs ≡ n + length (x ∷ xs) = omega arith in
    elim (same x.0 q) as (λ b. cond b (Some n) (place_from same (suc n) (xs ++ (k, v) ∷ []) q)
    ≡ first_of (cond b (Some n) (place_from same (suc n) xs q))
    (cond (same k q) (Some (n + length (x ∷ xs))) None)) [
      | true ↦ refl
      | false ↦ place_from-push same (suc n) xs k v q
          ∙ ap (λ m. first_of (place_from same (suc n) xs q) (cond (same k q) (Some m) None)) e
    ]

-- the places do not depend on what stands beside the ids
pub place_from-plain : {Id V : Type 0} (same : Id → Id → Bool) (n : ℕ)
    (items : List (Id × Settled V)) (q : Id)
    → place_from same n (map plain_item items) q ≡ place_from same n items q
place_from-plain same n [] q = refl
place_from-plain same n (x ∷ xs) q = ap (λ o. cond (same x.0 q) (Some n) o)
    (place_from-plain same (suc n) xs q)

-- what stands at a place
pub stands_from : {Id X : Type 0} (same : Id → Id → Bool) (n : ℕ) (items : List (Id × X)) (id : Id)
    (p : ℕ) → place_from same n items id ≡ Some p
    → (k : ℕ) × (p ≡ n + k) × (item : Id × X) × (slice_get items k ≡ Some item)
    × (same item.0 id ≡ true) × (read_of same items id ≡ Some item.1)
stands_from same n [] id p e = cc
stands_from {Id} {X} same n (x ∷ xs) id p e =
    elim (same x.0 id) as (λ b. same x.0 id ≡ b
    → cond b (Some n) (place_from same (suc n) xs id) ≡ Some p
    → (k : ℕ) × (p ≡ n + k) × (item : Id × X) × (slice_get (x ∷ xs) k ≡ Some item)
    × (same item.0 id ≡ true) × (cond b (Some x.1) (read_of same xs id) ≡ Some item.1)) [
      | true ↦ λ is e. let s : n ≡ p = cc in (0, omega arith, x, refl, is, refl)
      | false ↦ λ is e. let r = stands_from same (suc n) xs id p e
          in (suc r.0, omega (arith, r.1), r.2, r.3, r.4, r.5)
    ] refl e

pub stands : {Id X : Type 0} (same : Id → Id → Bool) (items : List (Id × X)) (id : Id) (p : ℕ)
    → place_from same 0 items id ≡ Some p → (item : Id × X) × (slice_get items p ≡ Some item)
    × (same item.0 id ≡ true) × (read_of same items id ≡ Some item.1)
stands same items id p e =
    let r = stands_from same 0 items id p e in
    let at : r.0 ≡ p = omega (arith, r.1) in
    (r.2, ap (slice_get items) (sym at) ∙ r.3, r.4, r.5)

pub unread : {Id X : Type 0} (same : Id → Id → Bool) (n : ℕ) (items : List (Id × X)) (id : Id)
    → place_from same n items id ≡ None → read_of same items id ≡ None
unread same n [] id e = refl
unread same n (x ∷ xs) id e =
    elim (same x.0 id) as (λ b. cond b (Some n) (place_from same (suc n) xs id) ≡ None
    → cond b (Some x.1) (read_of same xs id) ≡ None) [
      | true ↦ λ e. cc
      | false ↦ λ e. unread same (suc n) xs id e
    ] e

-- the index of a list with one more item
pub index_push : {Id X : Type 0} (same : Id → Id → Bool) (order : Id → Id → Ordering)
    (m n : BTreeMap Id ℕ) (items items' : List (Id × X)) (k : Id) (v : X) (place : ℕ)
    → IsIndex same order m items → place ≡ length items
    → ((q : Id) → tree.get order n q ≡ first_of (tree.get order m q)
    (cond (same k q) (Some place) None)) → items' ≡ items ++ (k, v) ∷ []
    → IsIndex same order n items'
index_push same order m n items items' k v place old at noted is = λ q.
    noted q
    ∙ ap (λ o. first_of o (cond (same k q) (Some place) None)) (old q)
    ∙ ap (λ p. first_of (place_from same 0 items q) (cond (same k q) (Some p) None)) at
    ∙ sym (place_from-push same 0 items k v q
    ∙ ap (λ p. first_of (place_from same 0 items q) (cond (same k q) (Some p) None))
    (zero-add (length items)))
    ∙ ap (λ xs. place_from same 0 xs q) (sym is)

-- what has no value has no place
absent : {Id X : Type 0} (same : Id → Id → Bool) (n : ℕ) (items : List (Id × X)) (id : Id)
    → is_some (read_of same items id) ≡ false → place_from same n items id ≡ None
absent same n [] id e = refl
absent same n (x ∷ xs) id e =
    elim (same x.0 id) as (λ b. is_some (cond b (Some x.1) (read_of same xs id)) ≡ false
    → cond b (Some n) (place_from same (suc n) xs id) ≡ None) [
      | true ↦ λ e. absurd (false≢true (sym e))
      | false ↦ λ e. absent same (suc n) xs id e
    ] e

place_alike : {Id X : Type 0} (same : Id → Id → Bool) (q k : Id)
    → ((x : Id) → same x q ≡ same x k) → (n : ℕ) (items : List (Id × X))
    → place_from same n items q ≡ place_from same n items k
place_alike same q k alike n [] = refl
place_alike same q k alike n (x ∷ xs) = λ i. cond (alike x.0 i) (Some n)
    (place_alike same q k alike (suc n) xs i)

first_alone : (o : Option ℕ) → o ≡ first_of o None
first_alone None = refl
first_alone (Some x) = refl

-- an item that is new to the index
pub noted_new : {Id V : Type 0} (same : Id → Id → Bool) → IsEquivalence same
    → (order : Id → Id → Ordering) (m n : BTreeMap Id ℕ) (items : List (Id × Settled V)) (k : Id)
    (place : ℕ) → IsIndex same order m items
    → is_some (read_of same (map plain_item items) k) ≡ false
    → ((q : Id) → tree.get order n q ≡ cond (same k q) (Some place) (tree.get order m q))
    → (q : Id) → tree.get order n q ≡ first_of (tree.get order m q)
    (cond (same k q) (Some place) None)
noted_new same laws order m n items k place old new put q =
    put q ∙ (elim (same k q) as (λ b. same k q ≡ b
    → cond b (Some place) (tree.get order m q) ≡ first_of (tree.get order m q)
    (cond b (Some place) None)) [
      | true ↦ λ e. (let alike : (x : _) → same x q ≡ same x k = λ x. laws.symm x q
          ∙ (sym (laws.congr k q x e) ∙ laws.symm k x) in
          let none : tree.get order m q ≡ None = old q ∙ (place_alike same q k alike 0 items
          ∙ (sym (place_from-plain same 0 items k) ∙ absent same 0 (map plain_item items) k new)) in
          ap (λ o. first_of o (Some place)) (sym none))
      | false ↦ λ e. first_alone (tree.get order m q)
    ] refl)

-- a value that stands at its place
pub value_there : {Id V : Type 0} (same : Id → Id → Bool) (items : List (Id × Settled V)) (id : Id)
    (p : ℕ) → place_from same 0 items id ≡ Some p → (x : Id × Settled V) → x ≡ get_or items p x
    → Some (plain x.1) ≡ read_of same (map plain_item items) id
value_there {Id} {V} same items id p e x is =
    let s = stands same (map plain_item items) id p (place_from-plain same 0 items id ∙ e) in
    let lt : p < length items = slice_get_within items p _ (stands same items id p e).1 in
    let at : slice_get (map plain_item items) p
    ≡ Some (plain_item x) = slice_get-map plain_item items p
    ∙ ap (option_map plain_item) (slice_get-get_or items p x lt ∙ ap Some (sym is)) in
    let it : s.0 ≡ plain_item x = same_Some _ _ (sym s.1 ∙ at) in
    sym (s.3 ∙ ap (λ (y : Id × Plain V). Some y.1) it)

pub place_within : {Id X : Type 0} (same : Id → Id → Bool) (items : List (Id × X)) (id : Id) (p : ℕ)
    → place_from same 0 items id ≡ Some p → p < length items
place_within same items id p e = slice_get_within items p _ (stands same items id p e).1
