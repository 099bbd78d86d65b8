-- What stands at the place that an index tells.
use Rattle.std.proofs.Common.{◌≡◌, ℕ, suc, ◌+◌, ◌<◌, Bool, true, false, cond, List, [], ◌∷◌, map}
use Rattle.std.proofs.Common.{length, get_or, Option, Some, None, refl, sym, ap, ◌∙◌, arith}
use Rattle.access_context.specs.declared.settled.Settled.{Settled}
use Rattle.access_context.specs.Plain.{plain}
use Rattle.access_context.specs.Read.{plain_item, read_of}
use Rattle.access_context.specs.Places.{place_from}

module _ {Id V : Type 0} (same : Id → Id → Bool) where
  pub stands_from : (n : ℕ) (items : List (Id × Settled V)) (id : Id) (p : ℕ)
      → place_from same n items id ≡ Some p
      → (k : ℕ) × (p ≡ n + k) × (k < length items)
      × ((d : Id × Settled V) → read_of same (map plain_item items) id
      ≡ Some (plain (get_or items k d).1))
  stands_from n [] id p e = cc
  stands_from n (x ∷ xs) id p e =
      elim (same x.0 id) as (λ b. cond b (Some n) (place_from same (suc n) xs id) ≡ Some p
      → (k : ℕ) × (p ≡ n + k) × (k < length (x ∷ xs))
      × ((d : Id × Settled V) → cond b (Some (plain x.1)) (read_of same (map plain_item xs) id)
      ≡ Some (plain (get_or (x ∷ xs) k d).1))) [
        | true ↦ λ e. let s : n ≡ p = cc in (0, omega arith, omega arith, λ d. refl)
        | false ↦ λ e. let r = stands_from (suc n) xs id p e
            in (suc r.0, omega (arith, r.1), omega (arith, r.2), λ d. r.3 d)
      ] e

  pub within_items : (items : List (Id × Settled V)) (id : Id) (p : ℕ)
      → place_from same 0 items id ≡ Some p → p < length items
  within_items items id p e = let r = stands_from 0 items id p e in omega (arith, r.1, r.2)

  read_there : (items : List (Id × Settled V)) (id : Id) (p : ℕ)
      → place_from same 0 items id ≡ Some p → (d : Id × Settled V)
      → read_of same (map plain_item items) id ≡ Some (plain (get_or items p d).1)
  read_there items id p e d =
      let r = stands_from 0 items id p e in
      let at : r.0 ≡ p = omega (arith, r.1) in
      r.3 d ∙ ap (λ k. Some (plain (get_or items k d).1)) at

  pub item_read : (items : List (Id × Settled V)) (id : Id) (p : ℕ)
      → place_from same 0 items id ≡ Some p → (x : Id × Settled V) → x ≡ get_or items p x
      → Some (plain x.1) ≡ read_of same (map plain_item items) id
  item_read items id p e x is = ap (λ (y : Id × Settled V). Some (plain y.1)) is
      ∙ sym (read_there items id p e x)

  pub unread : (n : ℕ) (items : List (Id × Settled V)) (id : Id) → place_from same n items id ≡ None
      → read_of same (map plain_item items) id ≡ None
  unread n [] id e = refl
  unread n (x ∷ xs) id e =
      elim (same x.0 id) as (λ b. cond b (Some n) (place_from same (suc n) xs id) ≡ None
      → cond b (Some (plain x.1)) (read_of same (map plain_item xs) id) ≡ None) [
        | true ↦ λ e. cc
        | false ↦ λ e. unread (suc n) xs id e
      ] e
