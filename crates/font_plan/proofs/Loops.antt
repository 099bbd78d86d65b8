-- One turn of a loop over a list: what is collected of the items so far, and of the next one.
use Rattle.std.proofs.Common.{◌≡◌, ℕ, ◌<◌, ◌+◌, List, [], ◌∷◌, ◌++◌, map, length, take, get_or, ap}
use Rattle.std.proofs.Common.{sym, ◌∙◌, append_assoc}
use Rattle.std.specs.List.{flat_map}
use Rattle.std.proofs.lemmas.List.{take_more, map-append, append-nil}
use Rattle.std.proofs.lemmas.Grind.{flat_map-append}

module _ {X Y : Type 0} (ys : List Y) (k : ℕ) (d : Y) (within : k < length ys) where
  pub map_more : (f : Y → X) → map f (take (k + 1) ys) ≡ map f (take k ys) ++ f (get_or ys k d) ∷ []
  map_more f = ap (map f) (take_more ys k d within) ∙ map-append f (take k ys) (get_or ys k d ∷ [])

  -- what is collected goes behind what was there
  pub collected : (f : Y → X) (before so after : List X) (x : X)
      → so ≡ before ++ map f (take k ys) → x ≡ f (get_or ys k d) → after ≡ so ++ x ∷ []
      → after ≡ before ++ map f (take (k + 1) ys)
  collected f before so after x e is next =
      next ∙ ap (λ xs. xs ++ x ∷ []) e
      ∙ append_assoc before (map f (take k ys)) (x ∷ [])
      ∙ ap (λ z. before ++ (map f (take k ys) ++ z ∷ [])) is
      ∙ ap (λ xs. before ++ xs) (sym (map_more f))

  pub collected_flat : (f : Y → List X) (so after : List X) → so ≡ flat_map f (take k ys)
      → after ≡ so ++ f (get_or ys k d) → after ≡ flat_map f (take (k + 1) ys)
  collected_flat f so after e next =
      let y = get_or ys k d in
      next ∙ ap (λ xs. xs ++ f y) e
      ∙ ap (λ xs. flat_map f (take k ys) ++ xs) (sym (append-nil (f y)))
      ∙ sym (flat_map-append f (take k ys) (y ∷ []))
      ∙ sym (ap (flat_map f) (take_more ys k d within))

-- what is collected is seen as what is said of each item
pub collected_seen : {X Y Z : Type 0} (ys : List Y) (k : ℕ) (d : Y) → k < length ys
    → (see : X → Z) (f : Y → Z) (so after : List X) (x : X) → map see so ≡ map f (take k ys)
    → f (get_or ys k d) ≡ see x → after ≡ so ++ x ∷ [] → map see after ≡ map f (take (k + 1) ys)
collected_seen ys k d within see f so after x e is next =
    ap (map see) next ∙ map-append see so (x ∷ []) ∙ ap (λ zs. zs ++ see x ∷ []) e
    ∙ ap (λ z. map f (take k ys) ++ z ∷ []) (sym is) ∙ sym (map_more ys k d within f)
