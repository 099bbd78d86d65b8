-- One turn of the loop that keeps the first anchor of each name.
use Rattle.std.proofs.Common.{◌≡◌, ℕ, Bool, true, false, not, cond, List, [], ◌∷◌, ◌++◌, refl, sym}
use Rattle.std.proofs.Common.{ap, ◌∙◌, append_assoc, nat_eq}
use Rattle.std.specs.List.{filter, list_any}
use Rattle.std.specs.Cmp.Lexicographic.{pointwise}
use Rattle.font_ir.specs.declared.glyph.Anchor.{Anchor}
use Rattle.layer_shapes.specs.LayerReading.{has_other_name}

-- the anchors whose names aren't seen
abbrev pub unseen : (List ℕ → Bool) → List Anchor → List Anchor
unseen seen anchors = filter (λ anchor. not (seen anchor.name)) anchors

-- before a name is seen, all are there
none_seen : (anchors : List Anchor) → unseen (λ name. false) anchors ≡ anchors
none_seen [] = refl
none_seen (anchor ∷ anchors) = ap (λ (bs : List Anchor). anchor ∷ bs) (none_seen anchors)

pub anchor_start : (kept : List Anchor) (names : List (List ℕ)) (anchors : List Anchor) → kept ≡ []
    → names ≡ []
    → kept ++ unseen (λ name. list_any (pointwise nat_eq name) names) anchors ≡ anchors
anchor_start kept names anchors e h =
    ap (λ (bs : List Anchor). bs
    ++ unseen (λ name. list_any (pointwise nat_eq name) names) anchors) e
    ∙ ap (λ (ns : List (List ℕ)). unseen (λ name. list_any (pointwise nat_eq name) ns) anchors) h
    ∙ none_seen anchors

kept_both : (same seen now : Bool) (a : Anchor) (xs ys : List Anchor) → now ≡ cond same true seen
    → xs ≡ ys
    → cond (not same) (cond (not seen) (a ∷ xs) xs) xs ≡ cond (not now) (a ∷ ys) ys
kept_both same seen now a xs ys e h =
    ap (λ (zs : List Anchor). cond (not same) (cond (not seen) (a ∷ zs) zs) zs) h
    ∙ by_tests same seen
    ∙ ap (λ (b : Bool). cond (not b) (a ∷ ys) ys) (sym e)
  where
    by_tests : (same seen : Bool) → cond (not same) (cond (not seen) (a ∷ ys) ys) ys
        ≡ cond (not (cond same true seen)) (a ∷ ys) ys
    by_tests true seen = refl
    by_tests false seen = refl

pass_through : (seen : List ℕ → Bool) (b : Bool) (a : Anchor) (bs : List Anchor)
    → unseen seen (cond b (a ∷ bs) bs)
    ≡ cond b (cond (not (seen a.name)) (a ∷ unseen seen bs) (unseen seen bs)) (unseen seen bs)
pass_through seen true a bs = refl
pass_through seen false a bs = refl

module _ (seen now : List ℕ → Bool) (name : List ℕ)
    (adds : (other : List ℕ) → now other ≡ cond (pointwise nat_eq name other) true (seen other))
  where
    -- of those with another name than one that is seen from now on, those unseen before are unseen
    others : (bs : List Anchor) → unseen seen (filter (has_other_name name) bs) ≡ unseen now bs
    others [] = refl
    others (a ∷ bs) =
        pass_through seen (has_other_name name a) a (filter (has_other_name name) bs)
        ∙ kept_both (pointwise nat_eq name a.name) (seen a.name) (now a.name) a
        (unseen seen (filter (has_other_name name) bs)) (unseen now bs) (adds a.name) (others bs)

module _ (seen now : List ℕ → Bool) (a : Anchor)
    (adds : (other : List ℕ) → now other ≡ cond (pointwise nat_eq a.name other) true (seen other))
  where
    one_more : (b : Bool) (acc rest : List Anchor)
        → (acc ++ cond b [] (a ∷ [])) ++ rest ≡ acc ++ cond (not b) (a ∷ rest) rest
    one_more true acc rest = append_assoc acc [] rest
    one_more false acc rest = append_assoc acc (a ∷ []) rest

    -- the anchors so far, with those that are left
    pub anchor_turn : (acc next all bs : List Anchor)
        → next ≡ acc ++ cond (seen a.name) [] (a ∷ [])
        → acc ++ unseen seen (a ∷ filter (has_other_name a.name) bs) ≡ all
        → next ++ unseen now bs ≡ all
    anchor_turn acc next all bs e h =
        ap (λ (xs : List Anchor). xs ++ unseen now bs) e
        ∙ ap (λ (xs : List Anchor). (acc ++ cond (seen a.name) [] (a ∷ [])) ++ xs)
        (sym (others seen now a.name adds bs))
        ∙ one_more (seen a.name) acc (unseen seen (filter (has_other_name a.name) bs))
        ∙ h
