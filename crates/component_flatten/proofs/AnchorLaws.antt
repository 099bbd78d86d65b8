-- What is found of anchors by their names.
use Rattle.std.proofs.Common.{◌≡◌, ℕ, ◌+◌, ◌<◌, Bool, true, false, List, [], ◌∷◌, ◌++◌, length}
use Rattle.std.proofs.Common.{get_or, drop, take, Option, Some, None, refl, sym, ap, ◌∙◌, subst}
use Rattle.std.proofs.Common.{arith, append_assoc, suc, zero}
use Rattle.std.specs.Prelude.{nat_eq, if◌then◌else◌, ℤ}
use Rattle.std.specs.List.{All, AllByRecursion, AllZip, flat_map}
use Rattle.std.specs.Map.{lookup}
use Rattle.std.specs.Cmp.Lexicographic.{pointwise}
use Rattle.std.proofs.lemmas.List.{drop_more, take_more}
use Rattle.std.proofs.lemmas.List.Elements.{recursion_from_All}
use Rattle.font_ir.specs.declared.glyph.Anchor.{Anchor}
use Rattle.font_ir.specs.declared.glyph.LayerIr.{LayerIr}
use Rattle.component_flatten.specs.Anchors.{anchor_at, with_position, positions_of, used_if}
use Rattle.component_flatten.specs.Anchors.{used_anchor}
use Rattle.component_flatten.specs.Judging.{Finds, found_in, behind}

-- one more anchor in front
pub finds_more : (old new : List (List ℕ × (ℤ × ℤ))) (anchors : List Anchor) (k : ℕ)
    (anchor : Anchor) → k < length anchors → anchor ≡ get_or anchors k anchor
    → ((name : List ℕ) → lookup (pointwise nat_eq name) new
    ≡ (if pointwise nat_eq anchor.name name then Some (anchor.x, anchor.y)
    else lookup (pointwise nat_eq name) old))
    → Finds old (drop (k + 1) anchors) → Finds new (drop k anchors)
finds_more old new anchors k anchor lt e inserted finds = λ name.
    inserted name
    ∙ ap (λ (found : Option (ℤ × ℤ)). if pointwise nat_eq anchor.name name
    then Some (anchor.x, anchor.y) else found) (finds name)
    ∙ ap (λ (a : Anchor). anchor_at name (a ∷ drop (k + 1) anchors)) e
    ∙ sym (ap (λ (rest : List Anchor). anchor_at name rest) (drop_more anchors k anchor lt))

-- what all layers find is where the anchor is in each
pub found_is : (name : List ℕ) (found : List (List (List ℕ × (ℤ × ℤ)))) (layers : List LayerIr)
    → AllZip (λ positions layer. Finds positions layer.anchors) found layers
    → found_in name found ≡ positions_of name layers
found_is name [] [] h = refl
found_is name [] (layer ∷ layers) h = absurd h
found_is name (positions ∷ found) [] h = absurd h
found_is name (positions ∷ found) (layer ∷ layers) h =
    ap (λ (p : Option (ℤ × ℤ)). with_position p (found_in name found)) (h.0 name)
    ∙ ap (λ (rest : Option (List (ℤ × ℤ))). with_position (anchor_at name layer.anchors) rest)
    (found_is name found layers h.1)

pub used_is : (found : List (List (List ℕ × (ℤ × ℤ)))) (layers : List LayerIr)
    (anchors : List Anchor)
    → AllZip (λ positions layer. Finds positions layer.anchors) found layers
    → flat_map (λ anchor. used_if anchor.name (found_in anchor.name found)) anchors
    ≡ flat_map (used_anchor layers) anchors
used_is found layers [] h = refl
used_is found layers (anchor ∷ anchors) h =
    ap (λ (p : Option (List (ℤ × ℤ))). used_if anchor.name p
    ++ flat_map (λ a. used_if a.name (found_in a.name found)) anchors)
    (found_is anchor.name found layers h)
    ∙ ap (λ (rest : List (List ℕ × List (ℤ × ℤ))). used_anchor layers anchor ++ rest)
    (used_is found layers anchors h)

-- one more layer
pub zip_push : {X Y : Type 0} (R : X → Y → Type 0) (xs : List X) (ys : List Y) (x : X) (y : Y)
    → AllZip R xs ys → R x y → AllZip R (xs ++ x ∷ []) (ys ++ y ∷ [])
zip_push R [] [] x y h r = (r, tt)
zip_push R [] (b ∷ ys) x y h r = absurd h
zip_push R (a ∷ xs) [] x y h r = absurd h
zip_push R (a ∷ xs) (b ∷ ys) x y h r = (h.0, zip_push R xs ys x y h.1 r)

-- one more position
pub behind_more : (positions : List (ℤ × ℤ)) (position : ℤ × ℤ) (rest : Option (List (ℤ × ℤ)))
    → behind (positions ++ position ∷ []) rest ≡ behind positions (with_position (Some position) rest)
behind_more positions position None = refl
behind_more positions position (Some more) =
    ap (λ (ps : List (ℤ × ℤ)). Some ps) (append_assoc positions (position ∷ []) more)

-- ---- positions of the anchors that are used: one for each layer, each as the anchors' are

either : (P : ℤ × ℤ → Type 0) (anchor : Anchor) (p : ℤ × ℤ) (b : Bool) (rest : Option (ℤ × ℤ))
    → P (anchor.x, anchor.y) → (rest ≡ Some p → P p)
    → (if b then Some (anchor.x, anchor.y) else rest) ≡ Some p → P p
either P anchor p true rest own others f =
    let same : (anchor.x, anchor.y) ≡ p = cc in subst P same own
either P anchor p false rest own others f = others f

anchor_good : (P : ℤ × ℤ → Type 0) (name : List ℕ) (anchors : List Anchor)
    → AllByRecursion (λ (a : Anchor). P (a.x, a.y)) anchors → (p : ℤ × ℤ)
    → anchor_at name anchors ≡ Some p → P p
anchor_good P name [] h p e = absurd cc
anchor_good P name (anchor ∷ anchors) h p e =
    either P anchor p (pointwise nat_eq anchor.name name) (anchor_at name anchors) h.0
    (λ f. anchor_good P name anchors h.1 p f) e

step : (P : ℤ × ℤ → Type 0) (n : ℕ) (position : Option (ℤ × ℤ)) (rest : Option (List (ℤ × ℤ)))
    (ps : List (ℤ × ℤ)) → ((p : ℤ × ℤ) → position ≡ Some p → P p)
    → ((qs : List (ℤ × ℤ)) → rest ≡ Some qs → AllByRecursion P qs × (length qs ≡ n))
    → with_position position rest ≡ Some ps → AllByRecursion P ps × (length ps ≡ suc n)
step P n None rest ps own others e = absurd cc
step P n (Some p) None ps own others e = absurd cc
step P n (Some p) (Some qs) ps own others e =
    let same : p ∷ qs ≡ ps = cc in
    let good = others qs refl in
    subst (λ (l : List (ℤ × ℤ)). AllByRecursion P l × (length l ≡ suc n)) same
    ((own p refl, good.0), omega (arith, good.1))

positions_good : (P : ℤ × ℤ → Type 0) (name : List ℕ) (layers : List LayerIr)
    → AllByRecursion (λ (l : LayerIr). All (λ (a : Anchor). P (a.x, a.y)) l.anchors) layers
    → (ps : List (ℤ × ℤ)) → positions_of name layers ≡ Some ps
    → AllByRecursion P ps × (length ps ≡ length layers)
positions_good P name [] h ps e =
    let same : [] ≡ ps = cc in
    subst (λ (l : List (ℤ × ℤ)). AllByRecursion P l × (length l ≡ 0)) same (tt, refl)
positions_good P name (layer ∷ layers) h ps e =
    step P (length layers) (anchor_at name layer.anchors) (positions_of name layers) ps
    (anchor_good P name layer.anchors
    (recursion_from_All (λ (a : Anchor). P (a.x, a.y)) layer.anchors h.0))
    (positions_good P name layers h.1) e

used_one : (P : ℤ × ℤ → Type 0) (n : ℕ) (name : List ℕ) (found : Option (List (ℤ × ℤ)))
    (rest : List (List ℕ × List (ℤ × ℤ)))
    → ((ps : List (ℤ × ℤ)) → found ≡ Some ps → AllByRecursion P ps × (length ps ≡ n))
    → AllByRecursion (λ (u : List ℕ × List (ℤ × ℤ)). AllByRecursion P u.1 × (length u.1 ≡ n)) rest
    → AllByRecursion (λ (u : List ℕ × List (ℤ × ℤ)). AllByRecursion P u.1 × (length u.1 ≡ n))
    (used_if name found ++ rest)
used_one P n name None rest good others = others
used_one P n name (Some ps) rest good others = (good ps refl, others)

pub used_good : (P : ℤ × ℤ → Type 0) (layers : List LayerIr) (anchors : List Anchor)
    → AllByRecursion (λ (l : LayerIr). All (λ (a : Anchor). P (a.x, a.y)) l.anchors) layers
    → AllByRecursion (λ (u : List ℕ × List (ℤ × ℤ)). AllByRecursion P u.1
    × (length u.1 ≡ length layers)) (flat_map (used_anchor layers) anchors)
used_good P layers [] h = tt
used_good P layers (anchor ∷ anchors) h =
    used_one P (length layers) anchor.name (positions_of anchor.name layers)
    (flat_map (used_anchor layers) anchors) (positions_good P anchor.name layers h)
    (used_good P layers anchors h)

pub all_take : {X : Type 0} (P : X → Type 0) (n : ℕ) (xs : List X) → AllByRecursion P xs
    → AllByRecursion P (take n xs)
all_take P zero xs h = tt
all_take P (suc n) [] h = tt
all_take P (suc n) (x ∷ xs) h = (h.0, all_take P n xs h.1)

pub zip_turn : (found next : List (List (List ℕ × (ℤ × ℤ)))) (layers : List LayerIr) (i : ℕ)
    (x : List (List ℕ × (ℤ × ℤ))) (layer : LayerIr) → i < length layers
    → layer ≡ get_or layers i layer → next ≡ found ++ x ∷ [] → Finds x layer.anchors
    → AllZip (λ positions l. Finds positions l.anchors) found (take i layers)
    → AllZip (λ positions l. Finds positions l.anchors) next (take (i + 1) layers)
zip_turn found next layers i x layer lt e added finds h =
    let R : List (List ℕ × (ℤ × ℤ)) → LayerIr → Type 0 = λ positions l. Finds positions l.anchors in
    let more : take (i + 1) layers ≡ take i layers ++ layer ∷ [] =
    take_more layers i layer lt ∙ ap (λ (l : LayerIr). take i layers ++ l ∷ []) (sym e) in
    subst (λ (n : List (List (List ℕ × (ℤ × ℤ)))). AllZip R n (take (i + 1) layers)) (sym added)
    (subst (λ (ls : List LayerIr). AllZip R (found ++ x ∷ []) ls) (sym more)
    (zip_push R found (take i layers) x layer h finds))
