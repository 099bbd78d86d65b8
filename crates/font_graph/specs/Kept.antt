-- A loop that keeps the least refusal so far comes to the least of all. Lemmas.
use Rattle.std.proofs.Common.{◌≡◌, ℕ, ◌+◌, ◌<◌, inl, inr, List, [], ◌∷◌, ◌++◌, length, get_or}
use Rattle.std.proofs.Common.{drop, Option, Some, None, refl, sym, ap, ◌∙◌}
use Rattle.std.proofs.lemmas.List.{at_drop_more}
use Rattle.std.specs.List.{flat_map}
use Rattle.refusal_codes.specs.declared.refusal.Refusal.{Refusal}
use Rattle.job_graph.specs.Members.{In}
use Rattle.font_graph.specs.Verdicts.{lesser, least}
use Rattle.font_graph.specs.Least.{least_found, least_is, least_alike, least_through}

-- what is kept, once these are met
abbrev pub kept_least : Option Refusal → List Refusal → Option Refusal
kept_least kept [] = kept
kept_least kept (r ∷ rs) = kept_least (Some (lesser r kept)) rs

pub kept_least-append : (kept : Option Refusal) (rs ss : List Refusal)
    → kept_least kept (rs ++ ss) ≡ kept_least (kept_least kept rs) ss
kept_least-append kept [] ss = refl
kept_least-append kept (r ∷ rs) ss = kept_least-append (Some (lesser r kept)) rs ss

-- two that are met stand for their lesser one
two_met : (r s : Refusal) (rs : List Refusal)
    → least (lesser r (Some s) ∷ rs) ≡ least (s ∷ r ∷ rs)
two_met r s rs =
    let m = lesser r (Some s) in
    let n = lesser m (least rs) in
    sym ((least_is (r ∷ s ∷ rs) n).1 (least_through n m (r ∷ s ∷ []) rs (least_found r (s ∷ []))
    (least_found m rs)))
    ∙ least_alike (r ∷ s ∷ rs) (s ∷ r ∷ rs) (λ x. (turn r s x, turn s r x))
  where
    turn : (a b x : Refusal) → In x (a ∷ b ∷ rs) → In x (b ∷ a ∷ rs)
    turn a b x i = elim i [
      | inl e ↦ inr (inl e)
      | inr i ↦ elim i [ inl e ↦ inl e | inr i ↦ inr (inr i) ]
    ]

kept_of : (r : Refusal) (rs : List Refusal) → kept_least (Some r) rs ≡ least (r ∷ rs)
kept_of r [] = refl
kept_of r (s ∷ rs) = kept_of (lesser s (Some r)) rs ∙ two_met s r rs

-- what is kept of all is their least
pub kept_is_least : (rs : List Refusal) → kept_least None rs ≡ least rs
kept_is_least [] = refl
kept_is_least (r ∷ rs) = kept_of r rs

-- one turn: what comes of what is kept and of the rest stays the same
pub kept_turn : {X : Type 0} (f : X → List Refusal) (xs : List X) (i : ℕ) (d : X)
    (kept next all : Option Refusal) → i < length xs → next ≡ kept_least kept (f (get_or xs i d))
    → kept_least kept (flat_map f (drop i xs)) ≡ all
    → kept_least next (flat_map f (drop (i + 1) xs)) ≡ all
kept_turn f xs i d kept next all lt e h =
    ap (λ n. kept_least n (flat_map f (drop (i + 1) xs))) e
    ∙ sym (kept_least-append kept (f (get_or xs i d)) (flat_map f (drop (i + 1) xs)))
    ∙ sym (ap (λ ys. kept_least kept ys) (at_drop_more (λ ys. flat_map f ys) xs i d lt))
    ∙ h
