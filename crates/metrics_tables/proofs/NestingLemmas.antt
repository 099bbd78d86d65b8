-- No way down the components is longer than there are glyphs, so that a glyph's depth is one more
-- than the greatest of its components.
use Rattle.std.proofs.Common.{◌≡◌, ℕ, zero, suc, ◌+◌, ◌<◌, ◌≤◌, max, Bool, true, false, ◌||◌, List}
use Rattle.std.proofs.Common.{[], ◌∷◌, ◌++◌, length, map, get_or, refl, sym, ap, ◌∙◌, subst, eqb}
use Rattle.std.proofs.Common.{arith}
use Rattle.std.proofs.Common.{inl, inr, ◌⊎◌}
use Rattle.std.proofs.lemmas.Bool.{cases_lt}
use Rattle.std.proofs.lemmas.Bool.Decides.{nat_tests}
use Rattle.std.proofs.lemmas.List.Elements.{Contains-get_or}
use Rattle.std.proofs.lemmas.Map.Steps.{length-le_from_distinct_below}
use Rattle.std.proofs.lemmas.Map.Keys.{IsDistinct-cons}
use Rattle.std.specs.List.{All, AllByRecursion, Contains, IsDistinct, list_any}
use Rattle.metrics_tables.specs.Comparisons.{greatest_count}
use Rattle.metrics_tables.specs.Nesting.{bases_at, IsChain, NoneLeadsToItself, depth_within}
use Rattle.metrics_tables.specs.Nesting.{depth_of}

-- ---- the greatest of counts

pub at_most_greatest : (f : ℕ → ℕ) (xs : List ℕ) (k d : ℕ) → k < length xs
    → f (get_or xs k d) ≤ greatest_count (map f xs)
at_most_greatest f [] k d h = absurd (omega (arith, h))
at_most_greatest f (x ∷ xs) zero d h = omega arith
at_most_greatest f (x ∷ xs) (suc k) d h =
    let rest = at_most_greatest f xs k d (omega (arith, h)) in omega (arith, rest)

-- a greatest count that is reached is one of them
reached : (f : ℕ → ℕ) (xs : List ℕ) (n : ℕ) → suc n ≤ greatest_count (map f xs)
    → (k : ℕ) × (k < length xs) × ((d : ℕ) → suc n ≤ f (get_or xs k d))
reached f [] n h = absurd (omega (arith, h))
reached f (x ∷ xs) n h = by (cases_lt n (f x)) (λ later. reached f xs n later)
  where
    by : (n < f x) ⊎ (f x ≤ n) → (suc n ≤ greatest_count (map f xs)
        → (k : ℕ) × (k < length xs) × ((d : ℕ) → suc n ≤ f (get_or xs k d)))
        → (k : ℕ) × (k < length (x ∷ xs)) × ((d : ℕ) → suc n ≤ f (get_or (x ∷ xs) k d))
    by (inl first) later = (0, omega arith, λ d. omega (arith, first))
    by (inr other) later =
        let rest = later (omega (arith, h, other)) in
        let inside : rest.0 < length xs = rest.1 in
        (suc rest.0, omega (arith, inside), λ d. rest.2 d)

-- where the greatest is small enough, one more step changes nothing
same_over : (n : ℕ) (f g : ℕ → ℕ) (xs : List ℕ) → ((x : ℕ) → f x < n → g x ≡ f x)
    → greatest_count (map (λ x. 1 + f x) xs) < suc n
    → greatest_count (map (λ x. 1 + g x) xs) ≡ greatest_count (map (λ x. 1 + f x) xs)
same_over n f g [] same h = refl
same_over n f g (x ∷ xs) same h =
    let first : g x ≡ f x = same x (omega (arith, h)) in
    let rest = same_over n f g xs same (omega (arith, h)) in
    (λ i. max (1 + first i) (rest i))

stable : (bases : List (List ℕ)) (n gid : ℕ) → depth_within bases n gid < n
    → depth_within bases (suc n) gid ≡ depth_within bases n gid
unfolding depth_within
stable bases zero gid h = absurd (omega (arith, h))
stable bases (suc n) gid h =
    same_over n (depth_within bases n) (depth_within bases (suc n)) (bases_at bases gid)
    (λ base. stable bases n base) h

-- ---- chains

-- a depth has a chain of that length
chain_of : (bases : List (List ℕ)) (n gid : ℕ) → n ≤ depth_within bases n gid
    → (path : List ℕ) × (length path ≡ n) × IsChain bases gid path
unfolding depth_within
chain_of bases zero gid h = ([], refl, tt)
chain_of bases (suc n) gid h =
    let deepest = reached (λ base. 1 + depth_within bases n base) (bases_at bases gid) n h in
    let base : ℕ = get_or (bases_at bases gid) deepest.0 gid in
    let deep : suc n ≤ 1 + depth_within bases n base = deepest.2 gid in
    let rest = chain_of bases n base (omega (arith, deep)) in
    let long : length rest.0 ≡ n = rest.1 in (
      base ∷ rest.0,
      ap suc long,
      (Contains-get_or (bases_at bases gid) deepest.0 gid deepest.1, rest.2),
    )

-- a chain that comes to a glyph, up to that
cut : (bases : List (List ℕ)) (target start : ℕ) (path : List ℕ) → IsChain bases start path
    → list_any (eqb target) path ≡ true
    → (between : List ℕ) × IsChain bases start (between ++ target ∷ [])
cut bases target start [] chain there = absurd cc
cut bases target start (base ∷ path) chain there =
    by (eqb target base) refl (λ later. cut bases target base path chain.1 later)
  where
    by : (b : Bool) → eqb target base ≡ b → (list_any (eqb target) path ≡ true
        → (between : List ℕ) × IsChain bases base (between ++ target ∷ []))
        → (between : List ℕ) × IsChain bases start (between ++ target ∷ [])
    by true e later =
        let same : base ≡ target = grind (arith, nat_tests) in
        ([], (subst (Contains (bases_at bases start)) same chain.0, tt))
    by false e later =
        let rest = later (sym (ap (λ (b : Bool). b || list_any (eqb target) path) e) ∙ there) in
        (base ∷ rest.0, (chain.0, rest.1))

apart : (target : ℕ) (path : List ℕ) → (list_any (eqb target) path ≡ true → ⊥)
    → AllByRecursion (λ y. eqb target y ≡ false) path
apart target [] never = tt
apart target (y ∷ path) never =
    by (eqb target y) refl (λ later. apart target path later)
  where
    by : (b : Bool) → eqb target y ≡ b → ((list_any (eqb target) path ≡ true → ⊥)
        → AllByRecursion (λ y. eqb target y ≡ false) path)
        → AllByRecursion (λ y. eqb target y ≡ false) (y ∷ path)
    by true e later =
        absurd (never (ap (λ (b : Bool). b || list_any (eqb target) path) e))
    by false e later = (
      e,
      later
          (λ h. never (ap (λ (b : Bool). b || list_any (eqb target) path) e ∙ h)),
    )

-- so no glyph stands twice on a way down
alone : IsDistinct eqb []
unfolding IsDistinct
alone = tt

all_different : (bases : List (List ℕ)) (gid : ℕ) (path : List ℕ) → NoneLeadsToItself bases
    → IsChain bases gid path → IsDistinct eqb (gid ∷ path)
all_different bases gid [] none chain = IsDistinct-cons eqb gid [] tt alone
all_different bases gid (base ∷ path) none chain =
    IsDistinct-cons eqb gid (base ∷ path)
    (apart gid (base ∷ path) (λ again. let back = cut bases gid gid (base ∷ path) chain again
    in none gid back.0 back.1)) (all_different bases base path none chain.1)

-- and all of them are there
chain_below : (bases : List (List ℕ)) (n gid : ℕ) (path : List ℕ)
    → ((gid : ℕ) → All (λ base. base < n) (bases_at bases gid)) → gid < n → IsChain bases gid path
    → (q : ℕ) → list_any (eqb q) (gid ∷ path) ≡ true → q < n
chain_below bases n gid [] within h chain q there = by (eqb q gid) refl
  where
    by : (b : Bool) → eqb q gid ≡ b → q < n
    by true e = grind (arith, nat_tests)
    by false e =
        let no : false ≡ true = sym (ap (λ (b : Bool). b || false) e) ∙ there in absurd (cc)
chain_below bases n gid (base ∷ path) within h chain q there =
    by (eqb q gid) refl (λ later. chain_below bases n base path within below chain.1 q later)
  where
    place : (k : ℕ) × (k < length (bases_at bases gid))
        × (get_or (bases_at bases gid) k base ≡ base)
    place = chain.0

    below : base < n
    below = subst (λ (b : ℕ). b < n) place.2 (within gid place.0 base place.1)

    by : (b : Bool) → eqb q gid ≡ b → (list_any (eqb q) (base ∷ path) ≡ true → q < n) → q < n
    by true e later = grind (arith, nat_tests)
    by false e later =
        later (sym (ap (λ (b : Bool). b || list_any (eqb q) (base ∷ path)) e) ∙ there)

-- ---- the depth

module _ (bases : List (List ℕ))
    (within : (gid : ℕ) → All (λ base. base < length bases) (bases_at bases gid))
    (none : NoneLeadsToItself bases) where
  pub depth_below : (gid : ℕ) → gid < length bases → depth_of bases gid < length bases
  depth_below gid h = by (cases_lt (depth_of bases gid) (length bases))
    where
      by : (depth_of bases gid < length bases) ⊎ (length bases ≤ depth_of bases gid)
          → depth_of bases gid < length bases
      by (inl less) = less
      by (inr more) =
          let chain = chain_of bases (length bases) gid more in
          let long : length chain.0 ≡ length bases = chain.1 in
          let few : suc (length chain.0) ≤ length bases =
          length-le_from_distinct_below (gid ∷ chain.0) (length bases)
          (all_different bases gid chain.0 none chain.2)
          (chain_below bases (length bases) gid chain.0 within h chain.2) in
          absurd (omega (arith, long, few))

  -- a glyph's depth is one more than the greatest of its components
  pub one_more : (gid : ℕ) → gid < length bases
      → depth_of bases gid ≡ greatest_count (map (λ base. 1 + depth_of bases base)
      (bases_at bases gid))
  unfolding depth_within
  one_more gid h = sym (stable bases (length bases) gid (depth_below gid h))

  -- a component is less deep
  pub deeper : (gid k d : ℕ) → gid < length bases → k < length (bases_at bases gid)
      → 1 + depth_of bases (get_or (bases_at bases gid) k d) ≤ depth_of bases gid
  deeper gid k d h inside =
      let least = at_most_greatest (λ base. 1 + depth_of bases base) (bases_at bases gid) k d inside
      in let whole = one_more gid h in omega (arith, least, whole)
