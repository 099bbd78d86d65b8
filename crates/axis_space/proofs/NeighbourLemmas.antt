-- The neighbours that the functions give are neighbours.
use Rattle.std.proofs.Common.{◌≡◌, ◌<◌, inl, inr, arith, refl, ap, subst, ◌∙◌, ℤ, ◌≤ℤ◌, ◌<ℤ◌, Bool}
use Rattle.std.proofs.Common.{true, false, cond, List, [], ◌∷◌, length, Option, Some, None}
use Rattle.std.proofs.lemmas.Int.{ints}
use Rattle.std.proofs.lemmas.List.Elements.{All-cons, All-nil, All-weaker}
use Rattle.std.specs.Prelude.{IfSome, int_lt, int_le}
use Rattle.std.specs.List.{All, find}
use Rattle.std.specs.Ordering.{int_eq}
use Rattle.axis_space.specs.Points.{IsFirst, IsBelow, IsAbove, Places, not_above, higher, below}
use Rattle.axis_space.specs.Points.{not_below, lower, above}
use Rattle.axis_space.specs.declared.points.Point.{Point}
use Rattle.axis_space.proofs.PointLemmas.{le_true, some_neighbour}

le_false : (a b : ℤ) → int_le a b ≡ false → a ≤ℤ b → ⊥
le_false a b e h = grind (arith, ints)

lt_holds : (a b : ℤ) → int_lt a b ≡ true → a <ℤ b
lt_holds a b e = grind (arith, ints)

lt_fails : (a b : ℤ) → int_lt a b ≡ false → b ≤ℤ a
lt_fails a b e = grind (arith, ints)

not_equal_by : (a b : ℤ) (t : Bool) → int_eq a b ≡ t → (a ≡ b → ⊥) → int_eq a b ≡ false
not_equal_by a b true e f = absurd (f (grind (arith, ints)))
not_equal_by a b false e f = e

not_equal : (a b : ℤ) → (a ≡ b → ⊥) → int_eq a b ≡ false
not_equal a b f = not_equal_by a b (int_eq a b) refl f

equal_itself : (a : ℤ) → int_eq a a ≡ true
equal_itself a = grind (arith, ints)

found_here : (q : Point) (qs : List Point) → IsFirst (q ∷ qs) q
found_here q qs =
    ap (λ b. cond b (Some q) (find (λ r. int_eq r.design.0 q.design.0) qs))
    (equal_itself q.design.0)

found_there : (q p : Point) (qs : List Point) → int_eq q.design.0 p.design.0 ≡ false → IsFirst qs p
    → IsFirst (q ∷ qs) p
found_there q p qs e h = ap (λ b. cond b (Some q) (find (λ r. int_eq r.design.0 p.design.0) qs)) e
    ∙ h

of_some : (Q : Point → Type 0) (o : Option Point) (p : Point) → o ≡ Some p → IfSome o Q → Q p
of_some Q None p e h = cc
of_some Q (Some s) p e h = let same : s ≡ p = cc in subst Q same h

for_some : (Q : Point → Type 0) (o : Option Point) → ((p : Point) → o ≡ Some p → Q p) → IfSome o Q
for_some Q None f = tt
for_some Q (Some p) f = f p refl

some_of_two : (b : Bool) (p q : Point) → cond b (Some q) (Some p) ≡ None → ⊥
some_of_two true p q e = cc
some_of_two false p q e = cc

some_higher : (p q : Point) → higher (Some p) (Some q) ≡ None → ⊥
some_higher p q e = some_of_two (int_lt p.design.0 q.design.0) p q e

some_lower : (p q : Point) → lower (Some p) (Some q) ≡ None → ⊥
some_lower p q e = some_of_two (int_lt q.design.0 p.design.0) p q e

-- the neighbour that the function gives is one, and where it gives none all points are on the other
-- side

below_none_step : (design : ℤ) (q : Point) (o : Option Point) (b : Bool)
    → int_le q.design.0 design ≡ b → higher (cond b (Some q) None) o ≡ None
    → (design <ℤ q.design.0) × (o ≡ None)
below_none_step design q None true e h = cc
below_none_step design q (Some s) true e h = absurd (some_higher q s h)
below_none_step design q o false e h = (grind (arith, ints), h)

pub below_none : (design : ℤ) (ps : List Point) → below design ps ≡ None
    → All (λ r. design <ℤ r.design.0) ps
below_none design [] h = All-nil (λ r. design <ℤ r.design.0)
below_none design (q ∷ qs) h =
    let parts = below_none_step design q (below design qs) (int_le q.design.0 design) refl h in
    All-cons (λ r. design <ℤ r.design.0) q qs parts.0 (below_none design qs parts.1)

-- a point that no later one is nearer than
below_here : (design : ℤ) (q : Point) (qs : List Point) → q.design.0 ≤ℤ design
    → All (λ r. r.design.0 ≤ℤ design → r.design.0 ≤ℤ q.design.0) qs → IsBelow (q ∷ qs) design q
below_here design q qs le all =
    let P : Point → Type 0 = λ r. r.design.0 ≤ℤ design → r.design.0 ≤ℤ q.design.0 in
    record {
      first = found_here q qs;
      at_most = le;
      nearest
          = All-cons P q qs (λ h. omega (arith, ints)) all;
    }

apart_below : (design : ℤ) (q p : Point) → p.design.0 ≤ℤ design
    → (q.design.0 ≤ℤ design → q.design.0 <ℤ p.design.0) → int_eq q.design.0 p.design.0 ≡ false
apart_below design q p le less =
    not_equal q.design.0 p.design.0 (λ e. let l = less (omega (arith, ints)) in omega (arith, ints))

-- a later one that this one is not as near as
below_there : (design : ℤ) (q p : Point) (qs : List Point)
    → (q.design.0 ≤ℤ design → q.design.0 <ℤ p.design.0) → IsBelow qs design p
    → IsBelow (q ∷ qs) design p
below_there design q p qs less b =
    let P : Point → Type 0 = λ r. r.design.0 ≤ℤ design → r.design.0 ≤ℤ p.design.0 in
    let le = b.at_most in
    record {
      first = found_there q p qs (apart_below design q p le less) b.first;
      at_most = b.at_most;
      nearest = All-cons P q qs (λ h. let l = less h in omega (arith, ints)) b.nearest;
    }

below_nearer : (design : ℤ) (q s p : Point) (qs : List Point) (b : Bool)
    → int_lt q.design.0 s.design.0 ≡ b → q.design.0 ≤ℤ design → IsBelow qs design s
    → cond b (Some s) (Some q) ≡ Some p → IsBelow (q ∷ qs) design p
below_nearer design q s p qs true e le ih h =
    let same : s ≡ p = cc in
    subst (IsBelow (q ∷ qs) design) same (below_there design q s qs
    (λ g. lt_holds q.design.0 s.design.0 e) ih)
below_nearer design q s p qs false e le ih h =
    let same : q ≡ p = cc in
    let not_less = lt_fails q.design.0 s.design.0 e in
    let all = All-weaker (λ r. r.design.0 ≤ℤ design → r.design.0 ≤ℤ s.design.0)
    (λ r. r.design.0 ≤ℤ design → r.design.0 ≤ℤ q.design.0)
    (λ r f g. let l = f g in omega (arith, ints)) qs ih.nearest in
    subst (IsBelow (q ∷ qs) design) same (below_here design q qs le all)

below_gives_step : (design : ℤ) (q p : Point) (qs : List Point) (o : Option Point) (b : Bool)
    → int_le q.design.0 design ≡ b → below design qs ≡ o → IfSome o (λ s. IsBelow qs design s)
    → higher (cond b (Some q) None) o ≡ Some p → IsBelow (q ∷ qs) design p
below_gives_step design q p qs o false e at ih h =
    let known : IsBelow qs design p = of_some (λ s. IsBelow qs design s) o p h ih in
    below_there design q p qs (λ le. absurd (le_false q.design.0 design e le)) known
below_gives_step design q p qs None true e at ih h =
    let same : q ≡ p = cc in
    let all = All-weaker (λ r. design <ℤ r.design.0)
    (λ r. r.design.0 ≤ℤ design → r.design.0 ≤ℤ q.design.0)
    (λ r f g. absurd (omega (arith, ints))) qs (below_none design qs at) in
    subst (IsBelow (q ∷ qs) design) same (below_here design q qs (le_true q.design.0 design e) all)
below_gives_step design q p qs (Some s) true e at ih h =
    below_nearer design q s p qs (int_lt q.design.0 s.design.0) refl (le_true q.design.0 design e)
    ih h

pub below_gives : (design : ℤ) (ps : List Point)
    → IfSome (below design ps) (λ p. IsBelow ps design p)
below_gives design [] = tt
below_gives design (q ∷ qs) =
    for_some (λ p. IsBelow (q ∷ qs) design p) (higher (not_above design q) (below design qs))
    (λ p h. below_gives_step design q p qs (below design qs) (int_le q.design.0 design) refl
    refl (below_gives design qs) h)

-- the neighbour that the function gives is one, and where it gives none all points are on the other
-- side

above_none_step : (design : ℤ) (q : Point) (o : Option Point) (b : Bool)
    → int_le design q.design.0 ≡ b → lower (cond b (Some q) None) o ≡ None
    → (q.design.0 <ℤ design) × (o ≡ None)
above_none_step design q None true e h = cc
above_none_step design q (Some s) true e h = absurd (some_lower q s h)
above_none_step design q o false e h = (grind (arith, ints), h)

pub above_none : (design : ℤ) (ps : List Point) → above design ps ≡ None
    → All (λ r. r.design.0 <ℤ design) ps
above_none design [] h = All-nil (λ r. r.design.0 <ℤ design)
above_none design (q ∷ qs) h =
    let parts = above_none_step design q (above design qs) (int_le design q.design.0) refl h in
    All-cons (λ r. r.design.0 <ℤ design) q qs parts.0 (above_none design qs parts.1)

-- a point that no later one is nearer than
above_here : (design : ℤ) (q : Point) (qs : List Point) → design ≤ℤ q.design.0
    → All (λ r. design ≤ℤ r.design.0 → q.design.0 ≤ℤ r.design.0) qs → IsAbove (q ∷ qs) design q
above_here design q qs le all =
    let P : Point → Type 0 = λ r. design ≤ℤ r.design.0 → q.design.0 ≤ℤ r.design.0 in
    record {
      first = found_here q qs;
      at_least = le;
      nearest
          = All-cons P q qs (λ h. omega (arith, ints)) all;
    }

apart_above : (design : ℤ) (q p : Point) → design ≤ℤ p.design.0
    → (design ≤ℤ q.design.0 → p.design.0 <ℤ q.design.0) → int_eq q.design.0 p.design.0 ≡ false
apart_above design q p le less =
    not_equal q.design.0 p.design.0 (λ e. let l = less (omega (arith, ints)) in omega (arith, ints))

-- a later one that this one is not as near as
above_there : (design : ℤ) (q p : Point) (qs : List Point)
    → (design ≤ℤ q.design.0 → p.design.0 <ℤ q.design.0) → IsAbove qs design p
    → IsAbove (q ∷ qs) design p
above_there design q p qs less b =
    let P : Point → Type 0 = λ r. design ≤ℤ r.design.0 → p.design.0 ≤ℤ r.design.0 in
    let le = b.at_least in
    record {
      first = found_there q p qs (apart_above design q p le less) b.first;
      at_least = b.at_least;
      nearest = All-cons P q qs (λ h. let l = less h in omega (arith, ints)) b.nearest;
    }

above_nearer : (design : ℤ) (q s p : Point) (qs : List Point) (b : Bool)
    → int_lt s.design.0 q.design.0 ≡ b → design ≤ℤ q.design.0 → IsAbove qs design s
    → cond b (Some s) (Some q) ≡ Some p → IsAbove (q ∷ qs) design p
above_nearer design q s p qs true e le ih h =
    let same : s ≡ p = cc in
    subst (IsAbove (q ∷ qs) design) same (above_there design q s qs
    (λ g. lt_holds s.design.0 q.design.0 e) ih)
above_nearer design q s p qs false e le ih h =
    let same : q ≡ p = cc in
    let not_less = lt_fails s.design.0 q.design.0 e in
    let all = All-weaker (λ r. design ≤ℤ r.design.0 → s.design.0 ≤ℤ r.design.0)
    (λ r. design ≤ℤ r.design.0 → q.design.0 ≤ℤ r.design.0)
    (λ r f g. let l = f g in omega (arith, ints)) qs ih.nearest in
    subst (IsAbove (q ∷ qs) design) same (above_here design q qs le all)

above_gives_step : (design : ℤ) (q p : Point) (qs : List Point) (o : Option Point) (b : Bool)
    → int_le design q.design.0 ≡ b → above design qs ≡ o → IfSome o (λ s. IsAbove qs design s)
    → lower (cond b (Some q) None) o ≡ Some p → IsAbove (q ∷ qs) design p
above_gives_step design q p qs o false e at ih h =
    let known : IsAbove qs design p = of_some (λ s. IsAbove qs design s) o p h ih in
    above_there design q p qs (λ le. absurd (le_false design q.design.0 e le)) known
above_gives_step design q p qs None true e at ih h =
    let same : q ≡ p = cc in
    let all = All-weaker (λ r. r.design.0 <ℤ design)
    (λ r. design ≤ℤ r.design.0 → q.design.0 ≤ℤ r.design.0)
    (λ r f g. absurd (omega (arith, ints))) qs (above_none design qs at) in
    subst (IsAbove (q ∷ qs) design) same (above_here design q qs (le_true design q.design.0 e) all)
above_gives_step design q p qs (Some s) true e at ih h =
    above_nearer design q s p qs (int_lt s.design.0 q.design.0) refl (le_true design q.design.0 e)
    ih h

pub above_gives : (design : ℤ) (ps : List Point)
    → IfSome (above design ps) (λ p. IsAbove ps design p)
above_gives design [] = tt
above_gives design (q ∷ qs) =
    for_some (λ p. IsAbove (q ∷ qs) design p) (lower (not_below design q) (above design qs))
    (λ p h. above_gives_step design q p qs (above design qs) (int_le design q.design.0) refl
    refl (above_gives design qs) h)

placed_by : (points : List Point) (design : ℤ) (low high : Option Point) → below design points ≡ low
    → above design points ≡ high → IfSome low (λ p. IsBelow points design p)
    → IfSome high (λ q. IsAbove points design q) → 0 < length points → Places points design
placed_by points design (Some p) (Some q) e f h k some = inl (p, q, h, k)
placed_by points design None (Some q) e f h k some = inr (inl (q, below_none design points e, k))
placed_by points design (Some p) None e f h k some = inr (inr (p, above_none design points f, h))
placed_by points design None None e f h k some = absurd (some_neighbour design points some e f)

-- one of the three cases holds
pub placed : (points : List Point) (design : ℤ) → 0 < length points → Places points design
placed points design some =
    placed_by points design (below design points) (above design points) refl refl
    (below_gives design points) (above_gives design points) some
