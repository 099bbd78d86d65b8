-- Neighbours: what the functions give is what the relations say, and so a reading is one.
use Rattle.std.proofs.Common.{◌≡◌, ℕ, ◌<◌, arith, refl, sym, ap, subst, ◌∙◌, ℤ, pos, ◌+ℤ◌, ◌-ℤ◌}
use Rattle.std.proofs.Common.{◌*ℤ◌, ◌≤ℤ◌, ◌<ℤ◌, Bool, true, false, cond, List, [], ◌∷◌, length}
use Rattle.std.proofs.Common.{Option, Some, None}
use Rattle.std.proofs.lemmas.Int.{ints, by_lt_z}
use Rattle.std.proofs.lemmas.List.Elements.{All-head, All-tail}
use Rattle.std.specs.Prelude.{IfSome, int_lt, int_le}
use Rattle.std.specs.List.{All, find}
use Rattle.std.specs.Ordering.{int_eq}
use Rattle.font_ir.specs.Normal.{nearest}
use Rattle.axis_space.specs.Points.{IsFirst, IsBelow, IsAbove, not_above, higher, below, not_below}
use Rattle.axis_space.specs.Points.{lower, above, between, reading, user_at, points_of}
use Rattle.font_ir.specs.declared.header.Master.{Master}
use Rattle.axis_space.specs.declared.points.Point.{Point}
use Rattle.axis_space.proofs.LineLemmas.{part_up, part_down}

first_fact : (P Q : Point → Type 0) (o : Option Point) → IfSome o (λ p. P p × Q p) → IfSome o P
first_fact P Q None h = tt
first_fact P Q (Some p) h = h.0

-- what holds of both of two points holds of the nearer

higher_holds : (Q : Point → Type 0) (a b : Option Point) → IfSome a Q → IfSome b Q
    → IfSome (higher a b) Q
higher_holds Q None b h k = k
higher_holds Q (Some p) None h k = h
higher_holds Q (Some p) (Some q) h k =
    elim (int_lt p.design.0 q.design.0) as (λ b. IfSome (cond b (Some q) (Some p)) Q)
    [ true ↦ k | false ↦ h ]

lower_holds : (Q : Point → Type 0) (a b : Option Point) → IfSome a Q → IfSome b Q
    → IfSome (lower a b) Q
lower_holds Q None b h k = k
lower_holds Q (Some p) None h k = h
lower_holds Q (Some p) (Some q) h k =
    elim (int_lt q.design.0 p.design.0) as (λ b. IfSome (cond b (Some q) (Some p)) Q)
    [ true ↦ k | false ↦ h ]

pub le_true : (a b : ℤ) → int_le a b ≡ true → a ≤ℤ b
le_true a b e = grind (arith, ints)

not_above_holds : (P : Point → Type 0) (design : ℤ) (p : Point) (b : Bool)
    → int_le p.design.0 design ≡ b → P p → IfSome (cond b (Some p) None)
    (λ q. (q.design.0 ≤ℤ design) × P q)
not_above_holds P design p true e h = (le_true p.design.0 design e, h)
not_above_holds P design p false e h = tt

not_below_holds : (P : Point → Type 0) (design : ℤ) (p : Point) (b : Bool)
    → int_le design p.design.0 ≡ b → P p → IfSome (cond b (Some p) None)
    (λ q. (design ≤ℤ q.design.0) × P q)
not_below_holds P design p true e h = (le_true design p.design.0 e, h)
not_below_holds P design p false e h = tt

-- what holds of each point holds of a neighbour, which lies on its side
pub below_holds : (P : Point → Type 0) (design : ℤ) (ps : List Point) → All P ps
    → IfSome (below design ps) (λ q. (q.design.0 ≤ℤ design) × P q)
below_holds P design [] h = tt
below_holds P design (p ∷ ps) h =
    higher_holds (λ q. (q.design.0 ≤ℤ design) × P q) (not_above design p) (below design ps)
    (not_above_holds P design p (int_le p.design.0 design) refl (All-head P p ps h))
    (below_holds P design ps (All-tail P p ps h))

pub above_holds : (P : Point → Type 0) (design : ℤ) (ps : List Point) → All P ps
    → IfSome (above design ps) (λ q. (design ≤ℤ q.design.0) × P q)
above_holds P design [] h = tt
above_holds P design (p ∷ ps) h =
    lower_holds (λ q. (design ≤ℤ q.design.0) × P q) (not_below design p) (above design ps)
    (not_below_holds P design p (int_le design p.design.0) refl (All-head P p ps h))
    (above_holds P design ps (All-tail P p ps h))

-- the neighbours of the relations are those of the functions

higher_first : (design : ℤ) (p : Point) (o : Option Point) → p.design.0 ≤ℤ design
    → IfSome o (λ q. (q.design.0 ≤ℤ design) × (q.design.0 ≤ℤ design → q.design.0 ≤ℤ p.design.0))
    → higher (not_above design p) o ≡ Some p
higher_first design p None le h = grind (arith, ints)
higher_first design p (Some q) le h = let at_most = h.1 h.0 in grind (arith, ints)

lower_first : (design : ℤ) (p : Point) (o : Option Point) → design ≤ℤ p.design.0
    → IfSome o (λ q. (design ≤ℤ q.design.0) × (design ≤ℤ q.design.0 → p.design.0 ≤ℤ q.design.0))
    → lower (not_below design p) o ≡ Some p
lower_first design p None le h = grind (arith, ints)
lower_first design p (Some q) le h = let at_least = h.1 h.0 in grind (arith, ints)

higher_later : (design : ℤ) (q p : Point) → (q.design.0 ≤ℤ design → q.design.0 ≤ℤ p.design.0)
    → int_eq q.design.0 p.design.0 ≡ false → higher (not_above design q) (Some p) ≡ Some p
higher_later design q p h e = grind (arith, ints)

lower_later : (design : ℤ) (q p : Point) → (design ≤ℤ q.design.0 → p.design.0 ≤ℤ q.design.0)
    → int_eq q.design.0 p.design.0 ≡ false → lower (not_below design q) (Some p) ≡ Some p
lower_later design q p h e = grind (arith, ints)

below_step : (design : ℤ) (q p : Point) (qs : List Point) (b : Bool)
    → int_eq q.design.0 p.design.0 ≡ b → cond b (Some q)
    (find (λ r. int_eq r.design.0 p.design.0) qs) ≡ Some p → p.design.0 ≤ℤ design
    → All (λ r. r.design.0 ≤ℤ design → r.design.0 ≤ℤ p.design.0) (q ∷ qs)
    → (find (λ r. int_eq r.design.0 p.design.0) qs ≡ Some p → below design qs ≡ Some p)
    → higher (not_above design q) (below design qs) ≡ Some p
below_step design q p qs true e first le all ih =
    let P : Point → Type 0 = λ r. r.design.0 ≤ℤ design → r.design.0 ≤ℤ p.design.0 in
    let same : q ≡ p = cc in
    let Q : Point → Type 0 = λ z. higher (not_above design z) (below design qs) ≡ Some p in
    subst Q (sym same) (higher_first design p (below design qs) le
    (below_holds P design qs (All-tail P q qs all)))
below_step design q p qs false e first le all ih =
    let P : Point → Type 0 = λ r. r.design.0 ≤ℤ design → r.design.0 ≤ℤ p.design.0 in
    ap (higher (not_above design q)) (ih first) ∙ higher_later design q p (All-head P q qs all) e

below_by : (design : ℤ) (ps : List Point) (p : Point) → IsFirst ps p → p.design.0 ≤ℤ design
    → All (λ r. r.design.0 ≤ℤ design → r.design.0 ≤ℤ p.design.0) ps → below design ps ≡ Some p
below_by design [] p first le all = cc
below_by design (q ∷ qs) p first le all =
    let P : Point → Type 0 = λ r. r.design.0 ≤ℤ design → r.design.0 ≤ℤ p.design.0 in
    below_step design q p qs (int_eq q.design.0 p.design.0) refl first le all
    (λ f. below_by design qs p f le (All-tail P q qs all))

above_step : (design : ℤ) (q p : Point) (qs : List Point) (b : Bool)
    → int_eq q.design.0 p.design.0 ≡ b → cond b (Some q)
    (find (λ r. int_eq r.design.0 p.design.0) qs) ≡ Some p → design ≤ℤ p.design.0
    → All (λ r. design ≤ℤ r.design.0 → p.design.0 ≤ℤ r.design.0) (q ∷ qs)
    → (find (λ r. int_eq r.design.0 p.design.0) qs ≡ Some p → above design qs ≡ Some p)
    → lower (not_below design q) (above design qs) ≡ Some p
above_step design q p qs true e first le all ih =
    let P : Point → Type 0 = λ r. design ≤ℤ r.design.0 → p.design.0 ≤ℤ r.design.0 in
    let same : q ≡ p = cc in
    let Q : Point → Type 0 = λ z. lower (not_below design z) (above design qs) ≡ Some p in
    subst Q (sym same) (lower_first design p (above design qs) le
    (above_holds P design qs (All-tail P q qs all)))
above_step design q p qs false e first le all ih =
    let P : Point → Type 0 = λ r. design ≤ℤ r.design.0 → p.design.0 ≤ℤ r.design.0 in
    ap (lower (not_below design q)) (ih first) ∙ lower_later design q p (All-head P q qs all) e

above_by : (design : ℤ) (ps : List Point) (p : Point) → IsFirst ps p → design ≤ℤ p.design.0
    → All (λ r. design ≤ℤ r.design.0 → p.design.0 ≤ℤ r.design.0) ps → above design ps ≡ Some p
above_by design [] p first le all = cc
above_by design (q ∷ qs) p first le all =
    let P : Point → Type 0 = λ r. design ≤ℤ r.design.0 → p.design.0 ≤ℤ r.design.0 in
    above_step design q p qs (int_eq q.design.0 p.design.0) refl first le all
    (λ f. above_by design qs p f le (All-tail P q qs all))

pub below_is : (design : ℤ) (ps : List Point) (p : Point) → IsBelow ps design p
    → below design ps ≡ Some p
below_is design ps p h = below_by design ps p h.first h.at_most h.nearest

pub above_is : (design : ℤ) (ps : List Point) (p : Point) → IsAbove ps design p
    → above design ps ≡ Some p
above_is design ps p h = above_by design ps p h.first h.at_least h.nearest

-- where all points are on one side there is no neighbour on the other

ruled_out : (Q : Point → Type 0) (o : Option Point) → ((q : Point) → ¬ (Q q)) → IfSome o Q
    → o ≡ None
ruled_out Q None f h = refl
ruled_out Q (Some q) f h = absurd (f q h)

pub none_below : (design : ℤ) (ps : List Point) → All (λ r. design <ℤ r.design.0) ps
    → below design ps ≡ None
none_below design ps h =
    let P : Point → Type 0 = λ r. design <ℤ r.design.0 in
    ruled_out (λ q. (q.design.0 ≤ℤ design) × P q) (below design ps)
    (λ q f. let le = f.0 in let lt = f.1 in omega (arith, ints)) (below_holds P design ps h)

pub none_above : (design : ℤ) (ps : List Point) → All (λ r. r.design.0 <ℤ design) ps
    → above design ps ≡ None
none_above design ps h =
    let P : Point → Type 0 = λ r. r.design.0 <ℤ design in
    ruled_out (λ q. (design ≤ℤ q.design.0) × P q) (above design ps)
    (λ q f. let le = f.0 in let lt = f.1 in omega (arith, ints)) (above_holds P design ps h)

-- the reading

between_same : (p : Point) (design : ℤ) → between p p design ≡ p.user.0
between_same p design = grind (arith, ints)

pub at_itself : (design : ℤ) (ps : List Point) (p : Point) → IsFirst ps p → p.design.0 ≡ design
    → reading (below design ps) (above design ps) design ≡ p.user.0
at_itself design ps p first at =
    let low : below design ps ≡ Some p =
    below_by design ps p first (omega (arith, ints)) (λ k d l. λ le. omega (arith, ints)) in
    let high : above design ps ≡ Some p =
    above_by design ps p first (omega (arith, ints)) (λ k d l. λ le. omega (arith, ints)) in
    ap (λ o. reading o (above design ps) design) low ∙ ap (λ o. reading (Some p) o design) high
    ∙ between_same p design

-- a part of the way between two numbers lies between what they lie between
part_bounded : (u v part whole low high : ℤ) → pos 0 <ℤ whole → pos 0 ≤ℤ part → part ≤ℤ whole
    → (low ≤ℤ u) × (u ≤ℤ high) → (low ≤ℤ v) × (v ≤ℤ high)
    → (low ≤ℤ (u +ℤ nearest ((v -ℤ u) *ℤ part) whole))
    × ((u +ℤ nearest ((v -ℤ u) *ℤ part) whole) ≤ℤ high)
part_bounded u v part whole low high p k l at_u at_v =
    let low_u = at_u.0 in
    let high_u = at_u.1 in
    let low_v = at_v.0 in
    let high_v = at_v.1 in
    by_lt_z (v -ℤ u) (pos 0)
    (λ less.
    let bounds = part_down (v -ℤ u) part whole p k l (omega (arith, ints)) in
    (omega (arith, ints), omega (arith, ints)))
    (λ least.
    let bounds = part_up (v -ℤ u) part whole p k l least in
    (omega (arith, ints), omega (arith, ints)))

between_bounded : (p q : Point) (design low high : ℤ) (b : Bool) → int_lt p.design.0 q.design.0 ≡ b
    → p.design.0 ≤ℤ design → design ≤ℤ q.design.0 → (low ≤ℤ p.user.0) × (p.user.0 ≤ℤ high)
    → (low ≤ℤ q.user.0) × (q.user.0 ≤ℤ high)
    → (low ≤ℤ cond b (p.user.0 +ℤ nearest ((q.user.0 -ℤ p.user.0) *ℤ (design -ℤ p.design.0))
    (q.design.0 -ℤ p.design.0)) p.user.0) ×
    (cond b (p.user.0 +ℤ nearest ((q.user.0 -ℤ p.user.0) *ℤ (design -ℤ p.design.0))
    (q.design.0 -ℤ p.design.0)) p.user.0 ≤ℤ high)
between_bounded p q design low high true e from to h k =
    let less : p.design.0 <ℤ q.design.0 = grind (arith, ints) in
    part_bounded p.user.0 q.user.0 (design -ℤ p.design.0) (q.design.0 -ℤ p.design.0) low high
    (omega (arith, ints)) (omega (arith, ints)) (omega (arith, ints)) h k
between_bounded p q design low high false e from to h k = h

pub reading_bounded : (a b : Option Point) (design low high : ℤ) → ((a ≡ None) → (b ≡ None) → ⊥)
    → IfSome a (λ q. (q.design.0 ≤ℤ design) × ((low ≤ℤ q.user.0) × (q.user.0 ≤ℤ high)))
    → IfSome b (λ q. (design ≤ℤ q.design.0) × ((low ≤ℤ q.user.0) × (q.user.0 ≤ℤ high)))
    → (low ≤ℤ reading a b design) × (reading a b design ≤ℤ high)
reading_bounded (Some p) (Some q) design low high some h k =
    between_bounded p q design low high (int_lt p.design.0 q.design.0) refl h.0 k.0 h.1 k.1
reading_bounded (Some p) None design low high some h k = h.1
reading_bounded None (Some q) design low high some h k = k.1
reading_bounded None None design low high some h k = absurd (some refl refl)

-- where there is a point there is a neighbour

no_higher : (a b : Option Point) → higher a b ≡ None → (a ≡ None) × (b ≡ None)
no_higher None b e = (refl, e)
no_higher (Some p) None e = cc
no_higher (Some p) (Some q) e =
    elim (int_lt p.design.0 q.design.0) as (λ b. cond b (Some q) (Some p) ≡ None
    → (Some p ≡ None) × (Some q ≡ None)) [
      | true ↦ λ f. cc
      | false ↦ λ f. cc
    ] e

no_lower : (a b : Option Point) → lower a b ≡ None → (a ≡ None) × (b ≡ None)
no_lower None b e = (refl, e)
no_lower (Some p) None e = cc
no_lower (Some p) (Some q) e =
    elim (int_lt q.design.0 p.design.0) as (λ b. cond b (Some q) (Some p) ≡ None
    → (Some p ≡ None) × (Some q ≡ None)) [
      | true ↦ λ f. cc
      | false ↦ λ f. cc
    ] e

one_side : (design : ℤ) (p : Point) → not_above design p ≡ None → not_below design p ≡ None → ⊥
one_side design p e f = grind (arith, ints)

pub some_neighbour : (design : ℤ) (ps : List Point) → 0 < length ps → below design ps ≡ None
    → above design ps ≡ None → ⊥
some_neighbour design [] h e f = absurd (omega arith)
some_neighbour design (p ∷ ps) h e f =
    one_side design p (no_higher (not_above design p) (below design ps) e).0
    (no_lower (not_below design p) (above design ps) f).0

pub below_side : (design : ℤ) (ps : List Point) (o : Option Point) → o ≡ below design ps
    → IfSome o (λ p. p.design.0 ≤ℤ design)
below_side design ps o e =
    let P : Option Point → Type 0 = λ o. IfSome o (λ p. p.design.0 ≤ℤ design) in
    subst P (sym e) (first_fact (λ p. p.design.0 ≤ℤ design) (λ p. Unit {0}) (below design ps)
    (below_holds (λ p. Unit {0}) design ps (λ k d l. tt)))

pub above_side : (design : ℤ) (ps : List Point) (o : Option Point) → o ≡ above design ps
    → IfSome o (λ p. design ≤ℤ p.design.0)
above_side design ps o e =
    let P : Option Point → Type 0 = λ o. IfSome o (λ p. design ≤ℤ p.design.0) in
    subst P (sym e) (first_fact (λ p. design ≤ℤ p.design.0) (λ p. Unit {0}) (above design ps)
    (above_holds (λ p. Unit {0}) design ps (λ k d l. tt)))

pub value_is : (masters : List Master) (axis : ℕ) (design u : ℤ) (low high : Option Point)
    → low ≡ below design (points_of masters axis) → high ≡ above design (points_of masters axis)
    → u ≡ reading low high design → u ≡ user_at (points_of masters axis) design
unfolding user_at
value_is masters axis design u low high l h e =
    e ∙ ap (λ o. reading o high design) l ∙
    ap (λ o. reading (below design (points_of masters axis)) o design) h
