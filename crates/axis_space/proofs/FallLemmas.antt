-- Where pairs in their order don't rise: the first neighbours that don't are where pairs of the set
-- don't, and where there are none the list is the only rising one.
use Rattle.std.proofs.Common.{◌≡◌, ◌≢◌, zero, suc, inl, inr, arith, refl, sym, subst, ◌∙◌, ◌≤ℤ◌}
use Rattle.std.proofs.Common.{Bool, true, false, cond, List, [], ◌∷◌, Some, None, ap, Ok, Err}
use Rattle.std.proofs.Common.{Result, ℕ, Option, ℤ}
use Rattle.std.proofs.lemmas.Int.{ints}
use Rattle.std.proofs.lemmas.List.Elements.{All-cons, All-head, All-tail}
use Rattle.std.proofs.lemmas.List.Kept.{AllPairs-cons}
use Rattle.std.specs.Prelude.{AllPairs, Contains, All}
use Rattle.std.specs.List.{AllByRecursion}
use Rattle.std.specs.List.Sorted.{IsStrictlySortedBy}
use Rattle.std.specs.declared.cmp.Ordering.TheVariants.{Less}
use Rattle.fixed_math.specs.declared.F2Dot14.{F2Dot14}
use Rattle.font_ir.specs.AxisMaps.{Pair, Rises, IsRisingList, pairs_of}
use Rattle.axis_space.specs.AxisPairs.{Falls, IsFirstFall, pair_cmp, in_order, rises, fall_after}
use Rattle.axis_space.specs.AxisPairs.{first_fall, Orders, avar_pairs, judged_by}
use Rattle.font_ir.specs.declared.header.Master.{Master}
use Rattle.axis_space.proofs.PairLemmas.{before, not_before_itself, before_from_rises}
use Rattle.axis_space.proofs.PairLemmas.{contains_head, contains_tail, contains_none}
use Rattle.axis_space.proofs.PairLemmas.{contains_cases, each_of, of_each, same_list}
use Rattle.axis_space.proofs.PairLemmas.{in_order_sorted, in_order_keeps, in_order_from}

-- a list that rises, by recursion
abbrev Climbs : List Pair → Type 0
Climbs [] = Unit {0}
Climbs (p ∷ ps) = AllByRecursion (Rises p) ps × Climbs ps

rises_far : (p q r : Pair) → Rises p q → Rises q r → Rises p r
rises_far p q r h k = (omega (arith, ints), omega (arith, ints))

rises_true : (p q : Pair) → rises p q ≡ true → Rises p q
rises_true p q e = (grind (arith, ints), grind (arith, ints))

rises_false : (p q : Pair) → rises p q ≡ false → ¬ (Rises p q)
rises_false p q e (h, k) = grind (arith, ints)

-- between lists by recursion and by places

all_of_each : (P : Pair → Type 0) (xs : List Pair) → AllByRecursion P xs → All P xs
all_of_each P [] h = λ k d l. absurd (omega arith)
all_of_each P (x ∷ xs) h = All-cons P x xs h.0 (all_of_each P xs h.1)

pairs_from_climbs : (ps : List Pair) → Climbs ps → AllPairs Rises ps
pairs_from_climbs [] c = λ i j d h k. absurd (omega arith)
pairs_from_climbs (p ∷ ps) c = AllPairs-cons Rises p ps (all_of_each (Rises p) ps c.0)
    (pairs_from_climbs ps c.1)

each_of_all : (P : Pair → Type 0) (xs : List Pair) → All P xs → AllByRecursion P xs
each_of_all P [] h = tt
each_of_all P (x ∷ xs) h = (All-head P x xs h, each_of_all P xs (All-tail P x xs h))

first_pairs : (p : Pair) (ps : List Pair) → AllPairs Rises (p ∷ ps) → All (Rises p) ps
first_pairs p ps h = λ k d l. h zero (suc k) d (omega arith) (omega arith)

later_pairs : (p : Pair) (ps : List Pair) → AllPairs Rises (p ∷ ps) → AllPairs Rises ps
later_pairs p ps h = λ i j d l k. h (suc i) (suc j) d (omega arith) (omega arith)

climbs_from_pairs : (ps : List Pair) → AllPairs Rises ps → Climbs ps
climbs_from_pairs [] h = tt
climbs_from_pairs (p ∷ ps) h =
    (each_of_all (Rises p) ps (first_pairs p ps h), climbs_from_pairs ps (later_pairs p ps h))

climbs_sorted : (ps : List Pair) → Climbs ps → IsStrictlySortedBy pair_cmp ps
unfolding IsStrictlySortedBy
climbs_sorted [] c = tt
climbs_sorted (p ∷ ps) c =
    let P : Pair → Type 0 = λ q. pair_cmp p q ≡ Less in (
      of_each P ps (λ q h. before_from_rises p q (each_of (Rises p) ps q c.0 h)),
      climbs_sorted ps
          c.1,
    )

-- a list that rises has no two members that don't

climbs_rise : (ps : List Pair) → Climbs ps → (p q : Pair) → Contains ps p → Contains ps q → p ≢ q
    → p.0.0 ≤ℤ q.0.0 → Rises p q
climbs_rise [] c p q h k ne le = absurd (contains_none p h)
climbs_rise (x ∷ xs) c p q h k ne le =
    elim (contains_cases x xs p h) [
      | inl p_first ↦ elim (contains_cases x xs q k) [
        | inl q_first ↦ absurd (ne (sym p_first ∙ q_first))
        | inr q_later ↦ subst (λ (z : Pair). Rises z q) p_first (each_of (Rises x) xs q c.0 q_later)
      ]
      | inr p_later ↦ elim (contains_cases x xs q k) [
        | inl q_first ↦ let up : Rises q p = subst (λ (z : Pair). Rises z p) q_first
            (each_of (Rises x) xs p c.0 p_later) in
            absurd (omega (arith, ints, up.0))
        | inr q_later ↦ climbs_rise xs c.1 p q p_later q_later ne le
      ]
    ]

rising_never_falls : (set ps : List Pair) → IsRisingList set ps → (p q : Pair) → ¬ (Falls set p q)
rising_never_falls set ps r p q f =
    f.not_rising (climbs_rise ps (climbs_from_pairs ps r.rising) p q ((r.members p).1 f.first)
    ((r.members q).1 f.second) f.different f.not_below)

-- two rising lists of a set are one
pub one_rising_list : (set ps qs : List Pair) → IsRisingList set ps → IsRisingList set qs → ps ≡ qs
one_rising_list set ps qs r s =
    same_list ps qs (climbs_sorted ps (climbs_from_pairs ps r.rising))
    (climbs_sorted qs (climbs_from_pairs qs s.rising))
    (λ p h. (s.members p).1 ((r.members p).0 h)) (λ p h. (r.members p).1 ((s.members p).0 h))

-- neighbours that rise make a list that rises

climbs_step : (p q : Pair) (qs : List Pair) (b : Bool) → rises p q ≡ b
    → (fall_after q qs ≡ None → Climbs (q ∷ qs)) → cond b (fall_after q qs) (Some q.0) ≡ None
    → Climbs (p ∷ (q ∷ qs))
climbs_step p q qs true e ih none =
    let up : Rises p q = rises_true p q e in
    let rest : Climbs (q ∷ qs) = ih none in
    ((up, of_each (Rises p) qs (λ r h. rises_far p q r up (each_of (Rises q) qs r rest.0 h))), rest)
climbs_step p q qs false e ih none = cc

climbs_after : (p : Pair) (ps : List Pair) → fall_after p ps ≡ None → Climbs (p ∷ ps)
climbs_after p [] none = (tt, tt)
climbs_after p (q ∷ qs) none = climbs_step p q qs (rises p q) refl (climbs_after q qs) none

-- the first neighbours that don't rise

through : (q a b : Pair) → q.0.0 ≤ℤ a.0.0 → a.0.0 ≤ℤ b.0.0 → q.0.0 ≤ℤ b.0.0
through q a b h k = omega (arith, ints)

fall_here : (p q : Pair) (qs : List Pair) → AllByRecursion (λ z. pair_cmp p z ≡ Less) (q ∷ qs)
    → AllByRecursion (λ z. pair_cmp q z ≡ Less) qs → ¬ (Rises p q) → IsFirstFall (p ∷ (q ∷ qs)) q.0
fall_here p q qs above_p above_q not_up =
    let from_q : (b : Pair) → Contains (q ∷ qs) b
    → q.0.0 ≤ℤ b.0.0 = λ b h. elim (contains_cases q qs b h) [
      | inl e ↦ subst (λ (z : Pair). q.0.0 ≤ℤ z.0.0) e (omega (arith, ints))
      | inr more ↦ before q b (each_of (λ z. pair_cmp q z ≡ Less) qs b above_q more)
    ] in
    record {
      reached = (
        p,
        q,
        record {
          first = contains_head p (q ∷ qs);
          second = contains_tail p (q ∷ qs) q (contains_head q qs);
          different = not_before_itself p q above_p.0;
          not_below = before p q above_p.0;
          not_rising = not_up;
        },
        refl,
      );
      least = λ a b f. elim (contains_cases p (q ∷ qs) b f.second) [
        | inr b_later ↦ from_q b b_later
        | inl b_first ↦ elim (contains_cases p (q ∷ qs) a f.first) [
          | inl a_first ↦ absurd (f.different (sym a_first ∙ b_first))
          | inr a_later ↦ through q a b (from_q a a_later) f.not_below
        ]
      ];
    }

-- nothing at or after q is at or before p, which q rises from
past : (p q a b : Pair) → Rises p q → q.0.0 ≤ℤ a.0.0 → a.0.0 ≤ℤ b.0.0 → p ≡ b → ⊥
past p q a b up q_a a_b same =
    let at_p : a.0.0 ≤ℤ p.0.0 = subst (λ (z : Pair). a.0.0 ≤ℤ z.0.0) (sym same) a_b in
    let less = up.0 in
    omega (arith, ints)

fall_later : (p q : Pair) (qs : List Pair) (x : F2Dot14)
    → AllByRecursion (λ z. pair_cmp q z ≡ Less) qs → Rises p q → IsFirstFall (q ∷ qs) x
    → IsFirstFall (p ∷ (q ∷ qs)) x
fall_later p q qs x above_q up rest =
    let lifted : (a b : Pair) → Falls (q ∷ qs) a b → Falls (p ∷ (q ∷ qs)) a b = λ a b f. record {
      first = contains_tail p (q ∷ qs) a f.first;
      second = contains_tail p (q ∷ qs) b f.second;
      different = f.different;
      not_below = f.not_below;
      not_rising = f.not_rising;
    } in
    let from_q : (b : Pair) → Contains (q ∷ qs) b
    → q.0.0 ≤ℤ b.0.0 = λ b h. elim (contains_cases q qs b h) [
      | inl e ↦ subst (λ (z : Pair). q.0.0 ≤ℤ z.0.0) e (omega (arith, ints))
      | inr more ↦ before q b (each_of (λ z. pair_cmp q z ≡ Less) qs b above_q more)
    ] in
    let (a0, b0, f0, e0) = rest.reached in
    record {
      reached = (a0, b0, lifted a0 b0 f0, e0);
      least = λ a b f. elim (contains_cases p (q ∷ qs) b f.second) [
        | inl b_first ↦ elim (contains_cases p (q ∷ qs) a f.first) [
          | inl a_first ↦ absurd (f.different (sym a_first ∙ b_first))
          | inr a_later ↦ absurd (past p q a b up (from_q a a_later) f.not_below b_first)
        ]
        | inr b_later ↦ elim (contains_cases p (q ∷ qs) a f.first) [
          | inr a_later ↦ rest.least a b (record {
            first = a_later;
            second = b_later;
            different = f.different;
            not_below
                = f.not_below;
            not_rising = f.not_rising;
          })
          | inl a_first ↦ elim (contains_cases q qs b b_later) [
            | inl b_q ↦ absurd (f.not_rising (subst (λ (z : Pair). Rises z b) a_first
                (subst (Rises p) b_q up)))
            | inr b_more ↦ rest.least q b (record {
              first = contains_head q qs;
              second = b_later;
              different = not_before_itself q b (each_of (λ z. pair_cmp q z ≡ Less) qs b above_q
                  b_more);
              not_below = from_q b b_later;
              not_rising = λ q_b. f.not_rising (subst (λ (z : Pair). Rises z b) a_first
                  (rises_far p q b up q_b));
            })
          ]
        ]
      ];
    }

first_step : (p q : Pair) (qs : List Pair) (x : F2Dot14) (b : Bool) → rises p q ≡ b
    → AllByRecursion (λ z. pair_cmp p z ≡ Less) (q ∷ qs)
    → AllByRecursion (λ z. pair_cmp q z ≡ Less) qs
    → (fall_after q qs ≡ Some x → IsFirstFall (q ∷ qs) x)
    → cond b (fall_after q qs) (Some q.0) ≡ Some x → IsFirstFall (p ∷ (q ∷ qs)) x
first_step p q qs x true e above_p above_q ih some
    = fall_later p q qs x above_q (rises_true p q e) (ih some)
first_step p q qs x false e above_p above_q ih some =
    let at : q.0 ≡ x = cc in
    subst (IsFirstFall (p ∷ (q ∷ qs))) at (fall_here p q qs above_p above_q (rises_false p q e))

first_after : (p : Pair) (ps : List Pair) (x : F2Dot14) → IsStrictlySortedBy pair_cmp (p ∷ ps)
    → fall_after p ps ≡ Some x → IsFirstFall (p ∷ ps) x
unfolding IsStrictlySortedBy
first_after p [] x s some = cc
first_after p (q ∷ qs) x s some =
    first_step p q qs x (rises p q) refl s.0 s.1.0 (λ e. first_after q qs x s.1 e) some

first_in : (ps : List Pair) (x : F2Dot14) → IsStrictlySortedBy pair_cmp ps → first_fall ps ≡ Some x
    → IsFirstFall ps x
first_in [] x s some = cc
first_in (p ∷ ps) x s some = first_after p ps x s some

climbs_in : (ps : List Pair) → first_fall ps ≡ None → Climbs ps
climbs_in [] none = tt
climbs_in (p ∷ ps) none = climbs_after p ps none

-- the same over the set

falls_over : (set ps : List Pair) → ((p : Pair) → Contains set p → Contains ps p) → (p q : Pair)
    → Falls set p q → Falls ps p q
falls_over set ps into p q f = record {
  first = into p f.first;
  second = into q f.second;
  different = f.different;
  not_below = f.not_below;
  not_rising = f.not_rising;
}

first_over : (set : List Pair) (x : F2Dot14) → IsFirstFall (in_order set) x → IsFirstFall set x
first_over set x f =
    let (p, q, falls, at) = f.reached in
    record {
      reached = (p, q, falls_over (in_order set) set (in_order_from set) p q falls, at);
      least = λ a b g. f.least a b (falls_over set (in_order set) (in_order_keeps set) a b g);
    }

never_rising : (set : List Pair) (x : F2Dot14) → IsFirstFall set x → (ps : List Pair)
    → ¬ (IsRisingList set ps)
never_rising set x f ps r = let (p, q, falls, at) = f.reached
    in rising_never_falls set ps r p q falls

pub refused : (set : List Pair) (x : F2Dot14) → first_fall (in_order set) ≡ Some x
    → IsFirstFall set x × ((ps : List Pair) → ¬ (IsRisingList set ps))
refused set x some =
    let first : IsFirstFall set x = first_over set x
    (first_in (in_order set) x (in_order_sorted set) some) in
    (first, never_rising set x first)

rising_list : (set : List Pair) → first_fall (in_order set) ≡ None → IsRisingList set (in_order set)
rising_list set none = record {
  rising = pairs_from_climbs (in_order set) (climbs_in (in_order set) none);
  members = λ p. (in_order_from set p, in_order_keeps set p);
}

pub accepted : (set qs : List Pair) → qs ≡ in_order set → first_fall (in_order set) ≡ None
    → IsRisingList set qs × ((ps : List Pair) → IsRisingList set ps → ps ≡ qs)
accepted set qs e none =
    let rising : IsRisingList set qs = subst (IsRisingList set) (sym e) (rising_list set none) in
    (rising, λ ps r. one_rising_list set ps qs r rising)

judged_orders : (set : List Pair) (o : Option F2Dot14) → first_fall (in_order set) ≡ o
    → Orders set (judged_by o (in_order set))
judged_orders set None e = accepted set (in_order set) refl e
judged_orders set (Some x) e = refused set x e

-- the function gives what is made of the set
pub avar_pairs_orders : (masters : List Master) (origin axis : ℕ)
    → Orders (pairs_of masters origin axis) (avar_pairs masters origin axis)
unfolding avar_pairs
avar_pairs_orders masters origin axis =
    let set = pairs_of masters origin axis in
    judged_orders set (first_fall (in_order set)) refl

first_fall_at_most : (set : List Pair) (x y : F2Dot14) → IsFirstFall set x → IsFirstFall set y
    → y.0 ≤ℤ x.0
first_fall_at_most set x y f g =
    let (p, q, falls, at) = f.reached in
    subst (λ (z : F2Dot14). y.0 ≤ℤ z.0) at (g.least p q falls)

one_fall : (set : List Pair) (x y : F2Dot14) → IsFirstFall set x → IsFirstFall set y → x ≡ y
one_fall set x y f g =
    let low = first_fall_at_most set x y f g in
    let high = first_fall_at_most set y x g f in
    let made : ℤ → F2Dot14 = λ z. record { 0 = z } in
    let same : x.0 ≡ y.0 = omega (arith, ints) in
    ap made same

-- and only one thing is made of a set
pub orders_once : (set : List Pair) (a b : Result (List Pair) F2Dot14) → Orders set a → Orders set b
    → a ≡ b
orders_once set (Ok ps) (Ok qs) h k = ap Ok (k.1 ps h.0)
orders_once set (Ok ps) (Err y) h k = absurd (k.1 ps h.0)
orders_once set (Err x) (Ok qs) h k = absurd (h.1 qs k.0)
orders_once set (Err x) (Err y) h k = ap Err (one_fall set x y h.0 k.0)
