-- What the function tells of places is the first that an earlier one equals, and what a set of the
-- places so far knows.
use Rattle.std.proofs.Common.{◌≡◌, ◌≢◌, ℕ, ◌+◌, ◌<◌, ◌≤◌, ◌||◌, inl, inr, Bool, true, false, cond}
use Rattle.std.proofs.Common.{List, [], length, get_or, take, Some, None, refl, sym, ap, ◌∙◌, subst}
use Rattle.std.proofs.Common.{arith, ℤ, not}
use Rattle.std.specs.Bool.{Decides}
use Rattle.std.specs.Cmp.{signed_Decides}
use Rattle.std.specs.Cmp.Lexicographic.{pointwise_decides, slice_cmp, lists_ties}
use Rattle.std.specs.List.{AllPairs, list_any}
use Rattle.std.specs.Ordering.{int_cmp, int_eq, is_eq}
use Rattle.std.specs.declared.cmp.Ordering.{Ordering}
use Rattle.std.proofs.lemmas.Bool.Decides.{same_from_decides}
use Rattle.std.proofs.lemmas.List.{get_or-take, length-take-le, get_or_default, take_all}
use Rattle.std.proofs.lemmas.List.Folds.{Any-from_list_any, list_any_at, list_any_more}
use Rattle.fixed_math.specs.declared.F2Dot14.{F2Dot14}
use Rattle.font_ir.specs.Places.{place_at}
use Rattle.axis_space.specs.Repeats.{TellsRepeat, same_place, is_again, first_repeat}
use Rattle.axis_space.proofs.IndexLemmas.{IsFirstPassing, NonePasses, some_index, no_index}
use Rattle.axis_space.proofs.IndexLemmas.{first_passing}

abbrev Place : Type 0
Place = List F2Dot14

-- the test of two places

number_decides : (a b : F2Dot14) → Decides (int_eq a.0 b.0) (a ≡ b)
number_decides a b =
    let made : ℤ → F2Dot14 = λ z. record { 0 = z } in
    let raw : F2Dot14 → ℤ = λ x. x.0 in
    let d = signed_Decides a.0 b.0 in
    (λ e. ap made (d.0 e), λ e. d.1 (ap raw e))

same_decides : (a b : Place) → Decides (same_place a b) (a ≡ b)
same_decides = pointwise_decides number_decides

abbrev number_cmp : F2Dot14 → F2Dot14 → Ordering
number_cmp a b = int_cmp a.0 b.0

-- the order of places in the set
abbrev pub place_cmp : Place → Place → Ordering
place_cmp = slice_cmp number_cmp

tied_is_same : (a b : Place) → is_eq (place_cmp a b) ≡ same_place b a
tied_is_same a b =
    sym (lists_ties number_cmp (λ x y. refl) a b)
    ∙ same_from_decides (same_place a b) (same_place b a) (same_decides a b)
    (λ e. sym ((same_decides b a).0 e), λ e. (same_decides b a).1 (sym e))

-- a place stands again where an earlier one equals it

again_at : (places : List Place) (i j : ℕ) → i < j → j < length places
    → place_at places i ≡ place_at places j → is_again places j ≡ true
again_at places i j below within same =
    let long : length (take j places) ≡ j = length-take-le j places (omega (arith, within)) in
    list_any_at (same_place (place_at places j)) (take j places) i [] (omega (arith, long, below))
    ((same_decides (place_at places j) (get_or (take j places) i [])).1
    (sym (get_or-take j places i [] below ∙ same)))

again_of : (places : List Place) (j : ℕ) → j < length places → is_again places j ≡ true
    → (i : ℕ) × (i < j) × (place_at places i ≡ place_at places j)
again_of places j within again =
    let long : length (take j places) ≡ j = length-take-le j places (omega (arith, within)) in
    let (i, x, there, at, passes) =
    Any-from_list_any (same_place (place_at places j)) (take j places) again in
    let below : i < j = omega (arith, long, there) in (
      i,
      below,
      get_or_default places i [] x (omega (arith, below, within))
          ∙ sym (get_or-take j places i x below) ∙ at
          ∙ sym ((same_decides (place_at places j) x).0 passes),
    )

apart : (places : List Place) (n : ℕ) → n ≤ length places → NonePasses (is_again places) n
    → AllPairs (λ a b. a ≢ b) (take n places)
apart places n few none = λ i j d below within same.
    let long : length (take n places) ≡ n = length-take-le n places few in
    let later : j < n = omega (arith, long, within) in
    let first : i < n = omega (arith, below, later) in
    let at_i = get_or-take n places i d first
    ∙ get_or_default places i d [] (omega (arith, first, few)) in
    let at_j = get_or-take n places j d later
    ∙ get_or_default places j d [] (omega (arith, later, few)) in
    let again : is_again places j ≡ true =
    again_at places i j below (omega (arith, later, few)) (sym at_i ∙ same ∙ at_j) in
    let not_again = none j later in
    cc

-- the function

pub told_none : (places : List Place) → NonePasses (is_again places) (length places)
    → None ≡ first_repeat places
unfolding first_repeat
told_none places none = sym (no_index (is_again places) (length places) none)

pub told_some : (places : List Place) (i : ℕ)
    → IsFirstPassing (is_again places) (length places) i → Some i ≡ first_repeat places
unfolding first_repeat
told_some places i first = sym (some_index (is_again places) (length places) i first)

pub first_repeat_tells : (places : List Place) → TellsRepeat places (first_repeat places)
first_repeat_tells places =
    elim (first_passing (is_again places) (length places)) [
      | inl none ↦ subst (TellsRepeat places) (told_none places none)
          (subst (AllPairs (λ a b. a ≢ b)) (take_all (length places) places (omega arith))
          (apart places (length places) (omega arith) none))
      | inr (i, first) ↦ let within = first.within in
          subst (TellsRepeat places) (told_some places i first) (record {
            within = within;
            again = again_of places i within first.passes;
            before = apart places i (omega (arith, within)) first.before;
          })
    ]

-- the set of the places so far

either : (a b : Bool) → cond a true b ≡ (b || a)
either true true = refl
either true false = refl
either false true = refl
either false false = refl

pub seen_more : (places : List Place) (i : ℕ) (key d q : Place) (before after : Bool)
    → i < length places → key ≡ get_or places i d
    → before ≡ list_any (same_place q) (take i places)
    → after ≡ cond (is_eq (place_cmp key q)) true before
    → after ≡ list_any (same_place q) (take (i + 1) places)
seen_more places i key d q before after within at was is =
    is ∙ ap (λ b. cond b true before) (tied_is_same key q)
    ∙ either (same_place q key) before ∙ ap (λ b. b || same_place q key) was
    ∙ ap (λ (x : Place). list_any (same_place q) (take i places) || same_place q x) at
    ∙ sym (list_any_more (same_place q) places i d within)

-- a place that was new to the set, or wasn't
is_known : (known added : Bool) → added ≡ not known → known ≡ not added
is_known true added e = cc
is_known false added e = cc

pub again_by_seen : (places : List Place) (i : ℕ) (key d : Place) (known added : Bool)
    → i < length places → key ≡ get_or places i d
    → known ≡ list_any (same_place key) (take i places) → added ≡ not known
    → is_again places i ≡ not added
again_by_seen places i key d known added within at is new =
    sym (is ∙ ap (λ (x : Place). list_any (same_place x) (take i places))
    (at ∙ get_or_default places i d [] within)) ∙ is_known known added new
