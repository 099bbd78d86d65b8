-- Laws of the least refusal: it is among them and none of them is less, so the order in which they
-- are met doesn't matter. fontc's own.
use Rattle.std.proofs.Common.{◌≡◌, Bool, true, false, cond, inl, inr, List, [], ◌∷◌, ◌++◌}
use Rattle.std.proofs.Common.{Some, None, refl, sym, ap, ◌∙◌, subst}
use Rattle.std.specs.Prelude.{◌≢◌, ◌↔◌}
use Rattle.std.specs.Ordering.{is_gt, is_lt, ordering_reverse}
use Rattle.std.specs.Cmp.{upto, tied_itself}
use Rattle.std.specs.declared.cmp.Ordering.{Ordering}
use Rattle.std.specs.declared.cmp.Ordering.TheVariants.{Less, Equal, Greater}
use Rattle.std.proofs.lemmas.Bool.{false≢true}
use Rattle.refusal_codes.specs.declared.refusal.Refusal.{Refusal}
use Rattle.refusal_codes.specs.Order.{refusal_cmp}
use Rattle.job_graph.specs.Members.{In, In-append_left, In-append_right, In-append_cases}
use Rattle.font_graph.specs.Fails.{IsLeast}
use Rattle.font_graph.specs.RefusalOrder.{refusals_ordered, refusal_exact}
use Rattle.font_graph.specs.Verdicts.{lesser, least}

-- ---- the order

-- r is not above other
abbrev UpTo : Refusal → Refusal → Type 0
UpTo r other = is_gt (refusal_cmp r other) ≡ false

turned : (o : Ordering) → is_gt (ordering_reverse o) ≡ is_lt o
turned Less = refl
turned Equal = refl
turned Greater = refl

gt_is_lt : (r s : Refusal) → is_gt (refusal_cmp r s) ≡ is_lt (refusal_cmp s r)
gt_is_lt r s = ap is_gt (refusals_ordered.antisymm r s) ∙ turned (refusal_cmp s r)

not_less : (r other : Refusal) → UpTo r other → refusal_cmp other r ≢ Less
not_less r other h less = false≢true (sym h ∙ gt_is_lt r other ∙ ap is_lt less)

not_lt : (o : Ordering) → o ≢ Less → is_lt o ≡ false
not_lt Less h = absurd (h refl)
not_lt Equal h = refl
not_lt Greater h = refl

up_to : (r other : Refusal) → refusal_cmp other r ≢ Less → UpTo r other
up_to r other h = gt_is_lt r other ∙ not_lt (refusal_cmp other r) h

lt_not_gt : (o : Ordering) → is_lt o ≡ true → is_gt o ≡ false
lt_not_gt Less e = refl
lt_not_gt Equal e = refl
lt_not_gt Greater e = absurd (false≢true e)

neither : (o : Ordering) → is_gt o ≡ false → is_lt o ≡ false → o ≡ Equal
neither Less e f = absurd (false≢true (sym f))
neither Equal e f = refl
neither Greater e f = absurd (false≢true (sym e))

same : (r s : Refusal) → UpTo r s → UpTo s r → r ≡ s
same r s e f = refusal_exact r s (neither (refusal_cmp r s) e (sym (gt_is_lt s r) ∙ f))

-- what is above a refusal that isn't less than r isn't less than r
pub not_below : (r low high : Refusal) → refusal_cmp low r ≢ Less → refusal_cmp low high ≡ Less
    → refusal_cmp high r ≢ Less
not_below r low high none less = not_less r high (upto refusals_ordered r low high
    (up_to r low none) (lt_not_gt (refusal_cmp low high) (ap is_lt less)))

-- ---- the least of a list

itself : (r : Refusal) → IsLeast r (r ∷ [])
itself r = record {
  there = inl refl;
  none_less = λ other i. elim i [
    | inl e ↦ subst (λ o. refusal_cmp o r ≢ Less) e (not_less r r
        (ap is_gt (tied_itself refusals_ordered r)))
    | inr none ↦ absurd none
  ];
}

-- one more in front
chosen : (b : Bool) (r m : Refusal) (rs : List Refusal) → is_gt (refusal_cmp r m) ≡ b
    → IsLeast m rs → IsLeast (cond b m r) (r ∷ rs)
chosen true r m rs e l = record {
  there = inr l.there;
  none_less = λ other i. elim i [
    | inl is ↦ subst (λ o. refusal_cmp o m ≢ Less) is (not_less m r (gt_is_lt m r
        ∙ not_lt (refusal_cmp r m) (λ less. false≢true (sym (ap is_gt less) ∙ e))))
    | inr there ↦ l.none_less other there
  ];
}
chosen false r m rs e l = record {
  there = inl refl;
  none_less = λ other i. elim i [
    | inl is ↦ subst (λ o. refusal_cmp o r ≢ Less) is
        (not_less r r (ap is_gt (tied_itself refusals_ordered r)))
    | inr there ↦ not_less r other (upto refusals_ordered r m other e
        (up_to m other (l.none_less other there)))
  ];
}

pub least_found : (r : Refusal) (rs : List Refusal) → IsLeast (lesser r (least rs)) (r ∷ rs)
least_found r [] = itself r
least_found r (s ∷ rs) = chosen (is_gt (refusal_cmp r (lesser s (least rs)))) r
    (lesser s (least rs)) (s ∷ rs) refl (least_found s rs)

-- there is at most one
pub least_one : (r s : Refusal) (rs : List Refusal) → IsLeast r rs → IsLeast s rs → r ≡ s
least_one r s rs a b = same r s (up_to r s (a.none_less s b.there))
    (up_to s r (b.none_less r a.there))

of_some : (r s : Refusal) → Some r ≡ Some s → r ≡ s
of_some r s e = cc

-- what is computed as the least is the least
pub least_is : (rs : List Refusal) (r : Refusal) → (least rs ≡ Some r) ↔ IsLeast r rs
least_is [] r = (λ e. absurd cc, λ l. absurd l.there)
least_is (s ∷ rs) r = (
  λ e. subst (λ m. IsLeast m (s ∷ rs)) (of_some (lesser s (least rs)) r e) (least_found s rs),
  λ l. ap Some (least_one (lesser s (least rs)) r (s ∷ rs) (least_found s rs) l),
)

-- and there is none only of no refusals
pub least_none : (rs : List Refusal) → (least rs ≡ None) ↔ (rs ≡ [])
least_none [] = (λ e. refl, λ e. refl)
least_none (r ∷ rs) = (λ e. absurd cc, λ e. absurd cc)

pub nothing_in : (rs : List Refusal) → ((r : Refusal) → In r rs → ⊥) → rs ≡ []
nothing_in [] none = refl
nothing_in (r ∷ rs) none = absurd (none r (inl refl))

least_among : (r : Refusal) (rs ss : List Refusal) → ((s : Refusal) → In s rs ↔ In s ss)
    → IsLeast r rs → IsLeast r ss
least_among r rs ss alike l = record {
  there = (alike r).0 l.there;
  none_less = λ other i. l.none_less other ((alike other).1 i);
}

-- lists with the same members have the same least one
pub least_alike : (rs ss : List Refusal) → ((r : Refusal) → In r rs ↔ In r ss)
    → least rs ≡ least ss
least_alike [] ss alike = sym ((least_none ss).1 (nothing_in ss (λ r i. (alike r).1 i)))
least_alike (r ∷ rs) ss alike = sym ((least_is ss (lesser r (least rs))).1
    (least_among (lesser r (least rs)) (r ∷ rs) ss alike (least_found r rs)))

-- the least of some and of others is the least of the one's least and of the others
pub least_through : (n m : Refusal) (ms rs : List Refusal) → IsLeast m ms → IsLeast n (m ∷ rs)
    → IsLeast n (ms ++ rs)
least_through n m ms rs of_ms of_all = record {
  there = elim of_all.there [
    | inl e ↦ In-append_left ms rs n (subst (λ x. In x ms) e of_ms.there)
    | inr i ↦ In-append_right ms rs n i
  ];
  none_less = λ other i. elim (In-append_cases ms rs other i) [
    | inl i ↦ not_less n other (upto refusals_ordered n m other
        (up_to n m (of_all.none_less m (inl refl))) (up_to m other (of_ms.none_less other i)))
    | inr i ↦ of_all.none_less other (inr i)
  ];
}
