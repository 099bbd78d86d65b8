-- Which tags stand again, in the words of the list of axes.
use Rattle.std.proofs.Common.{inl, inr, ◌≡◌, ◌⊎◌, ℕ, Bool, true, false, ◌&&◌, ◌||◌, cond, List, []}
use Rattle.std.proofs.Common.{◌∷◌}
use Rattle.std.proofs.Common.{◌++◌, map, Option, Some, None, nat_eq, refl, sym, ap, ◌∙◌, subst}
use Rattle.std.proofs.Common.{true≢false}
use Rattle.std.specs.Prelude.{codes, ◌↔◌}
use Rattle.std.specs.Option.{option_map_or}
use Rattle.std.specs.List.{list_any}
use Rattle.std.specs.Cmp.Lexicographic.{pointwise}
use Rattle.std.proofs.lemmas.Bool.{eqb-true, eq-eqb}
use Rattle.std.proofs.lemmas.List.{append_assoc, append-nil, map-append}
use Rattle.std.proofs.lemmas.List.Folds.{list_any-append}
use Rattle.plist_reader.specs.declared.tree.Tree.{Tree}
use Rattle.plist_reader.specs.Tree.{find_in}
use Rattle.plist_reader.specs.Keys.{is_among}
use Rattle.refusal_codes.specs.declared.rule.Rule.{Rule}
use Rattle.refusal_codes.specs.declared.rule.Rule.TheVariants.{BadTag}
use Rattle.refusal_codes.specs.declared.first.Failure.{Failure}
use Rattle.source_values.specs.Values.{place_at}
use Rattle.source_values.specs.Asking.{fails}
use Rattle.source_values.specs.Ways.{IsOneOf}
use Rattle.source_values.specs.WayLaws.{among_left, among_right, among_cases}
use Rattle.source_axes.specs.AxisReading.{tag_text, fails_at_tag, again_by, with_tag}
use Rattle.source_axes.specs.AxisReading.{repeated_tags}
use Rattle.source_axes.specs.AxisTables.{IsRepeatedTag}

-- ---- texts

both : (a b : Bool) → (a && b) ≡ true → (a ≡ true) × (b ≡ true)
both true true e = (refl, refl)
both true false e = absurd (true≢false (sym e))
both false b e = absurd (true≢false (sym e))

same_text : (xs ys : List ℕ) → pointwise nat_eq xs ys ≡ true → xs ≡ ys
same_text [] [] e = refl
same_text [] (y ∷ ys) e = absurd (true≢false (sym e))
same_text (x ∷ xs) [] e = absurd (true≢false (sym e))
same_text (x ∷ xs) (y ∷ ys) e =
    let parts = both (nat_eq x y) (pointwise nat_eq xs ys) e in
    let head : x ≡ y = eqb-true x y parts.0 in
    let rest : xs ≡ ys = same_text xs ys parts.1 in
    cc

text_same : (xs : List ℕ) → pointwise nat_eq xs xs ≡ true
text_same [] = refl
text_same (x ∷ xs) =
    ap (λ (b : Bool). b && pointwise nat_eq xs xs) (eq-eqb x x refl) ∙ text_same xs

either : {A : Type 0} (b r : Bool) → (b || r) ≡ true → (b ≡ true → A) → (r ≡ true → A) → A
either true r n f g = f refl
either false r n f g = g n

or_right : (b : Bool) → (b || true) ≡ true
or_right true = refl
or_right false = refl

-- ---- the tags before

-- which tags there are before an axis
record Knows (t : Tree) (tags : List (List ℕ)) (before : List ℕ) : Type 0 where
  to : (text : List ℕ) → is_among text tags ≡ true → IsOneOf (map (tag_text t) before) (Some text)
  of : (text : List ℕ) → IsOneOf (map (tag_text t) before) (Some text) → is_among text tags ≡ true

knows_none : (t : Tree) → Knows t [] []
knows_none t = record {
  to = λ text e. absurd (true≢false (sym e));
  of = λ text p. absurd p;
}

last_of : (t : Tree) (before : List ℕ) (a : ℕ)
    → map (tag_text t) (before ++ a ∷ []) ≡ map (tag_text t) before ++ tag_text t a ∷ []
last_of t before a = map-append (tag_text t) before (a ∷ [])

some_same : (x y : List ℕ) → Some x ≡ Some y → x ≡ y
some_same x y e = cc

module _ (t : Tree) (tags : List (List ℕ)) (before : List ℕ) (a : ℕ) (known : Knows t tags before)
  where
    abbrev Texts : List (Option (List ℕ))
    Texts = map (tag_text t) before

    -- of a text among those before and one more
    knows_text : (text x : List ℕ) → is_among text (tags ++ x ∷ []) ≡ true
        → IsOneOf (Texts ++ Some x ∷ []) (Some text)
    knows_text text x e =
        either (is_among text tags) (list_any (pointwise nat_eq text) (x ∷ []))
        (sym (list_any-append (pointwise nat_eq text) tags (x ∷ [])) ∙ e)
        (λ p. among_left (Some text) Texts (Some x ∷ []) (known.to text p))
        (λ p. among_right (Some text) Texts (Some x ∷ [])
        (either (pointwise nat_eq text x) false p
        (λ q. inl (ap (λ (y : List ℕ). Some y) (same_text text x q)))
        (λ q. absurd (true≢false (sym q)))))

    is_there : (text x : List ℕ) → IsOneOf (Texts ++ Some x ∷ []) (Some text)
        → (is_among text tags ≡ true) ⊎ (text ≡ x)
    is_there text x p = elim (among_cases (Some text) Texts (Some x ∷ []) p) [
      | inl q ↦ inl (known.of text q)
      | inr q ↦ (elim q [ inl e ↦ inr (some_same text x e) | inr n ↦ absurd n ])
    ]

    knows_by : (o : Option (List ℕ)) (text : List ℕ)
        → ((is_among text (with_tag tags o) ≡ true) → IsOneOf (Texts ++ o ∷ []) (Some text))
        × (IsOneOf (Texts ++ o ∷ []) (Some text) → is_among text (with_tag tags o) ≡ true)
    knows_by None text = (
      λ e. among_left (Some text) Texts (None ∷ []) (known.to text e),
      λ p. elim (among_cases (Some text) Texts (None ∷ []) p) [
        | inl q ↦ known.of text q
        | inr q ↦ (elim q [ inl e ↦ absurd cc | inr n ↦ absurd n ])
      ],
    )
    knows_by (Some x) text = by (is_among x tags) refl
      where
        to_new : is_among text tags ≡ true ⊎ text ≡ x → is_among text (tags ++ x ∷ []) ≡ true
        to_new (inl e) =
            list_any-append (pointwise nat_eq text) tags (x ∷ [])
            ∙ ap (λ (b : Bool). b || list_any (pointwise nat_eq text) (x ∷ [])) e
        to_new (inr e) =
            list_any-append (pointwise nat_eq text) tags (x ∷ [])
            ∙ ap (λ (b : Bool). is_among text tags || (b || false))
            (ap (λ (y : List ℕ). pointwise nat_eq y x) e ∙ text_same x)
            ∙ or_right (is_among text tags)

        to_old : is_among x tags ≡ true → is_among text tags ≡ true ⊎ text ≡ x
            → is_among text tags ≡ true
        to_old f (inl e) = e
        to_old f (inr e) = subst (λ (y : List ℕ). is_among y tags ≡ true) (sym e) f

        by : (b : Bool) → is_among x tags ≡ b
            → ((is_among text (cond b tags (tags ++ x ∷ [])) ≡ true)
            → IsOneOf (Texts ++ Some x ∷ []) (Some text))
            × (IsOneOf (Texts ++ Some x ∷ []) (Some text)
            → is_among text (cond b tags (tags ++ x ∷ [])) ≡ true)
        by true f = (
          λ e. among_left (Some text) Texts (Some x ∷ []) (known.to text e),
          λ p. to_old f (is_there text x p),
        )
        by false f = (λ e. knows_text text x e, λ p. to_new (is_there text x p))

    knows_more : Knows t (with_tag tags (tag_text t a)) (before ++ a ∷ [])
    knows_more = record {
      to = λ text e.
          subst (λ (xs : List (Option (List ℕ))). IsOneOf xs (Some text)) (sym (last_of t before a))
          ((knows_by (tag_text t a) text).0 e);
      of = λ text p. (knows_by (tag_text t a) text).1
          (subst (λ (xs : List (Option (List ℕ))). IsOneOf xs (Some text)) (last_of t before a) p);
    }

-- ---- what is told

module _ (t : Tree) (all : List ℕ) (f : Failure) where
  abbrev Told : Type 0
  Told = (f.rule ≡ BadTag) × IsRepeatedTag t all f.place

  module _ (before : List ℕ) (a : ℕ) (behind : List ℕ) (in_order : all ≡ before ++ a ∷ behind)
      (text : List ℕ) (own : tag_text t a ≡ Some text)
      (earlier : IsOneOf (map (tag_text t) before) (Some text)) where
    at_value : (o : Option ℕ) → find_in t a (codes "tag") ≡ o
        → IsOneOf (option_map_or (fails BadTag t) o []) f → Told
    at_value None e p = absurd p
    at_value (Some value) e (inl same) = (
      ap (λ (g : Failure). g.rule) same,
      record {
        before = before;
        axis = a;
        behind = behind;
        in_order = in_order;
        text = text;
        own = own;
        earlier = earlier;
        value = value;
        there = e;
        is_place = ap (λ (g : Failure). g.place) same;
      },
    )
    at_value (Some value) e (inr n) = absurd n

  of_axis : (tags : List (List ℕ)) (before : List ℕ) (a : ℕ) (behind : List ℕ)
      → all ≡ before ++ a ∷ behind → Knows t tags before → (o : Option (List ℕ))
      → tag_text t a ≡ o → IsOneOf (again_by t tags a o) f → Told
  of_axis tags before a behind e known None own p = absurd p
  of_axis tags before a behind e known (Some text) own p = by (is_among text tags) refl p
    where
      by : (b : Bool) → is_among text tags ≡ b → IsOneOf (cond b (fails_at_tag t a) []) f → Told
      by true is p = at_value before a behind e text own (known.to text is)
          (find_in t a (codes "tag")) refl p
      by false is p = absurd p

  of_axes : (tags : List (List ℕ)) (before axes : List ℕ) → all ≡ before ++ axes
      → Knows t tags before → IsOneOf (repeated_tags t tags axes) f → Told
  of_axes tags before [] e known p = absurd p
  of_axes tags before (a ∷ axes) e known p =
      elim (among_cases f (again_by t tags a (tag_text t a))
      (repeated_tags t (with_tag tags (tag_text t a)) axes) p) [
        | inl q ↦ of_axis tags before a axes e known (tag_text t a) refl q
        | inr q ↦ of_axes (with_tag tags (tag_text t a)) (before ++ a ∷ []) axes
            (e ∙ sym (append_assoc before (a ∷ []) axes)) (knows_more t tags before a known) q
      ]

module _ (t : Tree) (axis : ℕ) (behind : List ℕ) (text : List ℕ) (own : tag_text t axis ≡ Some text)
    (value : ℕ) (there : find_in t axis (codes "tag") ≡ Some value) where
  abbrev here : Failure
  here = record { rule = BadTag; place = place_at t value }

  at_axis : (tags : List (List ℕ)) → is_among text tags ≡ true
      → IsOneOf (again_by t tags axis (tag_text t axis)) here
  at_axis tags e =
      subst (λ (o : Option (List ℕ)). IsOneOf (again_by t tags axis o) here) (sym own)
      (subst (λ (b : Bool). IsOneOf (cond b (fails_at_tag t axis) []) here) (sym e)
      (subst (λ (o : Option ℕ). IsOneOf (option_map_or (fails BadTag t) o []) here) (sym there)
      (inl refl)))

  to_axes : (tags : List (List ℕ)) (before front : List ℕ) → Knows t tags before
      → IsOneOf (map (tag_text t) (before ++ front)) (Some text)
      → IsOneOf (repeated_tags t tags (front ++ axis ∷ behind)) here
  to_axes tags before [] known p =
      among_left here (again_by t tags axis (tag_text t axis)) _
      (at_axis tags (known.of text (subst (λ (xs : List ℕ). IsOneOf (map (tag_text t) xs)
      (Some text)) (append-nil before) p)))
  to_axes tags before (a ∷ front) known p =
      among_right here (again_by t tags a (tag_text t a)) _
      (to_axes (with_tag tags (tag_text t a)) (before ++ a ∷ []) front
      (knows_more t tags before a known)
      (subst (λ (xs : List ℕ). IsOneOf (map (tag_text t) xs) (Some text))
      (sym (append_assoc before (a ∷ []) front)) p))

pub of_repeated : (t : Tree) (axes : List ℕ) (f : Failure) → IsOneOf (repeated_tags t [] axes) f
    → (f.rule ≡ BadTag) × IsRepeatedTag t axes f.place
of_repeated t axes f p = of_axes t axes f [] [] axes refl (knows_none t) p

pub to_repeated : (t : Tree) (axes : List ℕ) (f : Failure) → f.rule ≡ BadTag
    → IsRepeatedTag t axes f.place → IsOneOf (repeated_tags t [] axes) f
to_repeated t axes f rule r =
    let found = to_axes t r.axis r.behind r.text r.own r.value r.there [] [] r.before (knows_none t)
    r.earlier in
    let placed : IsOneOf (repeated_tags t [] axes)
    (record { rule = BadTag; place = place_at t r.value })
    = subst (λ (xs : List ℕ). IsOneOf (repeated_tags t [] xs)
    (record { rule = BadTag; place = place_at t r.value })) (sym r.in_order) found in
    subst (λ (g : Failure). IsOneOf (repeated_tags t [] axes) g)
    (sym (same_failure f (record { rule = BadTag; place = place_at t r.value }) rule r.is_place))
    placed
  where
    same_failure : (f g : Failure) → f.rule ≡ g.rule → f.place ≡ g.place → f ≡ g
    same_failure f g e h =
        ap (λ (p : ℕ). record { rule = f.rule; place = p }) h
        ∙ ap (λ (r : Rule). record { rule = r; place = g.place }) e
