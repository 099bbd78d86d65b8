-- The jobs that each value added stand in a row.
use Rattle.std.proofs.Common.{◌≡◌, ℕ, zero, suc, ◌+◌, ◌-◌, ◌≤◌, Bool, true, false, ◌⊎◌, inl, inr}
use Rattle.std.proofs.Common.{List, [], ◌∷◌, ◌++◌, length, take, drop, get_or, Some, None, is_some}
use Rattle.std.proofs.Common.{refl, sym, ap, ◌∙◌, subst, arith}
use Rattle.std.specs.Prelude.{slice_get, slice_range, ◌<◌}
use Rattle.std.proofs.Math.Seq.{drop-append_seam, take-length}
use Rattle.std.proofs.lemmas.List.{length-append, length-drop, take-append-le, drop-append-le}
use Rattle.std.proofs.lemmas.Option.{slice_get_within, slice_get-get_or}
use Rattle.access_context.specs.declared.access.Spec.{Spec}
use Rattle.access_context.specs.Plain.{Plain}
use Rattle.access_context.specs.Places.{place_from}
use Rattle.job_graph.specs.Meaning.{Meaning}
use Rattle.job_graph.specs.Rounds.{state_from, is_settled, IsOutcomeOf, IsAddedOf}
use Rattle.job_graph.specs.BoardBody.{IsRange, AreRanges}
use Rattle.job_graph.proofs.Places.{stands, unread}

pub get_push_cases : {X : Type 0} (xs : List X) (y x : X) (k : ℕ)
    → slice_get (xs ++ y ∷ []) k ≡ Some x → (slice_get xs k ≡ Some x) ⊎ ((k ≡ length xs) × (y ≡ x))
get_push_cases [] y x zero e = let s : y ≡ x = cc in inr (refl, s)
get_push_cases [] y x (suc k) e = cc
get_push_cases (z ∷ xs) y x zero e = inl e
get_push_cases (z ∷ xs) y x (suc k) e = elim (get_push_cases xs y x k e)
    [ inl o ↦ inl o | inr n ↦ inr (ap suc n.0, n.1) ]

-- a range of jobs, among more jobs
range_widened : {X : Type 0} (xs ys : List X) (a b : ℕ) → a ≤ b → b ≤ length xs
    → slice_range xs a b ≡ slice_range (xs ++ ys) a b
range_widened {X} xs ys a b order within =
    let n : b - a ≤ length (drop a xs) = omega (arith, length-drop a xs) in
    let m : a ≤ length xs = omega arith in
    sym (take-append-le (b - a) (drop a xs) ys n)
    ∙ ap (take (b - a)) (sym (drop-append-le a xs ys m))

range_last : {X : Type 0} (xs ys : List X) (a b : ℕ) → a ≡ length xs → b ≡ length xs + length ys
    → slice_range (xs ++ ys) a b ≡ ys
range_last {X} xs ys a b at to =
    let n : b - a ≡ length ys = omega arith in
    ap (λ k. take (b - a) (drop k (xs ++ ys))) at ∙ ap (take (b - a)) (drop-append_seam xs ys)
    ∙ ap (λ k. take k ys) n ∙ take-length ys

module _ {Id V : Type 0} (same : Id → Id → Bool) (plan : Meaning Id V) where
  -- no value, and no range
  pub ranges_new : (jobs : List (Spec Id)) (values : List (Id × Plain V)) (ranges : List (ℕ × ℕ))
      → values ≡ [] → ranges ≡ [] → AreRanges same plan (state_from jobs values) ranges
  ranges_new jobs values ranges vs rs = record {
    count = ap length rs ∙ sym (ap length vs);
    added = λ place value range at there. (let none : slice_get {X = Id × Plain V} [] place
        ≡ Some value = ap (λ xs. slice_get xs place) (sym vs) ∙ at
        in absurd (nothing place value none));
  }
    where
      nothing : {X : Type 0} (place : ℕ) (x : X) → slice_get [] place ≡ Some x → ⊥
      nothing zero x e = cc
      nothing (suc n) x e = cc

  widened : (jobs added : List (Spec Id)) (id : Id) (range : ℕ × ℕ)
      → IsRange same plan jobs id range → IsRange same plan (jobs ++ added) id range
  widened jobs added id range a = record {
    order = a.order;
    within = omega (arith, length-append jobs added, a.within);
    is = subst (IsAddedOf same plan id) (range_widened jobs added range.0 range.1 a.order a.within)
        a.is;
  }

  last : (jobs : List (Spec Id)) (id : Id) (value : Plain V) (added : List (Spec Id))
      → IsOutcomeOf same plan id (record { value = value; added = added }) → (from to : ℕ)
      → from ≡ length jobs → to ≡ length jobs + length added
      → IsRange same plan (jobs ++ added) id (from, to)
  last jobs id value added o from to f t = record {
    order = omega (arith, f, t);
    within = omega (arith, length-append jobs added, t);
    is = subst (IsAddedOf same plan id) (sym (range_last jobs added from to f t))
        (record { job = o.job; there = o.added; named = o.named; is = ap (λ u. u.added) o.is });
  }

  -- one more value, which added these jobs
  ranges_push : (jobs : List (Spec Id)) (values : List (Id × Plain V)) (ranges : List (ℕ × ℕ))
      → AreRanges same plan (state_from jobs values) ranges
      → (id : Id) (value : Plain V) (added : List (Spec Id))
      → IsOutcomeOf same plan id (record { value = value; added = added }) → (from to : ℕ)
      → from ≡ length jobs → to ≡ length jobs + length added
      → AreRanges same plan (state_from (jobs ++ added) (values ++ (id, value) ∷ []))
      (ranges ++ (from, to) ∷ [])
  ranges_push jobs values ranges old id value added o from to f t = record {
    count = length-append ranges ((from, to) ∷ []) ∙ ap (λ n. n + 1) old.count
        ∙ sym (length-append values ((id, value) ∷ []));
    added = λ place item range at there. elim (get_push_cases values (id, value) item place at) [
      | inl before ↦ elim (get_push_cases ranges (from, to) range place there) [
        | inl too ↦ widened jobs added item.0 range (old.added place item range before too)
        | inr new ↦ (let lt = slice_get_within values place item before
            in let n : length ranges ≡ length values = old.count in absurd (omega (arith, new.0)))
      ]
      | inr new ↦ elim (get_push_cases ranges (from, to) range place there) [
        | inl too ↦ (let lt = slice_get_within ranges place range too
            in let n : length ranges ≡ length values = old.count in absurd (omega (arith, new.0)))
        | inr also ↦ subst (λ (r : ℕ × ℕ). IsRange same plan (jobs ++ added) item.0 r) also.1
            (subst (λ (x : Id × Plain V). IsRange same plan (jobs ++ added) x.0 (from, to)) new.1
            (last jobs id value added o from to f t))
      ]
    ];
  }

  pub ranges_after : (jobs : List (Spec Id)) (values : List (Id × Plain V)) (ranges : List (ℕ × ℕ))
      → AreRanges same plan (state_from jobs values) ranges
      → (id : Id) (value : Plain V) (added : List (Spec Id))
      → IsOutcomeOf same plan id (record { value = value; added = added }) → (k : Id) → k ≡ id
      → (from to : ℕ) (jobs' : List (Spec Id)) (values' : List (Id × Plain V))
      (ranges' : List (ℕ × ℕ)) → from ≡ length jobs → to ≡ length jobs' → jobs' ≡ jobs ++ added
      → values' ≡ values ++ (k, value) ∷ [] → ranges' ≡ ranges ++ (from, to) ∷ []
      → AreRanges same plan (state_from jobs' values') ranges'
  ranges_after jobs values ranges old id value added o k named from to jobs' values' ranges' f t js
      vs rs =
      let vs' : values' ≡ values ++ (id, value) ∷ [] = vs
      ∙ ap (λ (j : Id). values ++ (j, value) ∷ []) named in
      let t' : to ≡ length jobs + length added = t ∙ ap length js ∙ length-append jobs added in
      subst (λ xs. AreRanges same plan (state_from xs values') ranges') (sym js)
      (subst (λ xs. AreRanges same plan (state_from (jobs ++ added) xs) ranges') (sym vs')
      (subst (λ xs. AreRanges same plan (state_from (jobs ++ added) (values ++ (id, value) ∷ []))
      xs) (sym rs)
      (ranges_push jobs values ranges old id value added o from to f t')))

  pub ranges_same : (jobs : List (Spec Id)) (values : List (Id × Plain V)) (ranges : List (ℕ × ℕ))
      → AreRanges same plan (state_from jobs values) ranges
      → (jobs' : List (Spec Id)) (values' : List (Id × Plain V)) (ranges' : List (ℕ × ℕ))
      → jobs' ≡ jobs → values' ≡ values → ranges' ≡ ranges
      → AreRanges same plan (state_from jobs' values') ranges'
  ranges_same jobs values ranges old jobs' values' ranges' js vs rs =
      subst (λ xs. AreRanges same plan (state_from xs values') ranges') (sym js)
      (subst (λ xs. AreRanges same plan (state_from jobs xs) ranges') (sym vs)
      (subst (λ xs. AreRanges same plan (state_from jobs values) xs) (sym rs) old))

  module _ (identity : (x y : Id) → same x y ≡ true → x ≡ y) (jobs : List (Spec Id))
      (values : List (Id × Plain V)) (ranges : List (ℕ × ℕ))
      (rows : AreRanges same plan (state_from jobs values) ranges) (id : Id) (place : ℕ)
      (found : place_from same 0 values id ≡ Some place) where
    pub row_within : place < length ranges
    row_within = let s = stands same values id place found
        in let lt = slice_get_within values place s.0 s.1
        in let n : length ranges ≡ length values = rows.count in omega arith

    -- the range at the place that is found
    pub row : (range : ℕ × ℕ) → range ≡ get_or ranges place range → IsRange same plan jobs id range
    row range is =
        let s = stands same values id place found in
        let at : slice_get ranges place ≡ Some range
        = slice_get-get_or ranges place range row_within ∙ ap Some (sym is) in
        subst (λ k. IsRange same plan jobs k range) (identity (s.0).0 id s.2)
        (rows.added place s.0 range s.1 at)

    pub row_settled : is_settled same (state_from jobs values) id ≡ true
    row_settled = let s = stands same values id place found in ap is_some s.3

  pub row_none : (jobs : List (Spec Id)) (values : List (Id × Plain V)) (id : Id)
      → place_from same 0 values id ≡ None → is_settled same (state_from jobs values) id ≡ false
  row_none jobs values id e = ap is_some (unread same 0 values id e)
