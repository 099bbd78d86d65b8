-- An index of jobs as it takes in one more, and what it finds.
use Rattle.std.proofs.Common.{◌≡◌, ℕ, zero, suc, ◌+◌, ◌<◌, Bool, true, false, cond, List, [], ◌∷◌}
use Rattle.std.proofs.Common.{◌++◌, length, map, drop, get_or, Option, Some, None, is_some, refl}
use Rattle.std.proofs.Common.{sym, ap, ◌∙◌, subst, arith}
use Rattle.std.specs.Prelude.{option_map, ◌||◌, ◌≤◌}
use Rattle.std.specs.List.{find, list_any}
use Rattle.std.specs.BTreeMap as tree
use Rattle.std.specs.declared.cmp.Ordering.{Ordering}
use Rattle.std.proofs.Math.Seq.{drop-append_seam, get_or-append_seam}
use Rattle.std.proofs.lemmas.List.{length-append, length-map, map-append}
use Rattle.access_context.specs.declared.access.Spec.{Spec}
use Rattle.access_context.specs.Places.{place_from}
use Rattle.job_graph.specs.declared.numbers.Numbers.{Numbers}
use Rattle.job_graph.specs.Rounds.{has_id}
use Rattle.job_graph.specs.Places.{first_of}
use Rattle.job_graph.specs.Numbered.{entry_of, IsNumbered}
use Rattle.job_graph.proofs.Places.{index_push}

-- whether there is one is whether one is found
pub any_found : {X : Type 0} (p : X → Bool) (xs : List X) → is_some (find p xs) ≡ list_any p xs
any_found p [] = refl
any_found p (x ∷ xs) =
    elim (p x) as (λ b. is_some (cond b (Some x) (find p xs)) ≡ (b || list_any p xs)) [
      | true ↦ refl
      | false ↦ any_found p xs
    ]

pub some_mapped : {X Y : Type 0} (f : X → Y) (o : Option X) → is_some o ≡ is_some (option_map f o)
some_mapped f None = refl
some_mapped f (Some x) = refl

module _ {Id : Type 0} (same : Id → Id → Bool) where
  found_from : (n : ℕ) (known left : List (Spec Id)) (id : Id) (p : ℕ)
      → place_from same n (map entry_of known) id ≡ Some p
      → (k : ℕ) × (p ≡ n + k) × (k < length known)
      × ((d : Spec Id) → find (has_id same id) (known ++ left) ≡ Some (get_or (known ++ left) k d))
  found_from n [] left id p e = cc
  found_from n (x ∷ xs) left id p e =
      elim (same x.id id) as (λ b. cond b (Some n) (place_from same (suc n) (map entry_of xs) id)
      ≡ Some p → (k : ℕ) × (p ≡ n + k) × (k < length (x ∷ xs))
      × ((d : Spec Id) → cond b (Some x) (find (has_id same id) (xs ++ left))
      ≡ Some (get_or (x ∷ (xs ++ left)) k d))) [
        | true ↦ λ e. let s : n ≡ p = cc in (0, omega arith, omega arith, λ d. refl)
        | false ↦ λ e. let r = found_from (suc n) xs left id p e
            in (suc r.0, omega (arith, r.1), omega (arith, r.2), λ d. r.3 d)
      ] e

  unfound : (n : ℕ) (known left : List (Spec Id)) (id : Id)
      → place_from same n (map entry_of known) id ≡ None
      → find (has_id same id) (known ++ left) ≡ find (has_id same id) left
  unfound n [] left id e = refl
  unfound n (x ∷ xs) left id e =
      elim (same x.id id) as (λ b. cond b (Some n) (place_from same (suc n) (map entry_of xs) id)
      ≡ None → cond b (Some x) (find (has_id same id) (xs ++ left))
      ≡ find (has_id same id) left) [
        | true ↦ λ e. cc
        | false ↦ λ e. unfound (suc n) xs left id e
      ] e

  module _ (order : Id → Id → Ordering) (jobs : List (Spec Id)) (numbers : Numbers Id)
      (is : IsNumbered same order jobs numbers) where
    -- a number that the index tells
    found_in : (id : Id) (p : ℕ) → tree.get order numbers.places id ≡ Some p
        → (p < length jobs) × ((d : Spec Id) → find (has_id same id) jobs ≡ Some (get_or jobs p d))
    found_in id p e =
        let r = found_from 0 is.known is.left id p (sym (is.index id) ∙ e) in
        let at : r.0 ≡ p = omega (arith, r.1) in
        let n = ap length is.are ∙ length-append is.known is.left in (
          omega (arith, r.1, r.2, n),
          λ d. ap (find (has_id same id)) is.are ∙ r.3 d
              ∙ ap (λ xs. Some (get_or xs r.0 d)) (sym is.are) ∙ ap (λ k. Some (get_or jobs k d)) at,
        )

    pub number_within : (id : Id) (p : ℕ) → tree.get order numbers.places id ≡ Some p
        → p < length jobs
    number_within id p e = (found_in id p e).0

    pub number_found : (id : Id) (p : ℕ) → tree.get order numbers.places id ≡ Some p
        → (job : Spec Id) → job ≡ get_or jobs p job → Some job ≡ find (has_id same id) jobs
    number_found id p e job at = ap Some at ∙ sym ((found_in id p e).1 job)

    -- an id of which the index tells nothing
    pub left_found : (id : Id) → tree.get order numbers.places id ≡ None
        → find (has_id same id) (drop numbers.count jobs) ≡ find (has_id same id) jobs
    left_found id e =
        ap (λ k. find (has_id same id) (drop k jobs)) is.count
        ∙ ap (λ xs. find (has_id same id) (drop (length is.known) xs)) is.are
        ∙ ap (find (has_id same id)) (drop-append_seam is.known is.left)
        ∙ sym (unfound 0 is.known is.left id (sym (is.index id) ∙ e))
        ∙ ap (find (has_id same id)) (sym is.are)

    pub numbered_within : numbers.count ≤ length jobs
    numbered_within = let n = ap length is.are ∙ length-append is.known is.left
        in omega (arith, n, is.count)

    -- one more job
    pub numbered_next : (after : Numbers Id) (job : Spec Id) → numbers.count < length jobs
        → job ≡ get_or jobs numbers.count job → after.count ≡ numbers.count + 1
        → ((q : Id) → tree.get order after.places q ≡ first_of (tree.get order numbers.places q)
        (cond (same job.id q) (Some numbers.count) None))
        → IsNumbered same order jobs after
    numbered_next after job lt at one noted = by is.known is.left is.are is.count is.index
      where
        by : (known left : List (Spec Id)) → jobs ≡ known ++ left → numbers.count ≡ length known
            → ((q : Id) → tree.get order numbers.places q
            ≡ place_from same 0 (map entry_of known) q) → IsNumbered same order jobs after
        by known [] are count index =
            let n = ap length are ∙ length-append known [] in absurd (omega (arith, n, count, lt))
        by known (next ∷ left) are count index =
            let is_job : job ≡ next = at ∙ ap (λ k. get_or jobs k job) count
            ∙ ap (λ xs. get_or xs (length known) job) are
            ∙ get_or-append_seam known next left job in
            let push : known ++ next ∷ left ≡ (known ++ next ∷ []) ++ left = seam known next left in
            record {
              known = known ++ next ∷ [];
              left = left;
              are = are ∙ push;
              count = (let n = length-append known (next ∷ []) in omega (arith, n, one, count));
              index = index_push same order numbers.places after.places (map entry_of known)
                  (map entry_of (known ++ next ∷ [])) job.id job numbers.count index
                  (count ∙ sym (length-map known entry_of)) noted
                  (map-append entry_of known (next ∷ [])
                  ∙ ap (λ j. map entry_of known ++ entry_of j ∷ []) (sym is_job));
            }
          where
            seam : {X : Type 0} (xs : List X) (y : X) (ys : List X)
                → xs ++ y ∷ ys ≡ (xs ++ y ∷ []) ++ ys
            seam [] y ys = refl
            seam (x ∷ xs) y ys = ap (λ zs. x ∷ zs) (seam xs y ys)

    -- the index where memory ran out
    pub numbered_same : (after : Numbers Id) → after.count ≡ numbers.count
        → ((q : Id) → tree.get order after.places q ≡ tree.get order numbers.places q)
        → IsNumbered same order jobs after
    numbered_same after one kept = record {
      known = is.known;
      left = is.left;
      are = is.are;
      count = one ∙ is.count;
      index = λ q. kept q ∙ is.index q;
    }

    -- the same index of a longer list
    pub numbered_more : (added jobs' : List (Spec Id)) → jobs' ≡ jobs ++ added
        → IsNumbered same order jobs' numbers
    numbered_more added jobs' e = record {
      known = is.known;
      left = is.left ++ added;
      are = e ∙ ap (λ xs. xs ++ added) is.are ∙ together is.known is.left added;
      count = is.count;
      index = is.index;
    }
      where
        together : {X : Type 0} (xs ys zs : List X) → (xs ++ ys) ++ zs ≡ xs ++ (ys ++ zs)
        together [] ys zs = refl
        together (x ∷ xs) ys zs = ap (λ ws. x ∷ ws) (together xs ys zs)

-- an index of no job
pub numbered_none : {Id : Type 0} (same : Id → Id → Bool) (order : Id → Id → Ordering)
    (jobs : List (Spec Id)) (numbers : Numbers Id) → numbers.count ≡ 0
    → ((q : Id) → tree.get order numbers.places q ≡ None) → IsNumbered same order jobs numbers
numbered_none same order jobs numbers count none = record {
  known = [];
  left = jobs;
  are = refl;
  count = count;
  index = none;
}
