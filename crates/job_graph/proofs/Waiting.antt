-- Lines, as jobs join and leave them.
use Rattle.std.proofs.Common.{◌≡◌, ℕ, zero, suc, ◌<◌, ◌⊎◌, inl, inr, List, [], ◌∷◌, ◌++◌, length}
use Rattle.std.proofs.Common.{Some, None, refl, sym, ap, ◌∙◌, subst, arith, nat_eq, true, false}
use Rattle.std.proofs.Common.{cond}
use Rattle.std.specs.Prelude.{slice_get, slice_set}
use Rattle.std.specs.BTreeMap as tree
use Rattle.std.specs.BTreeMap.{BTreeMap, is_at, get_by}
use Rattle.std.specs.Cmp.{IsTotalOrder, Equal-is}
use Rattle.std.specs.declared.cmp.Ordering.{Ordering}
use Rattle.std.specs.declared.cmp.Ordering.TheVariants.{Equal}
use Rattle.std.specs.declared.vec.Vec.{Vec}
use Rattle.std.specs.declared.alloc.Global.{Global}
use Rattle.std.proofs.lemmas.Bool.{cases_Bool, eqb-true, false≢true, eq-eqb}
use Rattle.std.proofs.lemmas.List.{length-append, length-set}
use Rattle.std.proofs.lemmas.Option.{slice_get_within, same_Some}
use Rattle.job_graph.specs.Members.{In}
use Rattle.job_graph.specs.Growth.{none≢some}
use Rattle.job_graph.specs.Agenda.{StandsAt, Joins, Waits, AreWithin}
use Rattle.job_graph.proofs.Run.{get_set_same, get_set_other}

pub get_append : {X : Type 0} (xs ys : List X) (i : ℕ) → i < length xs
    → slice_get (xs ++ ys) i ≡ slice_get xs i
get_append [] ys i lt = absurd (omega arith)
get_append (x ∷ xs) ys zero lt = refl
get_append (x ∷ xs) ys (suc i) lt = get_append xs ys i (omega arith)

pub joins_same : (lines : List (Vec ℕ Global)) → Joins lines lines
joins_same lines = record { count = omega arith; kept = λ place number s. s }

pub joins_through : (a b c : List (Vec ℕ Global)) → Joins a b → Joins b c → Joins a c
joins_through a b c f g = record {
  count = omega (arith, f.count, g.count);
  kept = λ place number s. g.kept place number (f.kept place number s);
}

pub joins_push : (old new : List (Vec ℕ Global)) (line : Vec ℕ Global) → new ≡ old ++ line ∷ []
    → Joins old new
joins_push old new line e = record {
  count = omega (arith, ap length e, length-append old (line ∷ []));
  kept = λ place number s. record {
    line = s.line;
    there = ap (λ xs. slice_get xs place) e
        ∙ get_append old (line ∷ []) place (slice_get_within old place s.line s.there) ∙ s.there;
    stands = s.stands;
  };
}

-- what becomes of the jobs of one line, where the others stay
module _ (lines : List (Vec ℕ Global)) (place : ℕ) (line line' : Vec ℕ Global)
    (there : slice_get lines place ≡ Some line) where
  pub stands_set : (other number : ℕ) → StandsAt lines other number
      → StandsAt (slice_set lines place line') other number
      ⊎ ((place ≡ other) × In number line.items)
  stands_set other number s =
      elim (cases_Bool (nat_eq place other)) [
        | inl e ↦
            let here : place ≡ other = eqb-true place other e in
            let same : s.line ≡ line
            = same_Some _ _ (sym s.there ∙ ap (slice_get lines) (sym here) ∙ there) in
            inr (here, subst (λ (l : Vec ℕ Global). In number l.items) same s.stands)
        | inr n ↦ inl (record {
          line = s.line;
          there = get_set_other lines place other line'
              (λ e. false≢true (sym n ∙ eq-eqb place other e)) ∙ s.there;
          stands = s.stands;
        })
      ]

  pub joins_set : ((number : ℕ) → In number line.items → In number line'.items)
      → Joins lines (slice_set lines place line')
  joins_set more = record {
    count = omega (arith, length-set lines place line');
    kept = λ other number s. elim (stands_set other number s) [
      | inl new ↦ new
      | inr here ↦ record {
        line = line';
        there = ap (slice_get (slice_set lines place line')) (sym here.0)
            ∙ get_set_same lines place line' line there;
        stands = more number here.1;
      }
    ];
  }

  pub waits_left : {Id : Type 0} (order : Id → Id → Ordering) (places : BTreeMap Id ℕ) (number : ℕ)
      (id : Id) → Waits order places lines number id
      → Waits order places (slice_set lines place line') number id ⊎ In number line.items
  waits_left order places number id w = elim (stands_set w.place number w.stands) [
    | inl new ↦ inl (record { place = w.place; found = w.found; stands = new })
    | inr here ↦ inr here.1
  ]

  -- the line of one item, which is no more
  module _ {Id : Type 0} (order : Id → Id → Ordering) (total : IsTotalOrder order)
      (places places' : BTreeMap Id ℕ) (id : Id) (found : tree.get order places id ≡ Some place)
      (removed : (q : Id) → tree.get order places' q
      ≡ cond (is_at (order id) q) None (tree.get order places q)) where
    pub waits_removed : (number : ℕ) (q : Id) → Waits order places lines number q
        → Waits order places' (slice_set lines place line') number q ⊎ In number line.items
    waits_removed number q w = elim (cases_Bool (is_at (order id) q)) [
      | inl equal ↦
          let e : order id q ≡ Equal = (Equal-is (order id q)).0 equal in
          let alike : tree.get order places q ≡ tree.get order places id
          = λ i. get_by (λ k. sym (total.congr id q k e) i) places in
          let at : w.place ≡ place = same_Some _ _ (sym w.found ∙ alike ∙ found) in
          let s = w.stands in
          let is : s.line ≡ line = same_Some _ _ (sym s.there ∙ ap (slice_get lines) at ∙ there) in
          inr (subst (λ (l : Vec ℕ Global). In number l.items) is s.stands)
      | inr apart ↦ elim (waits_left order places number q w) [
        | inl still ↦ inl (record {
          place = still.place;
          found = removed q ∙ ap (λ b. cond b None (tree.get order places q)) apart ∙ still.found;
          stands = still.stands;
        })
        | inr left ↦ inr left
      ]
    ]

-- each place is still that of a line
pub within_removed : (lines : List (Vec ℕ Global)) (place : ℕ) (line' : Vec ℕ Global)
    {Id : Type 0} (order : Id → Id → Ordering) (places places' : BTreeMap Id ℕ) (id : Id)
    → ((q : Id) → tree.get order places' q
    ≡ cond (is_at (order id) q) None (tree.get order places q))
    → AreWithin order places lines → AreWithin order places' (slice_set lines place line')
within_removed lines place line' order places places' id removed within q p e =
    elim (cases_Bool (is_at (order id) q)) [
      | inl equal ↦ absurd (none≢some p _ (removed q
          ∙ ap (λ b. cond b None (tree.get order places q)) equal) e)
      | inr apart ↦
          let lt = within q p (sym (removed q
          ∙ ap (λ b. cond b None (tree.get order places q)) apart) ∙ e) in
          omega (arith, lt, length-set lines place line')
    ]

pub waits_joins : {Id : Type 0} (order : Id → Id → Ordering) (places : BTreeMap Id ℕ)
    (old new : List (Vec ℕ Global)) → Joins old new → (number : ℕ) (id : Id)
    → Waits order places old number id → Waits order places new number id
waits_joins order places old new j number id w = record {
  place = w.place;
  found = w.found;
  stands = j.kept w.place number w.stands;
}

-- more places, where the known ones stay
pub waits_more : {Id : Type 0} (order : Id → Id → Ordering) (places places' : BTreeMap Id ℕ)
    (old new : List (Vec ℕ Global)) → Joins old new
    → ((id : Id) (place : ℕ) → tree.get order places id ≡ Some place
    → tree.get order places' id ≡ Some place)
    → (number : ℕ) (id : Id) → Waits order places old number id → Waits order places' new number id
waits_more order places places' old new j more number id w = record {
  place = w.place;
  found = more id w.place w.found;
  stands = j.kept w.place number w.stands;
}
