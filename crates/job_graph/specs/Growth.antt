-- States that grow by one job at a time, each job being ready in an earlier one: rounds and
-- histories alike.
use Rattle.std.proofs.Common.{◌≡◌, Bool, true, false, ◌⊎◌, inl, inr, List, [], ◌∷◌, ◌++◌, Option}
use Rattle.std.proofs.Common.{Some, None, is_some, refl, sym, ap, ◌∙◌, subst, cond, unwrap_or}
use Rattle.std.specs.List.{list_all}
use Rattle.std.proofs.lemmas.Bool.{and_parts, false≢true, not-true}
use Rattle.access_context.specs.declared.access.Spec.{Spec}
use Rattle.access_context.specs.Plain.{Plain, Blocked}
use Rattle.access_context.specs.Read.{read_of}
use Rattle.job_graph.specs.Meaning.{Meaning}
use Rattle.job_graph.specs.Rounds.{State, value_in, is_settled, item_in, reads_in, start}
use Rattle.job_graph.specs.Rounds.{awaits_nothing, is_ready, outcome_of, outcome_in, with_outcomes}
use Rattle.job_graph.specs.Members.{In, In-append_left, list_all-In, list_all-from, map_agree}

pub none≢some : {X : Type 0} (x : X) (o : Option X) → o ≡ None → o ≡ Some x → ⊥
none≢some x o p q = cc

-- what a test of an option says
pub some_of : {X : Type 0} (o : Option X) → is_some o ≡ true → (x : X) × (o ≡ Some x)
some_of None e = absurd (false≢true e)
some_of (Some x) e = (x, refl)

pub none_of : {X : Type 0} (o : Option X) → is_some o ≡ false → o ≡ None
none_of None e = refl
none_of (Some x) e = absurd (false≢true (sym e))

pub some_is : {X : Type 0} (o : Option X) (x : X) → o ≡ Some x → is_some o ≡ true
some_is o x e = ap is_some e

module _ {Id X : Type 0} (same : Id → Id → Bool) where
  pub read_of-append_left : (xs ys : List (Id × X)) (id : Id) (x : X) → read_of same xs id ≡ Some x
      → read_of same (xs ++ ys) id ≡ Some x
  read_of-append_left [] ys id x e = absurd (none≢some x None refl e)
  read_of-append_left (y ∷ xs) ys id x e =
      elim (same y.0 id) as (λ b. cond b (Some y.1) (read_of same xs id) ≡ Some x
      → cond b (Some y.1) (read_of same (xs ++ ys) id) ≡ Some x) [
        | true ↦ λ e. e
        | false ↦ λ e. read_of-append_left xs ys id x e
      ] e

  pub read_of-append_right : (xs ys : List (Id × X)) (id : Id) → read_of same xs id ≡ None
      → read_of same (xs ++ ys) id ≡ read_of same ys id
  read_of-append_right [] ys id e = refl
  read_of-append_right (y ∷ xs) ys id e =
      elim (same y.0 id) as (λ b. cond b (Some y.1) (read_of same xs id) ≡ None
      → cond b (Some y.1) (read_of same (xs ++ ys) id) ≡ read_of same ys id) [
        | true ↦ λ e. absurd (none≢some y.1 (Some y.1) e refl)
        | false ↦ λ e. read_of-append_right xs ys id e
      ] e

  -- one more item at the end
  pub read_of-push_cases : (xs : List (Id × X)) (k id : Id) (v x : X)
      → read_of same (xs ++ (k, v) ∷ []) id ≡ Some x
      → (read_of same xs id ≡ Some x) ⊎ ((same k id ≡ true) × (v ≡ x))
  read_of-push_cases [] k id v x e =
      elim (same k id) as (λ b. cond b (Some v) None ≡ Some x
      → (None ≡ Some x) ⊎ ((b ≡ true) × (v ≡ x))) [
        | true ↦ λ e. let is : v ≡ x = cc in inr (refl, is)
        | false ↦ λ e. absurd (none≢some x None refl e)
      ] e
  read_of-push_cases (y ∷ xs) k id v x e =
      elim (same y.0 id) as (λ b. cond b (Some y.1) (read_of same (xs ++ (k, v) ∷ []) id) ≡ Some x
      → (cond b (Some y.1) (read_of same xs id) ≡ Some x) ⊎ ((same k id ≡ true) × (v ≡ x))) [
        | true ↦ λ e. inl e
        | false ↦ λ e. read_of-push_cases xs k id v x e
      ] e

  pub read_of-push_last : (xs : List (Id × X)) (k id : Id) (v : X) → same k id ≡ true
      → is_some (read_of same (xs ++ (k, v) ∷ []) id) ≡ true
  read_of-push_last [] k id v e = subst (λ b. is_some (cond b (Some v) None) ≡ true) (sym e) refl
  read_of-push_last (y ∷ xs) k id v e =
      elim (same y.0 id) as (λ b. is_some (cond b (Some y.1) (read_of same (xs ++ (k, v) ∷ []) id))
      ≡ true) [
        | true ↦ refl
        | false ↦ read_of-push_last xs k id v e
      ]

module _ {Id V : Type 0} (same : Id → Id → Bool) (plan : Meaning Id V) where
  -- one state has no less than another
  pub record Within (a b : State Id V) : Type 0 where
    pub jobs : (job : Spec Id) → In job a.jobs → In job b.jobs
    pub values : (id : Id) (x : Plain V) → value_in same a id ≡ Some x → value_in same b id ≡ Some x

  pub within_itself : (a : State Id V) → Within a a
  within_itself a = record { jobs = λ job i. i; values = λ id x e. e }

  pub within_through : (a b c : State Id V) → Within a b → Within b c → Within a c
  within_through a b c f g = record {
    jobs = λ job i. g.jobs job (f.jobs job i);
    values
        = λ id x e. g.values id x (f.values id x e);
  }

  pub settled_within : (a b : State Id V) → Within a b → (id : Id) → is_settled same a id ≡ true
      → is_settled same b id ≡ true
  settled_within a b w id e = let s = some_of (value_in same a id) e
      in some_is (value_in same b id) s.0 (w.values id s.0 s.1)

  pub all_settled_within : (a b : State Id V) → Within a b → (ids : List Id)
      → list_all (is_settled same a) ids ≡ true → list_all (is_settled same b) ids ≡ true
  all_settled_within a b w ids e = list_all-from (is_settled same b) ids
      (λ id i. settled_within a b w id (list_all-In (is_settled same a) ids id e i))

  -- what a job reads where its items agree
  pub reads_agree : (a b : State Id V) (ids : List Id) → list_all (is_settled same a) ids ≡ true
      → ((id : Id) (x : Plain V) → In id ids → value_in same a id ≡ Some x
      → value_in same b id ≡ Some x) → reads_in same a ids ≡ reads_in same b ids
  reads_agree a b ids e agree =
      map_agree (item_in same a) (item_in same b) ids (λ id i.
      let s = some_of (value_in same a id) (list_all-In (is_settled same a) ids id e i) in
      ap (λ o. (id, unwrap_or o Blocked)) (s.1 ∙ sym (agree id s.0 i s.1)))

  pub outcome_within : (a b : State Id V) → Within a b → (job : Spec Id)
      → list_all (is_settled same a) job.access.reads ≡ true
      → outcome_in same plan a job ≡ outcome_in same plan b job
  outcome_within a b w job e = ap (outcome_of same plan job.id)
      (reads_agree a b job.access.reads e (λ id x i. w.values id x))

  -- what a ready job says
  pub ready_unsettled : (a : State Id V) (job : Spec Id) → is_ready same plan a job ≡ true
      → is_settled same a job.id ≡ false
  ready_unsettled a job e = not-true (is_settled same a job.id) (and_parts _ _ e).0

  pub ready_reads : (a : State Id V) (job : Spec Id) → is_ready same plan a job ≡ true
      → list_all (is_settled same a) job.access.reads ≡ true
  ready_reads a job e = (and_parts _ _ (and_parts _ _ e).1).0

  pub ready_awaits : (a : State Id V) (job : Spec Id) → is_ready same plan a job ≡ true
      → awaits_nothing same plan a job.access.awaits ≡ true
  ready_awaits a job e = (and_parts _ _ (and_parts _ _ e).1).1

  -- a state once one more job is settled, by what it reads in an earlier state
  abbrev pub settle : State Id V → State Id V → Spec Id → State Id V
  settle by a job = with_outcomes same plan by a (job ∷ [])

  pub within_settle : (by a : State Id V) (job : Spec Id) → Within a (settle by a job)
  within_settle by a job = record {
    jobs = λ s i. In-append_left a.jobs _ s i;
    values = λ id x e. read_of-append_left same a.values _ id x e;
  }

  -- a state that the jobs make, one after another
  pub data Grown : State Id V → Type 0 where
    begun : Grown (start same plan)
    grown : {a by : State Id V} (job : Spec Id) → Grown a → Grown by → Within by a → In job by.jobs
        → is_ready same plan by job ≡ true → Grown (settle by a job)

  pub opening_in : (a : State Id V) → Grown a → (job : Spec Id) → In job plan.opening
      → In job a.jobs
  opening_in _ begun job i = i
  opening_in _ (grown {a} {by} other ga gb w here ready) job i
      = (within_settle by a other).jobs job (opening_in a ga job i)
