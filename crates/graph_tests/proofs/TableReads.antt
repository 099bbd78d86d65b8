-- A job of a table that is due has a value for each item that its row reads.
use Rattle.std.proofs.Common.{◌≡◌, ℕ, zero, suc, ◌<◌, nat_eq, true, false, List, [], ◌∷◌, map}
use Rattle.std.proofs.Common.{length, get_or, inl, inr, Some, is_some, refl, sym, ap, ◌∙◌, subst}
use Rattle.std.proofs.Common.{cond, unwrap_or, arith}
use Rattle.std.specs.Prelude.{All, IsSome, slice_get, option_and_then}
use Rattle.std.proofs.lemmas.Bool.{and_parts, eqb-true, eq-eqb, false≢true}
use Rattle.access_context.specs.declared.access.Spec.{Spec}
use Rattle.access_context.specs.Plain.{Plain, Done, Refused, Blocked, is_done, done_value}
use Rattle.access_context.specs.Read.{read_of, value_read, all_done}
use Rattle.job_graph.specs.Rounds.{value_in, reads_in, limit, IsDue}
use Rattle.graph_tests.specs.Tables.{Row, row_access, table}
use Rattle.job_graph.specs.Members.{In, In-from_Contains}
use Rattle.graph_tests.specs.TableLaws.{known}

In-index : {X : Type 0} (xs : List X) (i : ℕ) (d : X) → i < length xs → In (get_or xs i d) xs
In-index [] i d lt = absurd (omega arith)
In-index (x ∷ xs) zero d lt = inl refl
In-index (x ∷ xs) (suc i) d lt = inr (In-index xs i d (omega arith))

has_value : (p : Plain ℕ) → is_done p ≡ true → is_some (done_value p) ≡ true
has_value (Done v) e = refl
has_value (Refused r) e = absurd (false≢true e)
has_value Blocked e = absurd (false≢true e)

module _ (f : ℕ → Plain ℕ) where
  read_there : (ids : List ℕ) (k : ℕ) → In k ids
      → read_of nat_eq (map (λ id. (id, f id)) ids) k ≡ Some (f k)
  read_there [] k h = absurd h
  read_there (x ∷ ids) k h =
      elim (nat_eq x k) as (λ b. nat_eq x k ≡ b
      → cond b (Some (f x)) (read_of nat_eq (map (λ id. (id, f id)) ids) k) ≡ Some (f k)) [
        | true ↦ λ e. ap (λ j. Some (f j)) (eqb-true x k e)
        | false ↦ λ e. elim h [
          | inl is ↦ absurd (false≢true (sym e ∙ eq-eqb x k is))
          | inr i ↦ read_there ids k i
        ]
      ] refl

  done_there : (ids : List ℕ) (k : ℕ) → all_done (map (λ id. (id, f id)) ids) ≡ true → In k ids
      → is_done (f k) ≡ true
  done_there [] k all h = absurd h
  done_there (x ∷ ids) k all h =
      let p = and_parts (is_done (f x)) (all_done (map (λ id. (id, f id)) ids)) all in
      elim h [
        | inl is ↦ subst (λ j. is_done (f j) ≡ true) is p.0
        | inr i ↦ done_there ids k p.1 i
      ]

  value_there : (ids : List ℕ) (k : ℕ) → all_done (map (λ id. (id, f id)) ids) ≡ true → In k ids
      → is_some (value_read nat_eq (map (λ id. (id, f id)) ids) k) ≡ true
  value_there ids k all h = ap (λ o. is_some (option_and_then done_value o)) (read_there ids k h)
      ∙ has_value (f k) (done_there ids k all h)

pub due_values : (opening : List ℕ) (rows : List Row) (id : ℕ) (reads : List (ℕ × Plain ℕ))
    → IsDue nat_eq (table opening rows) id reads → all_done reads ≡ true
    → All (λ k. IsSome (value_read nat_eq reads k)) (row_access (slice_get rows id)).reads
unfolding limit
due_values opening rows id reads d all =
    let plan = table opening rows in
    let last = limit nat_eq plan in
    let job = known opening rows (length plan.universe) d.job
    (In-from_Contains last.jobs d.job d.added) in
    let ids : d.job.access.reads ≡ (row_access (slice_get rows id)).reads
    = ap (λ (t : Spec ℕ). t.access.reads) job.is
    ∙ ap (λ k. (row_access (slice_get rows k)).reads) d.named in
    let is : reads ≡ reads_in nat_eq last (row_access (slice_get rows id)).reads = d.reads_are
    ∙ ap (reads_in nat_eq last) ids in
    λ k e lt.
    subst (λ rs. IsSome (value_read nat_eq rs (get_or (row_access (slice_get rows id)).reads k e)))
    (sym is)
    (value_there (λ j. unwrap_or (value_in nat_eq last j) Blocked)
    (row_access (slice_get rows id)).reads _ (subst (λ rs. all_done rs ≡ true) is all)
    (In-index (row_access (slice_get rows id)).reads k e lt))
