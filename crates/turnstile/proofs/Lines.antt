-- Tickets in line, and entries of one worker, as a step leaves them.
use Rattle.std.proofs.Common.{◌≡◌, ◌≢◌, ℕ, ◌+◌, ◌<◌, cond, eqb, List, [], ◌∷◌, ◌++◌, length, drop}
use Rattle.std.proofs.Common.{refl, sym, ap, ◌∙◌, subst, inl, inr, arith, append_assoc, append-nil}
use Rattle.std.proofs.Common.{ne_eqb, eq-eqb}
use Rattle.std.proofs.lemmas.List.Elements.{filter-append}
use Rattle.std.proofs.lemmas.List.Prefix.{front_rest}
use Rattle.std.specs.List.{sum_by, count_by}
use Rattle.std.proofs.lemmas.List.Sums.{sum_by-cons}
use Rattle.turnstile.specs.Entries.{BeginsWith, entries_of, AddsAtMostOne}
use Rattle.turnstile.specs.Members.{AllKnow}
use Rattle.turnstile.specs.Tickets.{HasTicket, tickets, IsServed, IsInLine}
use Rattle.turnstile.specs.declared.knowledge.Stage.{Stage}
use Rattle.turnstile.specs.declared.knowledge.Stage.TheVariants.{Away, Waiting, Served, Noted}
use Rattle.turnstile.specs.declared.knowledge.Member.{Member}

pub in_longer_line : (served next : ℕ) (st : Stage) → IsInLine served next st
    → IsInLine served (next + 1) st
in_longer_line served next Away h = tt
in_longer_line served next (Waiting t) h = let a = h.0 in let b = h.1 in (a, omega arith)
in_longer_line served next (Served t) h = let a = h.0 in let b = h.1 in (a, omega arith)
in_longer_line served next (Noted t) h = let a = h.0 in let b = h.1 in (a, omega arith)

-- the first leaves
pub in_shorter_line : (served next : ℕ) (st : Stage) → (HasTicket st served → ⊥)
    → IsInLine served next st → IsInLine (served + 1) next st
in_shorter_line served next Away other h = tt
in_shorter_line served next (Waiting t) other h = let a = h.0 in let b = h.1
    in let c : t ≢ served = other in (omega arith, b)
in_shorter_line served next (Served t) other h = absurd (other h.0)
in_shorter_line served next (Noted t) other h = absurd (other h.0)

pub below_next : (served next : ℕ) (st : Stage) (t : ℕ) → HasTicket st t → IsInLine served next st
    → t < next
below_next served next Away t has h = absurd has
below_next served next (Waiting u) t has h = let e : u ≡ t = has in let b = h.1 in omega arith
below_next served next (Served u) t has h = let e : u ≡ t = has in let b = h.1 in omega arith
below_next served next (Noted u) t has h = let e : u ≡ t = has in let b = h.1 in omega arith

pub ticket_of_served : (served next : ℕ) (st : Stage) → IsServed st → IsInLine served next st
    → HasTicket st served
ticket_of_served served next Away is h = absurd is
ticket_of_served served next (Waiting t) is h = absurd is
ticket_of_served served next (Served t) is h = h.0
ticket_of_served served next (Noted t) is h = h.0

pub one_ticket : (st : Stage) → IsServed st → tickets st ≡ 1
one_ticket Away is = absurd is
one_ticket (Waiting t) is = absurd is
one_ticket (Served t) is = refl
one_ticket (Noted t) is = refl

module _ {E : Type 0} where
  pub entries_of-append : (k : ℕ) (xs ys : List (ℕ × E))
      → entries_of k (xs ++ ys) ≡ entries_of k xs ++ entries_of k ys
  entries_of-append k xs ys = filter-append (λ (e : ℕ × E). eqb e.0 k) xs ys

  pub entries_of-own : (k : ℕ) (e : E) → entries_of k ((k, e) ∷ []) ≡ (k, e) ∷ []
  entries_of-own k e = ap (λ b. cond {A = List (ℕ × E)} b ((k, e) ∷ []) []) (eq-eqb k k refl)

  pub entries_of-other : (k w : ℕ) (e : E) → w ≢ k → entries_of k ((w, e) ∷ []) ≡ []
  entries_of-other k w e ne = ap (λ b. cond {A = List (ℕ × E)} b ((w, e) ∷ []) []) (ne_eqb w k ne)

  -- what a worker adds: nothing, or one entry of its own
  pub data Added (w : ℕ) : List (ℕ × E) → Type 0 where
    nothing : Added w []
    one : (e : E) → Added w ((w, e) ∷ [])

  pub added-own : (w : ℕ) (added : List (ℕ × E)) → Added w added → entries_of w added ≡ added
  added-own w added nothing = refl
  added-own w added (one e) = entries_of-own w e

  pub added-other : (w k : ℕ) (added : List (ℕ × E)) → w ≢ k → Added w added
      → entries_of k added ≡ []
  added-other w k added ne nothing = refl
  added-other w k added ne (one e) = entries_of-other k w e ne

  pub same_after : (w k : ℕ) (history added : List (ℕ × E)) → w ≢ k → Added w added
      → entries_of k (history ++ added) ≡ entries_of k history
  same_after w k history added ne a =
      entries_of-append k history added ∙ (ap (λ xs. entries_of k history ++ xs)
      (added-other w k added ne a) ∙ append-nil (entries_of k history))

  pub begins_longer : (history added seen : List (ℕ × E)) → BeginsWith history seen
      → BeginsWith (history ++ added) seen
  begins_longer history added seen b = (
    b.0 ++ added,
    ap (λ xs. xs ++ added) b.1
        ∙ append_assoc seen b.0 added,
  )

module _ {E : Type 0} where
  pub added_of : (w : ℕ) (added : List (ℕ × E)) → AddsAtMostOne w [] added → Added w added
  added_of w added (inl e) = subst (Added w) (sym e) nothing
  added_of w added (inr t) = subst (Added w) (sym t.1) (one t.0)

  -- what a list has beyond its beginning
  pub beyond : (w : ℕ) (seen list : List (ℕ × E)) → AddsAtMostOne w seen list
      → (list ≡ seen ++ drop (length seen) list) × AddsAtMostOne w [] (drop (length seen) list)
  beyond w seen list (inl e) =
      let whole : list ≡ seen ++ [] = e ∙ sym (append-nil seen) in
      let rest = front_rest list seen [] whole in
      (whole ∙ ap (λ xs. seen ++ xs) (sym rest), inl rest)
  beyond w seen list (inr t) =
      let rest = front_rest list seen ((w, t.0) ∷ []) t.1 in
      (t.1 ∙ ap (λ xs. seen ++ xs) (sym rest), inr (t.0, rest))

module _ {E T : Type 0} (origin : T) where
  -- members with other numbers know as much of a history that a worker added to
  pub know_longer : (w : ℕ) (history added : List (ℕ × E)) → Added w added
      → (ms : List (Member E T))
      → count_by (λ (m : Member E T). eqb m.worker w) ms ≡ 0 → AllKnow history origin ms
      → AllKnow (history ++ added) origin ms
  know_longer w history added a [] none all = tt
  know_longer w history added a (m ∷ ms) none all =
      let f : Member E T → ℕ = λ x. cond (eqb x.worker w) 1 0 in
      let sum : sum_by f (m ∷ ms) ≡ f m + sum_by f ms = sum_by-cons f m ms in
      let here : f m ≡ 0 = omega arith in
      let rest : sum_by f ms ≡ 0 = omega arith in
      let ne : w ≢ m.worker = λ e. absurd (let one : f m
      ≡ 1 = ap (λ b. cond {A = ℕ} b 1 0) (eq-eqb m.worker w (sym e)) in omega arith) in
      let k = all.0 in (
        record {
          begins = begins_longer history added m.seen k.begins;
          mine = same_after w m.worker history added ne a ∙ k.mine;
          root = k.root;
        },
        know_longer w history added a ms rest all.1,
      )
