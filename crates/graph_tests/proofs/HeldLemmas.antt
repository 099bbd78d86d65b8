-- What workers hold follows the board's events.
use Rattle.std.proofs.Common.{◌≡◌, ℕ, zero, suc, ◌<◌, Bool, true, false, cond, List, [], ◌∷◌, ◌++◌}
use Rattle.std.proofs.Common.{map, length, replicate, get_or, Option, Some, None, refl, sym, ap}
use Rattle.std.proofs.Common.{◌∙◌, subst, arith}
use Rattle.std.specs.Prelude.{slice_get, slice_set, fold, option_map, IfSome, All}
use Rattle.std.proofs.lemmas.List.{map-set, length-map, length-replicate, length-set}
use Rattle.std.proofs.lemmas.List.Sums.{fold-append}
use Rattle.std.proofs.lemmas.List.Elements.{All-set}
use Rattle.std.proofs.lemmas.Option.{slice_get-map, slice_get-get_or, slice_get_within}
use Rattle.std.proofs.lemmas.Option.{get_or_from_slice_get}
use Rattle.access_context.specs.Plain.{Plain}
use Rattle.job_graph.specs.declared.event.Event.{Event}
use Rattle.job_graph.specs.declared.event.Event.TheVariants as event
use Rattle.job_graph.specs.Meaning.{Meaning}
use Rattle.job_graph.specs.Rounds.{IsDue}
use Rattle.job_graph.specs.Histories.{out_after, out_of}
use Rattle.job_graph.specs.BoardView.{BoardView}
use Rattle.graph_tests.specs.Held.{IsHeld}

none≢some : {X : Type 0} (x : X) (o : Option X) → o ≡ None → o ≡ Some x → ⊥
none≢some x o p q = cc

get_set_same : {X : Type 0} (xs : List X) (i : ℕ) (v x : X) → slice_get xs i ≡ Some x
    → slice_get (slice_set xs i v) i ≡ Some v
get_set_same [] i v x e = absurd (none≢some x None refl e)
get_set_same (y ∷ xs) zero v x e = refl
get_set_same (y ∷ xs) (suc i) v x e = get_set_same xs i v x e

out_of-push : {Id : Type 0} (workers : ℕ) (events : List (Event Id)) (e : Event Id)
    → out_of workers (events ++ e ∷ []) ≡ out_after (out_of workers events) e
out_of-push workers events e = fold-append out_after (replicate workers None) events (e ∷ [])

length_fold-out : {Id : Type 0} (outs : List (Option Id)) (events : List (Event Id))
    → length (fold out_after outs events) ≡ length outs
length_fold-out outs [] = refl
length_fold-out outs (event.Claim w id ∷ events)
    = length_fold-out (slice_set outs w (Some id)) events ∙ length-set outs w (Some id)
length_fold-out outs (event.Finish w id ∷ events) = length_fold-out (slice_set outs w None) events
    ∙ length-set outs w None
length_fold-out outs (event.Halt w ∷ events) = length_fold-out (slice_set outs w None) events
    ∙ length-set outs w None

length-out_of : {Id : Type 0} (workers : ℕ) (events : List (Event Id))
    → length (out_of workers events) ≡ workers
length-out_of {Id} workers events = length_fold-out (replicate workers None) events
    ∙ length-replicate {A = Option Id} workers None

nothing : {X : Type 0} (n i : ℕ) → i < n → slice_get (replicate {A = Option X} n None) i ≡ Some None
nothing zero i lt = absurd (omega arith)
nothing (suc n) zero lt = refl
nothing (suc n) (suc i) lt = nothing n i (omega arith)

set_itself : {X : Type 0} (xs : List X) (i : ℕ) (x : X) → slice_get xs i ≡ Some x
    → slice_set xs i x ≡ xs
set_itself [] i x e = absurd (none≢some x None refl e)
set_itself (y ∷ xs) zero x e = let s : x ≡ y = cc in ap (λ z. z ∷ xs) s
set_itself (y ∷ xs) (suc i) x e = ap (λ ys. y ∷ ys) (set_itself xs i x e)

All-at : {X : Type 0} (P : X → Type 0) (xs : List X) (i : ℕ) (x : X) → slice_get xs i ≡ Some x
    → All P xs → P x
All-at P xs i x e all = subst P (get_or_from_slice_get xs i x x e)
    (all i x (slice_get_within xs i x e))

map-nothing : {X Y : Type 0} (f : X → Y) (n : ℕ)
    → map (option_map f) (replicate n None) ≡ replicate n None
map-nothing f zero = refl
map-nothing f (suc n) = ap (λ ys. None ∷ ys) (map-nothing f n)

All-nothing : {X : Type 0} (P : X → Type 0) (n : ℕ) → All (λ hand. IfSome hand P) (replicate n None)
All-nothing {X} P n k d lt =
    let e : get_or (replicate {A = Option X} n None) k d
    ≡ None = get_or_from_slice_get (replicate n None) k None d
    (nothing n k (subst (λ m. k < m) (length-replicate {A = Option X} n None) lt)) in
    subst (λ hand. IfSome hand P) (sym e) tt

module _ {Id V : Type 0} (same : Id → Id → Bool) (plan : Meaning Id V) (workers : ℕ) where
  pub held_new : IsHeld same plan workers [] (replicate workers None)
  held_new = record {
    outs = map-nothing (λ hand. hand.0) workers;
    due
        = All-nothing (λ h. IsDue same plan h.0 h.1) workers;
  }

  module _ (events : List (Event Id)) (hands : List (Option (Id × List (Id × Plain V))))
      (held : IsHeld same plan workers events hands) where
    pub hand_out : (w : ℕ) (hand : Option (Id × List (Id × Plain V)))
        → slice_get hands w ≡ Some hand → slice_get (out_of workers events) w
        ≡ Some (option_map (λ h. h.0) hand)
    hand_out w hand e = ap (λ os. slice_get os w) (sym held.outs)
        ∙ slice_get-map (option_map (λ h. h.0)) hands w ∙ ap (option_map (option_map (λ h. h.0))) e

    pub hand_within : (w : ℕ) → w < workers → w < length hands
    hand_within w lt = let n : length hands
        ≡ workers = sym (length-map hands (option_map (λ h. h.0))) ∙ ap length held.outs
        ∙ length-out_of workers events in omega arith

    pub hand_due : (w : ℕ) (id : Id) (reads : List (Id × Plain V))
        → slice_get hands w ≡ Some (Some (id, reads)) → IsDue same plan id reads
    hand_due w id reads e = All-at (λ hand. IfSome hand (λ h. IsDue same plan h.0 h.1)) hands w
        (Some (id, reads)) e held.due

    -- a write to a worker's hand
    outs_set : (w : ℕ) (hand : Option (Id × List (Id × Plain V)))
        → map (option_map (λ h. h.0)) (slice_set hands w hand)
        ≡ slice_set (out_of workers events) w (option_map (λ h. h.0) hand)
    outs_set w hand = map-set (option_map (λ h. h.0)) hands w hand
        ∙ ap (λ os. slice_set os w (option_map (λ h. h.0) hand)) held.outs

    pub held_claim : (w : ℕ) (id : Id) (reads : List (Id × Plain V)) → IsDue same plan id reads
        → IsHeld same plan workers (events ++ event.Claim w id ∷ [])
        (slice_set hands w (Some (id, reads)))
    held_claim w id reads due = record {
      outs = outs_set w (Some (id, reads)) ∙ sym (out_of-push workers events (event.Claim w id));
      due = All-set (λ hand. IfSome hand (λ h. IsDue same plan h.0 h.1)) hands w (Some (id, reads))
          due held.due;
    }

    pub held_finish : (w : ℕ) (id : Id) → IsHeld same plan workers
        (events ++ event.Finish w id ∷ []) (slice_set hands w None)
    held_finish w id = record {
      outs = outs_set w None ∙ sym (out_of-push workers events (event.Finish w id));
      due = All-set (λ hand. IfSome hand (λ h. IsDue same plan h.0 h.1)) hands w None tt held.due;
    }

    pub held_halt : (w : ℕ) → IsHeld same plan workers (events ++ event.Halt w ∷ [])
        (slice_set hands w None)
    held_halt w = record {
      outs = outs_set w None ∙ sym (out_of-push workers events (event.Halt w));
      due = All-set (λ hand. IfSome hand (λ h. IsDue same plan h.0 h.1)) hands w None tt held.due;
    }

    -- a hand that was empty and is emptied
    pub held_same : (w : ℕ) → slice_get hands w ≡ Some None
        → IsHeld same plan workers events (slice_set hands w None)
    held_same w e = subst (IsHeld same plan workers events) (sym (set_itself hands w None e)) held

-- the hand that was read
pub hand_read : {X : Type 0} (hands : List (Option X)) (w : ℕ) (x hand : Option X)
    → w < length hands → x ≡ get_or hands w x → x ≡ hand → slice_get hands w ≡ Some hand
hand_read hands w x hand lt e is = slice_get-get_or hands w x lt ∙ ap Some (sym e ∙ is)

-- an emptied hand is empty
pub hand_emptied : {X : Type 0} (hands : List (Option X)) (w : ℕ) (now hand : Option X)
    → slice_get hands w ≡ Some hand → now ≡ None → slice_get (slice_set hands w now) w ≡ Some None
hand_emptied hands w now hand e is = get_set_same hands w now hand e ∙ ap Some is

-- where there are more events than before, the halt added one
pub halt_counts : {P Id : Type 0} (b : Bool) (old more new : BoardView P Id) → new ≡ cond b old more
    → length old.events < length new.events → new ≡ more
halt_counts {P} {Id} true old more new e lt = let n : length new.events
    ≡ length old.events = ap (λ (v : BoardView P Id). length v.events) e in absurd (omega arith)
halt_counts {P} {Id} false old more new e lt = e
