-- One turn of a search and of a fold: what the rest of it gives is what all of it gives.
use Rattle.std.proofs.Common.{◌≡◌, ℕ, suc, ◌+◌, ◌-◌, ◌<◌, ◌≤◌, Option, Some, None, Result, Ok}
use Rattle.std.proofs.Common.{Err, arith}
use Rattle.font_reader.specs.declared.faults.FontFault.{FontFault}
use Rattle.font_reader.specs.Fold.{folded}
use Rattle.font_reader.specs.Search.{first_some, first_found}

some_next : {X : Type 0} (f : ℕ → Option X) (i left : ℕ) (all : Option X) → f i ≡ None
    → first_some f i (suc left) ≡ all → first_some f (i + 1) left ≡ all
some_next f i left all e h = rw (first_some, e) at h

pub some_turn : {X : Type 0} (f : ℕ → Option X) (i end : ℕ) (all : Option X) → i < end
    → f i ≡ None → first_some f i (end - i) ≡ all → first_some f (i + 1) (end - (i + 1)) ≡ all
some_turn f i end all lt e h =
    let more : end - i ≡ suc (end - (i + 1)) = omega arith in
    some_next f i (end - (i + 1)) all e (rw more at h)

some_here : {X : Type 0} (f : ℕ → Option X) (i left : ℕ) (x : X) (all : Option X) → f i ≡ Some x
    → first_some f i (suc left) ≡ all → Some x ≡ all
some_here f i left x all e h = rw (first_some, e) at h

pub some_hit : {X : Type 0} (f : ℕ → Option X) (i end : ℕ) (x : X) (all : Option X) → i < end
    → f i ≡ Some x → first_some f i (end - i) ≡ all → Some x ≡ all
some_hit f i end x all lt e h =
    let more : end - i ≡ suc (end - (i + 1)) = omega arith in
    some_here f i (end - (i + 1)) x all e (rw more at h)

pub some_none : {X : Type 0} (f : ℕ → Option X) (i end : ℕ) (all : Option X) → end ≤ i
    → first_some f i (end - i) ≡ all → None ≡ all
some_none f i end all le h =
    let none : end - i ≡ 0 = omega arith in
    rw none at h

found_next : {X : Type 0} (f : ℕ → Result (Option X) FontFault) (i left : ℕ)
    (all : Result (Option X) FontFault) → f i ≡ Ok None → first_found f i (suc left) ≡ all
    → first_found f (i + 1) left ≡ all
found_next f i left all e h = rw (first_found, e) at h

pub found_turn : {X : Type 0} (f : ℕ → Result (Option X) FontFault) (i end : ℕ)
    (all : Result (Option X) FontFault) → i < end → f i ≡ Ok None
    → first_found f i (end - i) ≡ all → first_found f (i + 1) (end - (i + 1)) ≡ all
found_turn f i end all lt e h =
    let more : end - i ≡ suc (end - (i + 1)) = omega arith in
    found_next f i (end - (i + 1)) all e (rw more at h)

found_here : {X : Type 0} (f : ℕ → Result (Option X) FontFault) (i left : ℕ) (x : X)
    (all : Result (Option X) FontFault) → f i ≡ Ok (Some x) → first_found f i (suc left) ≡ all
    → Ok (Some x) ≡ all
found_here f i left x all e h = rw (first_found, e) at h

pub found_hit : {X : Type 0} (f : ℕ → Result (Option X) FontFault) (i end : ℕ) (x : X)
    (all : Result (Option X) FontFault) → i < end → f i ≡ Ok (Some x)
    → first_found f i (end - i) ≡ all → Ok (Some x) ≡ all
found_hit f i end x all lt e h =
    let more : end - i ≡ suc (end - (i + 1)) = omega arith in
    found_here f i (end - (i + 1)) x all e (rw more at h)

fault_here : {X : Type 0} (f : ℕ → Result (Option X) FontFault) (i left : ℕ) (x : FontFault)
    (all : Result (Option X) FontFault) → f i ≡ Err x → first_found f i (suc left) ≡ all
    → Err x ≡ all
fault_here f i left x all e h = rw (first_found, e) at h

pub fault_hit : {X : Type 0} (f : ℕ → Result (Option X) FontFault) (i end : ℕ) (x : FontFault)
    (all : Result (Option X) FontFault) → i < end → f i ≡ Err x → first_found f i (end - i) ≡ all
    → Err x ≡ all
fault_hit f i end x all lt e h =
    let more : end - i ≡ suc (end - (i + 1)) = omega arith in
    fault_here f i (end - (i + 1)) x all e (rw more at h)

pub found_none : {X : Type 0} (f : ℕ → Result (Option X) FontFault) (i end : ℕ)
    (all : Result (Option X) FontFault) → end ≤ i → first_found f i (end - i) ≡ all → Ok None ≡ all
found_none f i end all le h =
    let none : end - i ≡ 0 = omega arith in
    rw none at h

pub ruleset some = (some_turn, some_hit, some_none)

pub ruleset found = (found_turn, found_hit, fault_hit, found_none)

fold_next : {S : Type 0} (f : ℕ → S → Result S FontFault) (i left : ℕ) (s t : S)
    (all : Result S FontFault) → f i s ≡ Ok t → folded f i (suc left) s ≡ all
    → folded f (i + 1) left t ≡ all
fold_next f i left s t all e h = rw (folded, e) at h

pub fold_turn : {S : Type 0} (f : ℕ → S → Result S FontFault) (i end : ℕ) (s t : S)
    (all : Result S FontFault) → i < end → f i s ≡ Ok t → folded f i (end - i) s ≡ all
    → folded f (i + 1) (end - (i + 1)) t ≡ all
fold_turn f i end s t all lt e h =
    let more : end - i ≡ suc (end - (i + 1)) = omega arith in
    fold_next f i (end - (i + 1)) s t all e (rw more at h)

fold_here : {S : Type 0} (f : ℕ → S → Result S FontFault) (i left : ℕ) (s : S) (x : FontFault)
    (all : Result S FontFault) → f i s ≡ Err x → folded f i (suc left) s ≡ all → Err x ≡ all
fold_here f i left s x all e h = rw (folded, e) at h

pub fold_hit : {S : Type 0} (f : ℕ → S → Result S FontFault) (i end : ℕ) (s : S) (x : FontFault)
    (all : Result S FontFault) → i < end → f i s ≡ Err x → folded f i (end - i) s ≡ all
    → Err x ≡ all
fold_hit f i end s x all lt e h =
    let more : end - i ≡ suc (end - (i + 1)) = omega arith in
    fold_here f i (end - (i + 1)) s x all e (rw more at h)

pub fold_end : {S : Type 0} (f : ℕ → S → Result S FontFault) (i end : ℕ) (s : S)
    (all : Result S FontFault) → end ≤ i → folded f i (end - i) s ≡ all → Ok s ≡ all
fold_end f i end s all le h =
    let none : end - i ≡ 0 = omega arith in
    rw none at h

pub ruleset fold = (fold_turn, fold_hit, fold_end)
