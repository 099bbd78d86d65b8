-- First bytes of what a path holds, and the bytes behind them.
use Rattle.std.proofs.Common.{◌≡◌, ℕ, ◌-◌, ◌≤◌, List, [], ◌++◌, length, take, drop, Option, Some}
use Rattle.std.proofs.Common.{None, refl, sym, ap, subst, ◌∙◌, append_assoc, inl, inr}
use Rattle.std.specs.Prelude.{IfSome, OnErr, Result, Ok, Err}
use Rattle.std.proofs.Math.Seq.{drop-append_seam, take-append_seam}
use Rattle.outside_io.specs.Files.{Holding, Untold, Absent, Bytes, Leaves, replaced_by, followed_by}
use Rattle.std.proofs.lemmas.List.{take-append-drop, append-nil}

-- first bytes of a list, and the ones behind them, are first bytes of it
front_goes_on : (whole front rest more : List ℕ) (n : ℕ) → front ++ rest ≡ whole
    → more ≡ take n (drop (length front) whole) → (front ++ more) ++ drop n rest ≡ whole
front_goes_on whole front rest more n split came =
    let behind : drop (length front) whole ≡ rest = ap (drop (length front)) (sym split)
    ∙ drop-append_seam front rest in
    let more-is : more ≡ take n rest = came ∙ ap (take n) behind in
    append_assoc front more (drop n rest) ∙ ap (λ (xs : List ℕ). front ++ (xs ++ drop n rest))
    more-is ∙ ap (λ (xs : List ℕ). front ++ xs) (take-append-drop n rest) ∙ split

pub read_goes_on : (told : Option (List ℕ)) (front more : List ℕ) (place n : ℕ)
    → place ≡ length front
    → IfSome told (λ whole. (rest : List ℕ) × (front ++ rest ≡ whole))
    → IfSome told (λ whole. (n ≤ length whole - place) × (more ≡ take n (drop place whole)))
    → IfSome told (λ whole. (rest : List ℕ) × ((front ++ more) ++ rest ≡ whole))
read_goes_on None front more place n here split came = tt
read_goes_on (Some whole) front more place n here split came
    = (
      drop n split.0,
      front_goes_on whole front split.0 more n split.1
          (came.1 ∙ ap (λ (k : ℕ). take n (drop k whole)) here),
    )

-- nothing is first bytes of what any path holds
pub nothing_read : (told : Option (List ℕ)) (front : List ℕ) → front ≡ []
    → IfSome told (λ whole. (rest : List ℕ) × (front ++ rest ≡ whole))
nothing_read None front empty = tt
nothing_read (Some whole) front empty = (whole, ap (λ (xs : List ℕ). xs ++ whole) empty)

-- more bytes behind those that a path holds in place of what it held
followed-replaced : (holding : Holding) (done more : List ℕ)
    → followed_by more (replaced_by done holding) ≡ replaced_by (done ++ more) holding
followed-replaced Untold done more = refl
followed-replaced Absent done more = refl
followed-replaced (Bytes old) done more = refl

leaves_more : (first before after : Holding) (done more : List ℕ)
    → Leaves (replaced_by done first) before → Leaves (followed_by more before) after
    → Leaves (replaced_by (done ++ more) first) after
leaves_more first before after done more (inl untold) (inl now) = inl now
leaves_more first before after done more (inl untold) (inr now)
    = inl (now ∙ ap (followed_by more) untold)
leaves_more first before after done more (inr held) (inl now) = inl now
leaves_more first before after done more (inr held) (inr now)
    = inr (now ∙ ap (followed_by more) held ∙ followed-replaced first done more)

leaves_still : (first before after : Holding) → Leaves first before → Leaves before after
    → Leaves first after
leaves_still first before after (inl untold) (inl now) = inl now
leaves_still first before after (inl untold) (inr now) = inl (now ∙ untold)
leaves_still first before after (inr held) (inl now) = inl now
leaves_still first before after (inr held) (inr now) = inr (now ∙ held)

-- The path holds all of the bytes but a rest, in place of what it held.
pub record IsWritten (bytes rest : List ℕ) (old new : Holding) : Type 0 where
  pub done : List ℕ
  pub split : done ++ rest ≡ bytes
  pub left : Leaves (replaced_by done old) new

pub nothing_written : (bytes : List ℕ) (old new : Holding) → Leaves (replaced_by [] old) new
    → IsWritten bytes bytes old new
nothing_written bytes old new left = record { done = []; split = refl; left = left }

pub more_written : (bytes rest later : List ℕ) (n : ℕ) (old before after : Holding)
    → IsWritten bytes rest old before → later ≡ drop n rest
    → Leaves (followed_by (take n rest) before) after → IsWritten bytes later old after
more_written bytes rest later n old before after so_far behind left = record {
  done = so_far.done ++ take n rest;
  split = ap (λ (xs : List ℕ). (so_far.done ++ take n rest) ++ xs) behind
      ∙ append_assoc so_far.done (take n rest) (drop n rest)
      ∙ ap (λ (xs : List ℕ). so_far.done ++ xs) (take-append-drop n rest) ∙ so_far.split;
  left = leaves_more old before after so_far.done (take n rest) so_far.left left;
}

pub all_written : (bytes rest : List ℕ) (old new : Holding) → IsWritten bytes rest old new
    → rest ≡ [] → Leaves (replaced_by bytes old) new
all_written bytes rest old new so_far empty =
    let whole : so_far.done ≡ bytes = sym (append-nil so_far.done)
    ∙ ap (λ (xs : List ℕ). so_far.done ++ xs) (sym empty) ∙ so_far.split in
    subst (λ (xs : List ℕ). Leaves (replaced_by xs old) new) whole so_far.left

pub part_written : (bytes rest : List ℕ) (old before after : Holding)
    → IsWritten bytes rest old before → Leaves before after
    → (n : ℕ) × Leaves (replaced_by (take n bytes) old) after
part_written bytes rest old before after so_far same =
    let front : so_far.done ≡ take (length so_far.done) bytes
    = sym (take-append_seam so_far.done rest) ∙ ap (take (length so_far.done)) so_far.split in (
      length so_far.done,
      subst (λ (xs : List ℕ). Leaves (replaced_by xs old) after) front
          (leaves_still (replaced_by so_far.done old) before after so_far.left same),
    )

-- each other path is still as it was
pub others_still : {P : List ℕ → Type 0} (first before after : List ℕ → Holding)
    → ((path : List ℕ) → P path → Leaves (first path) (before path))
    → ((path : List ℕ) → P path → Leaves (before path) (after path)) → (path : List ℕ) → P path
    → Leaves (first path) (after path)
others_still first before after a b path p
    = leaves_still (first path) (before path) (after path) (a path p) (b path p)

-- what holds anyway holds after an error
pub on_error : {A E : Type 0} (r : Result A E) (P : Type 0) → P → OnErr r P
on_error (Ok x) P p = tt
on_error (Err e) P p = p
