-- What a console took, and the bytes behind it.
use Rattle.std.proofs.Common.{◌≡◌, ℕ, List, [], ◌++◌, length, take, drop, Option, Some}
use Rattle.std.proofs.Common.{None, refl, sym, ap, subst, ◌∙◌, append_assoc, inl, inr}
use Rattle.std.proofs.Math.Seq.{take-append_seam}
use Rattle.std.proofs.lemmas.List.{take-append-drop, append-nil}
use Rattle.outside_io.specs.Console.{TookNow, with_more}
use Rattle.outside_io.specs.Counts.{HasRisen}
use Rattle.whole_files.specs.Printing.{Printed, PrintsPart}

-- more bytes behind those that the console took behind its first ones
more-taken : (before : Option (List ℕ)) (done more : List ℕ)
    → with_more more (with_more done before) ≡ with_more (done ++ more) before
more-taken None done more = refl
more-taken (Some first) done more = ap Some (append_assoc first done more)

took_more : (first before after : Option (List ℕ)) (done more : List ℕ)
    → TookNow (with_more done first) before → TookNow (with_more more before) after
    → TookNow (with_more (done ++ more) first) after
took_more first before after done more (inl untold) (inl now) = inl now
took_more first before after done more (inl untold) (inr now)
    = inl (now ∙ ap (with_more more) untold)
took_more first before after done more (inr held) (inl now) = inl now
took_more first before after done more (inr held) (inr now)
    = inr (now ∙ ap (with_more more) held ∙ more-taken first done more)

took_still : (first before after : Option (List ℕ)) → TookNow first before → TookNow before after
    → TookNow first after
took_still first before after (inl untold) (inl now) = inl now
took_still first before after (inl untold) (inr now) = inl (now ∙ untold)
took_still first before after (inr held) (inl now) = inl now
took_still first before after (inr held) (inr now) = inr (now ∙ held)

with_none : (took : Option (List ℕ)) → took ≡ with_more [] took
with_none None = refl
with_none (Some before) = ap Some (sym (append-nil before))

-- The console took all of the bytes but a rest, behind those before.
pub record IsPrinted (bytes rest : List ℕ) (old new : Option (List ℕ)) : Type 0 where
  pub done : List ℕ
  pub split : done ++ rest ≡ bytes
  pub taken : TookNow (with_more done old) new

pub nothing_printed : (bytes : List ℕ) (took : Option (List ℕ)) → IsPrinted bytes bytes took took
nothing_printed bytes took
    = record { done = []; split = refl; taken = inr (with_none took) }

pub more_printed : (bytes rest later : List ℕ) (n : ℕ) (old before after : Option (List ℕ))
    → IsPrinted bytes rest old before → later ≡ drop n rest
    → TookNow (with_more (take n rest) before) after → IsPrinted bytes later old after
more_printed bytes rest later n old before after so_far behind taken = record {
  done = so_far.done ++ take n rest;
  split = ap (λ (xs : List ℕ). (so_far.done ++ take n rest) ++ xs) behind
      ∙ append_assoc so_far.done (take n rest) (drop n rest)
      ∙ ap (λ (xs : List ℕ). so_far.done ++ xs) (take-append-drop n rest) ∙ so_far.split;
  taken = took_more old before after so_far.done (take n rest) so_far.taken taken;
}

pub all_printed : (bytes rest : List ℕ) (old new : Option (List ℕ)) → IsPrinted bytes rest old new
    → rest ≡ [] → TookNow (with_more bytes old) new
all_printed bytes rest old new so_far empty =
    let whole : so_far.done ≡ bytes = sym (append-nil so_far.done)
    ∙ ap (λ (xs : List ℕ). so_far.done ++ xs) (sym empty) ∙ so_far.split in
    subst (λ (xs : List ℕ). TookNow (with_more xs old) new) whole so_far.taken

pub part_printed : (bytes rest : List ℕ) (old before after : Printed)
    → IsPrinted bytes rest old.took before.took → before.failures ≡ old.failures
    → TookNow before.took after.took → HasRisen before.failures after.failures
    → PrintsPart bytes old after
part_printed bytes rest old before after so_far none_failed same risen =
    let front : so_far.done ≡ take (length so_far.done) bytes
    = sym (take-append_seam so_far.done rest) ∙ ap (take (length so_far.done)) so_far.split in (
      (
        length so_far.done,
        subst (λ (xs : List ℕ). TookNow (with_more xs old.took) after.took) front
            (took_still (with_more so_far.done old.took) before.took after.took so_far.taken same),
      ),
      subst (λ (count : ℕ). HasRisen count after.failures) none_failed risen,
    )
