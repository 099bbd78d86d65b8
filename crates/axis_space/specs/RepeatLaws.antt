-- Where the first places of a list are all different, the first that stands again comes after them.
-- For the proofs of other crates.
use Rattle.std.proofs.Common.{◌≢◌, ℕ, ◌≤◌, List, [], ◌++◌, length, arith, sym, ◌∙◌, inl, inr}
use Rattle.std.proofs.Math.ListN.{get_or-append}
use Rattle.std.proofs.lemmas.Bool.{cases_lt}
use Rattle.std.specs.List.{AllPairs}
use Rattle.fixed_math.specs.declared.F2Dot14.{F2Dot14}
use Rattle.axis_space.specs.Repeats.{IsFirstRepeat}

pub repeat_is_later : (first others : List (List F2Dot14)) (i : ℕ) → AllPairs (λ a b. a ≢ b) first
    → IsFirstRepeat (first ++ others) i → length first ≤ i
repeat_is_later first others i different told =
    elim (cases_lt i (length first)) [
      | inr late ↦ late
      | inl early ↦ let (j, below, same) = told.again in
          absurd (different j i [] below early
          (sym (get_or-append first others [] j (omega (arith, below, early)))
          ∙ same ∙ get_or-append first others [] i early))
    ]
