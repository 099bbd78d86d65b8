-- What a count says that rises at each failed call.
use Rattle.std.proofs.Common.{◌≡◌, ℕ, ◌≤◌, List, Result, Ok, Err, OnOk, OnErr, is_ok, inl, inr}
use Rattle.std.proofs.Common.{arith}
use Rattle.outside_io.specs.Counts.{HasRisen}
use Rattle.outside_io.specs.Real.{after_call}

module _ {T E : Type 0} (old new : ℕ) where
  pub counted_up : (r : Result T E) → OnErr r (HasRisen old new) → new ≡ after_call (is_ok r) old
      → old ≤ new
  counted_up (Ok x) h e = omega arith
  counted_up (Err x) (inl h) e = omega arith
  counted_up (Err x) (inr h) e = omega arith

  pub counted_ok : (r : Result T E) → new ≡ after_call (is_ok r) old → OnOk r (new ≡ old)
  counted_ok (Ok x) e = e
  counted_ok (Err x) e = tt

-- a count for all paths
module _ {T E : Type 0} (old new : ℕ) where
  pub counted_ok_paths : (r : Result T E) → new ≡ after_call (is_ok r) old
      → OnOk r (List ℕ → new ≡ old)
  counted_ok_paths (Ok x) e = λ _. e
  counted_ok_paths (Err x) e = tt
