-- Zeros that are written.
use Rattle.std.proofs.Common.{◌≡◌, ℕ, zero, suc, ◌<◌, [], ◌∷◌, replicate, take, refl, arith}

pub take_zeros : (k : ℕ) → k < 4 → take {A = ℕ} k (0 ∷ 0 ∷ 0 ∷ 0 ∷ []) ≡ replicate k 0
take_zeros zero h = refl
take_zeros (suc zero) h = refl
take_zeros (suc (suc zero)) h = refl
take_zeros (suc (suc (suc zero))) h = refl
take_zeros (suc (suc (suc (suc k)))) h = absurd (omega arith)
