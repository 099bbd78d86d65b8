-- Angles and their full turns.
use Rattle.std.proofs.Common.{◌≡◌, ℕ, ◌+◌, ◌*◌, ◌%◌, arith}

-- full turns that are left out don't count when a digit is added
pub digit_turns : (x k : ℕ) → (10 * (x % 360) + k) % 360 ≡ (10 * x + k) % 360
digit_turns x k = omega arith
