-- Casts that lose nothing.
use Rattle.std.proofs.Common.{◌≡◌, arith, ℤ, to_z, of_z, FitsSigned}
use Rattle.std.proofs.lemmas.Int.{ints}
use Rattle.std.specs.Int.{w32, w64}

-- a number that fits 32 bits is the same after it went through 64
pub narrowed : (z : ℤ) → FitsSigned w32 z → to_z w32 (of_z w32 (to_z w64 (of_z w64 z))) ≡ z
narrowed z fits = omega (arith, ints)
