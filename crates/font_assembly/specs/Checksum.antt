-- The checksum of a table, and of a whole font (OpenType 1.9, "Calculating Checksums").
use Rattle.std.specs.Prelude.{ℕ, ◌%◌, ◌^◌, List, [], ◌∷◌}
use Rattle.std.specs.List.{sum}
use Rattle.std.specs.Int.{w32, from_be_bytes}
use Rattle.table_bytes.specs.DataTypes.{padded}

-- the 32-bit numbers that bytes hold, four bytes each, the highest first
abbrev pub words : List ℕ → List ℕ
words (a ∷ b ∷ c ∷ d ∷ rest) = from_be_bytes w32 (a ∷ b ∷ c ∷ d ∷ []) ∷ words rest
words _ = []

-- the sum of the numbers of the padded bytes
unfoldable pub total : List ℕ → ℕ
total bytes = sum (words (padded bytes))

-- that sum as it wraps at 32 bits
abbrev pub checksum : List ℕ → ℕ
checksum bytes = total bytes % 2 ^ 32
