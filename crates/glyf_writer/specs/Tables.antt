-- The tables "glyf" and "loca" (OpenType 1.9) of the data of each glyph, in the order of the glyph
-- numbers. "loca" is in its long format.
use Rattle.std.specs.Prelude.{ℕ, ◌+◌, List, [], ◌∷◌, map, length, Option, nat_lt, if◌then◌else◌}
use Rattle.std.specs.List.{concat, flat_map}
use Rattle.refusal_codes.specs.declared.limits.TheConstants.{TABLE_BYTES}
use Rattle.table_bytes.specs.DataTypes.{uint32}
use Rattle.table_bytes.specs.Tables.{over_limit}

-- where each glyph's data begin in "glyf", and last where the last ones end
abbrev pub offsets : List (List ℕ) → List ℕ
offsets [] = 0 ∷ []
offsets (part ∷ parts) = 0 ∷ map (λ offset. length part + offset) (offsets parts)

-- the data of all glyphs, one after another
abbrev pub glyf_bytes : List (List ℕ) → List ℕ
glyf_bytes parts = concat parts

-- each offset in four bytes, the highest first
abbrev pub loca_bytes : List (List ℕ) → List ℕ
loca_bytes parts = flat_map uint32 (offsets parts)

-- the length of "glyf" where that is too large, or else of "loca" where that is
abbrev pub too_large : List (List ℕ) → Option ℕ
too_large parts =
    if nat_lt TABLE_BYTES (length (glyf_bytes parts)) then over_limit (length (glyf_bytes parts))
    else over_limit (length (loca_bytes parts))
