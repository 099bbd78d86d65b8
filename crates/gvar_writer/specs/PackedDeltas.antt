-- Packed deltas (OpenType 1.9, "Tuple variation store", "Packed deltas"). Which of the spellings
-- that a reader knows is written is fontc's own: each delta takes as few bytes as it can.
use Rattle.std.specs.Prelude.{ℕ, ◌%◌, ◌==◌, ◌&&◌, Bool, if◌then◌else◌, ℤ, pos, negsuc, int_le, List}
use Rattle.std.specs.Prelude.{[], ◌∷◌}
use Rattle.std.specs.Int.{w16, cast_unsigned}
use Rattle.std.specs.Ordering.{int_eq}
use Rattle.table_bytes.specs.DataTypes.{int16}
use Rattle.gvar_writer.specs.Runs.{packed}

-- a delta from -128 to 127
abbrev pub is_short : ℤ → Bool
is_short delta = int_le (negsuc 127) delta && int_le delta (pos 127)

-- DELTAS_ARE_ZERO, DELTAS_ARE_WORDS, or neither for deltas of one byte
abbrev pub delta_flags : ℤ → ℕ
delta_flags delta = if int_eq delta (pos 0) then 128 else (if is_short delta then 0 else 64)

-- the lower byte of a number's int16
abbrev pub int8 : ℤ → List ℕ
int8 z = (cast_unsigned w16 z % 256) ∷ []

-- a delta of a run with these flags
abbrev pub delta_bytes : ℕ → ℤ → List ℕ
delta_bytes flags delta = if flags == 128 then [] else (if flags == 64 then int16 delta else int8
    delta)

-- a run has at most 64 deltas
unfoldable pub packed_deltas : List ℤ → List ℕ
packed_deltas deltas = packed delta_flags 64 delta_bytes deltas
