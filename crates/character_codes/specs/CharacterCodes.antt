-- The character codes of a font's glyphs, each with the glyph ID that it leads to, in rising order:
-- what the subtables of "cmap" are made of (OpenType 1.9, "cmap").
use Rattle.std.specs.Prelude.{ℕ, ◌+◌, Bool, List, [], ◌∷◌, ◌++◌, map, Option, Some, None}
use Rattle.std.specs.Prelude.{slice_get, if◌then◌else◌}
use Rattle.std.specs.Option.{option_map_or}
use Rattle.std.specs.Ordering.{nat_cmp, is_lt, ordering_then}
use Rattle.glyphs_source.specs.declared.entries.IndexEntry.{IndexEntry}

-- a glyph's name and its entry
abbrev pub Entry : Type 0
Entry = List ℕ × IndexEntry

-- codes with their glyph IDs
abbrev pub Codes : Type 0
Codes = List (ℕ × ℕ)

-- ---- the codes of each glyph

abbrev pub entry_codes : Option Entry → List ℕ
entry_codes entry = option_map_or (λ e. e.1.codes) entry []

-- the codes of the glyph with this number in the source; a glyph that the compiler made has none
abbrev pub codes_at : List Entry → Option ℕ → List ℕ
codes_at index None = []
codes_at index (Some number) = entry_codes (slice_get index number)

-- codes of a glyph, with its ID
abbrev pub with_gid : ℕ → List ℕ → Codes
with_gid gid list = map (λ code. (code, gid)) list

-- the codes of an order's glyphs, of which the first has this ID
abbrev pub codes_from : List Entry → ℕ → List (Option ℕ) → Codes
codes_from index gid [] = []
codes_from index gid (number ∷ numbers) =
    with_gid gid (codes_at index number) ++ codes_from index (gid + 1) numbers

-- ---- their order

-- codes are in order by the code; those that are equal, by the glyph ID
abbrev pub comes_before : ℕ × ℕ → ℕ × ℕ → Bool
comes_before a b = is_lt (ordering_then (nat_cmp a.0 b.0) (nat_cmp a.1 b.1))

-- a list in order with a code more
abbrev pub with_code : ℕ × ℕ → Codes → Codes
with_code code [] = code ∷ []
with_code code (other ∷ others) =
    if comes_before other code then other ∷ with_code code others else code ∷ other ∷ others

abbrev pub in_order : Codes → Codes
in_order [] = []
in_order (code ∷ codes) = with_code code (in_order codes)

-- the codes of all glyphs of an order, in order
unfoldable pub codes_of : List Entry → List (Option ℕ) → Codes
codes_of index numbers = in_order (codes_from index 0 numbers)
