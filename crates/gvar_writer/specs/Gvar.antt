-- The table "gvar" (OpenType 1.9, "gvar", "gvar header") of the data of each glyph, in the order of
-- the glyph numbers. The offsets are long. The shared tuples are the peaks of the masters' regions,
-- in order, and stand before the data: that is fontc's own.
use Rattle.std.specs.Prelude.{ℕ, ◌+◌, ◌*◌, List, [], ◌∷◌, ◌++◌, length, Option}
use Rattle.std.specs.List.{concat, flat_map}
use Rattle.font_ir.specs.declared.variation.Region.{Region}
use Rattle.table_bytes.specs.DataTypes.{uint16, uint32, padded}
use Rattle.table_bytes.specs.Tables.{over_limit}
use Rattle.gvar_writer.specs.TupleHeaders.{peak_tuple}

-- where each glyph's data begin, counted from the start of the data of all, and last where the last
-- ones end
abbrev pub offsets_from : ℕ → List (List ℕ) → List ℕ
offsets_from offset [] = offset ∷ []
offsets_from offset (part ∷ parts) = offset ∷ offsets_from (offset + length part) parts

abbrev pub offsets_bytes : List (List ℕ) → List ℕ
offsets_bytes parts = flat_map uint32 (offsets_from 0 parts)

abbrev pub shared_peaks : List Region → List ℕ
shared_peaks shared = flat_map (λ region. peak_tuple region.sides) shared

abbrev pub shared_tuples : List Region → List ℕ
shared_tuples shared = padded (shared_peaks shared)

-- where the shared tuples begin in a table of so many glyphs
abbrev pub shared_tuples_offset : ℕ → ℕ
shared_tuples_offset glyph_count = 20 + 4 * (glyph_count + 1)

-- the fields before the offsets, for shared tuples of so many bytes
unfoldable pub gvar_head : ℕ → ℕ → ℕ → ℕ → List ℕ
gvar_head axis_count shared_tuple_count glyph_count shared_length =
    let major_version : ℕ = 1 in
    let minor_version : ℕ = 0 in
    let flags : ℕ = 1 in
    let offset : ℕ = shared_tuples_offset glyph_count in
    uint16 major_version ++ uint16 minor_version ++ uint16 axis_count ++ uint16 shared_tuple_count
    ++ uint32 offset ++ uint16 glyph_count ++ uint16 flags ++ uint32 (offset + shared_length)

unfoldable pub gvar_table : List Region → ℕ → List (List ℕ) → List ℕ
gvar_table shared axes parts =
    gvar_head axes (length shared) (length parts) (length (shared_tuples shared))
    ++ offsets_bytes parts ++ shared_tuples shared ++ concat parts

-- how many bytes that are
abbrev pub table_length : List Region → List (List ℕ) → ℕ
table_length shared parts = shared_tuples_offset (length parts) + length (shared_tuples shared)
    + length (concat parts)

-- the length of the table, where that is too large
abbrev pub too_large : List Region → ℕ → List (List ℕ) → Option ℕ
too_large shared axes parts = over_limit (length (gvar_table shared axes parts))
