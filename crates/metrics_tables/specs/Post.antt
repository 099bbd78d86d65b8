-- The table "post" as bytes, field by field (OpenType 1.9, "post"). Version 2.0 tells the glyphs'
-- names. That every name but `.notdef` is stored, also where it is one of the 258 standard ones,
-- and that a font of more glyphs than numbers are left for has version 3.0, is fontc's own.
use Rattle.std.specs.Prelude.{ℕ, ◌+◌, ◌/◌, ◌%◌, Bool, nat_eq, nat_le, if◌then◌else◌, List, []}
use Rattle.std.specs.Prelude.{◌∷◌, ◌++◌, length, codes, pos, neg_ℤ}
use Rattle.std.specs.List.{flat_map}
use Rattle.std.specs.Cmp.Lexicographic.{pointwise}
use Rattle.table_bytes.specs.DataTypes.{uint16, uint32, int16}
use Rattle.font_ir.specs.declared.header.Header.{Header}
use Rattle.font_ir.specs.Glyphs.{Glyphs}

-- a font whose glyphs differ in width, of which nothing is said about the memory that it takes
unfoldable pub memory_fields : List ℕ
memory_fields =
    let is_fixed_pitch : ℕ = 0 in
    let min_mem_type42 : ℕ = 0 in
    let max_mem_type42 : ℕ = 0 in
    let min_mem_type1 : ℕ = 0 in
    let max_mem_type1 : ℕ = 0 in
    uint32 is_fixed_pitch ++ uint32 min_mem_type42 ++ uint32 max_mem_type42
    ++ uint32 min_mem_type1 ++ uint32 max_mem_type1

-- the line under letters: a tenth of the em below them
unfoldable pub underline_fields : ℕ → List ℕ
underline_fields units_per_em =
    let underline_position = neg_ℤ (pos (units_per_em / 10)) in
    let underline_thickness = pos (units_per_em / 20) in
    int16 underline_position ++ int16 underline_thickness

-- the fields that every version has
unfoldable pub post_head : ℕ → ℕ → List ℕ
post_head version units_per_em =
    let italic_angle : ℕ = 0 in
    uint32 version ++ uint32 italic_angle ++ underline_fields units_per_em ++ memory_fields

abbrev pub is_notdef : List ℕ → Bool
is_notdef name = pointwise nat_eq name (codes ".notdef")

-- glyphNameIndex: `.notdef` is the first of the standard names, and the others, which stand in
-- their order, have the numbers behind these. A number is written by its low 16 bits.
abbrev pub name_indexes : ℕ → List (List ℕ) → List ℕ
name_indexes next [] = []
name_indexes next (name ∷ names) =
    if is_notdef name then uint16 0 ++ name_indexes next names
    else uint16 (next % 65536) ++ name_indexes (next + 1) names

-- a Pascal string: how many bytes there are, and the bytes
abbrev pub pascal_string : List ℕ → List ℕ
pascal_string name = length name ∷ name

abbrev pub stored_name : List ℕ → List ℕ
stored_name name = if is_notdef name then [] else pascal_string name

-- what version 2.0 has behind the other fields
unfoldable pub names_part : List (List ℕ) → List ℕ
names_part names =
    let num_glyphs : ℕ = length names in
    let first_index : ℕ = 258 in
    uint16 num_glyphs ++ name_indexes first_index names ++ flat_map stored_name names

-- so many glyphs can be numbered: the standard names take 258 of the numbers of 16 bits, and
-- `.notdef` takes one of those
abbrev pub most_names : ℕ
most_names = 65279

abbrev pub post_table : Header → Glyphs → List ℕ
post_table header order =
    if nat_le (length order.names) most_names
    then post_head 0x00020000 header.upem ++ names_part order.names
    else post_head 0x00030000 header.upem
