-- The table "OS/2" of version 4 as bytes, field by field (OpenType 1.9, "OS/2"). What a source
-- doesn't tell is fontc's own: the sizes and places of scripts and of the line through letters are
-- parts of the em, and the ranges of Unicode and the code pages stay 0.
use Rattle.std.specs.Prelude.{ℕ, ◌*◌, ◌/◌, min, nat_eq, nat_lt, if◌then◌else◌, ℤ, pos, negsuc}
use Rattle.std.specs.Prelude.{neg_ℤ, slice_get, List, [], ◌++◌, length, codes, map, replicate}
use Rattle.std.specs.Prelude.{count_by}
use Rattle.std.specs.List.{fold, sum}
use Rattle.std.specs.Option.{option_map_or}
use Rattle.table_bytes.specs.DataTypes.{uint16, uint32, int16}
use Rattle.font_ir.specs.declared.header.Header.{Header}
use Rattle.font_ir.specs.declared.header.Master.{Master}
use Rattle.metrics_tables.specs.declared.measures.Measures.{Measures}
use Rattle.metrics_tables.specs.Comparisons.{greatest_count}

-- ---- the numbers

-- a mean, rounded down; 0 of nothing
abbrev pub mean : ℕ → ℕ → ℕ
mean total count = if nat_eq count 0 then 0 else total / count

-- that of the advance widths that are not zero: the others add nothing to the sum
abbrev pub mean_advance : List ℕ → ℕ
mean_advance advances = mean (sum advances) (count_by (nat_lt 0) advances)

-- the least and the greatest code, neither above 65535; 0 where there is none
abbrev pub first_code : List (ℕ × ℕ) → ℕ
first_code codes =
    if nat_eq (length codes) 0 then 0 else fold (λ low code. min low code.0) 65535 codes

abbrev pub last_code : List (ℕ × ℕ) → ℕ
last_code codes = min 65535 (greatest_count (map (λ code. code.0) codes))

-- a number, or 0 where it is below
abbrev pub above_zero : ℤ → ℕ
above_zero (pos n) = n
above_zero (negsuc n) = 0

-- so many hundredths of the em, rounded down
abbrev pub hundredths : ℕ → ℕ → ℕ
hundredths n units_per_em = n * units_per_em / 100

-- ---- the table

unfoldable pub weight_fields : ℕ → List ℕ
weight_fields x_avg_char_width =
    let version : ℕ = 4 in
    let us_weight_class : ℕ = 400 in
    let us_width_class : ℕ = 5 in
    let fs_type : ℕ = 0 in
    uint16 version ++ uint16 x_avg_char_width ++ uint16 us_weight_class ++ uint16 us_width_class
    ++ uint16 fs_type

-- letters below and above the line, and the line through letters
unfoldable pub script_fields : ℕ → List ℕ
script_fields units_per_em =
    let y_subscript_x_size : ℕ = hundredths 65 units_per_em in
    let y_subscript_y_size : ℕ = hundredths 65 units_per_em in
    let y_subscript_x_offset : ℕ = 0 in
    let y_subscript_y_offset : ℕ = hundredths 14 units_per_em in
    let y_superscript_x_size : ℕ = hundredths 65 units_per_em in
    let y_superscript_y_size : ℕ = hundredths 65 units_per_em in
    let y_superscript_x_offset : ℕ = 0 in
    let y_superscript_y_offset : ℕ = hundredths 48 units_per_em in
    let y_strikeout_size : ℕ = units_per_em / 20 in
    let y_strikeout_position : ℕ = hundredths 26 units_per_em in
    uint16 y_subscript_x_size ++ uint16 y_subscript_y_size
    ++ uint16 y_subscript_x_offset ++ uint16 y_subscript_y_offset
    ++ uint16 y_superscript_x_size ++ uint16 y_superscript_y_size
    ++ uint16 y_superscript_x_offset ++ uint16 y_superscript_y_offset
    ++ uint16 y_strikeout_size ++ uint16 y_strikeout_position

unfoldable pub class_fields : List ℕ
class_fields =
    let s_family_class : ℕ = 0 in
    let panose : List ℕ = replicate 10 0 in
    let ul_unicode_range1 : ℕ = 0 in
    let ul_unicode_range2 : ℕ = 0 in
    let ul_unicode_range3 : ℕ = 0 in
    let ul_unicode_range4 : ℕ = 0 in
    let ach_vend_id : List ℕ = codes "NONE" in
    -- REGULAR and USE_TYPO_METRICS
    let fs_selection : ℕ = 0x00C0 in
    uint16 s_family_class ++ panose ++ uint32 ul_unicode_range1 ++ uint32 ul_unicode_range2
    ++ uint32 ul_unicode_range3 ++ uint32 ul_unicode_range4 ++ ach_vend_id ++ uint16 fs_selection

-- above and below the line
unfoldable pub line_fields : Master → List ℕ
line_fields master =
    let s_typo_ascender : ℤ = master.ascender in
    let s_typo_descender : ℤ = master.descender in
    let s_typo_line_gap : ℤ = pos 0 in
    let us_win_ascent : ℕ = above_zero master.ascender in
    let us_win_descent : ℕ = above_zero (neg_ℤ master.descender) in
    int16 s_typo_ascender ++ int16 s_typo_descender ++ int16 s_typo_line_gap
    ++ uint16 us_win_ascent ++ uint16 us_win_descent

unfoldable pub code_page_fields : List ℕ
code_page_fields =
    let ul_code_page_range1 : ℕ = 0 in
    let ul_code_page_range2 : ℕ = 0 in
    uint32 ul_code_page_range1 ++ uint32 ul_code_page_range2

unfoldable pub letter_fields : Master → List ℕ
letter_fields master =
    let sx_height : ℤ = master.xheight in
    let s_cap_height : ℤ = master.cap in
    let us_default_char : ℕ = 0 in
    -- a space
    let us_break_char : ℕ = 32 in
    let us_max_context : ℕ = 0 in
    int16 sx_height ++ int16 s_cap_height ++ uint16 us_default_char ++ uint16 us_break_char
    ++ uint16 us_max_context

unfoldable pub code_fields : List (ℕ × ℕ) → List ℕ
code_fields codes =
    let us_first_char_index : ℕ = first_code codes in
    let us_last_char_index : ℕ = last_code codes in
    uint16 us_first_char_index ++ uint16 us_last_char_index

-- what a master says
unfoldable pub master_fields : Master → List ℕ
master_fields master = line_fields master ++ code_page_fields ++ letter_fields master

-- what the default master says
abbrev pub origin_fields : Header → List ℕ
origin_fields header =
    option_map_or master_fields (slice_get header.masters header.origin) []

unfoldable pub os2_table : Header → Measures → List (ℕ × ℕ) → List ℕ
os2_table header measures codes =
    weight_fields (mean_advance measures.advances) ++ script_fields header.upem ++ class_fields
    ++ code_fields codes ++ origin_fields header
