-- The table "name" as bytes, field by field (OpenType 1.9, "name", "Naming table version 0"). That
-- each text stands in UTF-16 for Windows in English alone, one after another and none of them
-- shared, is fontc's own.
use Rattle.std.specs.Prelude.{ℕ, ◌+◌, ◌*◌, List, [], ◌∷◌, ◌++◌, length}
use Rattle.std.specs.List.{flat_map}
use Rattle.table_bytes.specs.DataTypes.{uint16}
use Rattle.font_ir.specs.declared.header.Header.{Header}
use Rattle.name_tables.specs.Texts.{NamedText, names_of, utf16_bytes}

abbrev pub text_bytes : NamedText → List ℕ
text_bytes name = utf16_bytes name.text

-- a NameRecord
unfoldable pub record_fields : ℕ → ℕ → ℕ → List ℕ
record_fields name_id len string_offset =
    let windows : ℕ = 3 in
    let unicode_bmp : ℕ = 1 in
    let english_united_states : ℕ = 0x409 in
    uint16 windows ++ uint16 unicode_bmp ++ uint16 english_united_states ++ uint16 name_id
    ++ uint16 len ++ uint16 string_offset

-- that of a text that stands at an offset
abbrev pub name_record : ℕ → NamedText → List ℕ
name_record string_offset name =
    record_fields name.id (length (text_bytes name)) string_offset

-- the records of texts that stand one after another from an offset on
abbrev pub name_records : ℕ → List NamedText → List ℕ
name_records offset [] = []
name_records offset (name ∷ names) =
    name_record offset name ++ name_records (offset + length (text_bytes name)) names

-- the texts
abbrev pub string_data : List NamedText → List ℕ
string_data names = flat_map text_bytes names

unfoldable pub name_head : ℕ → List ℕ
name_head count =
    let version : ℕ = 0 in
    let storage_offset : ℕ = 6 + 12 * count in
    uint16 version ++ uint16 count ++ uint16 storage_offset

unfoldable pub name_table : Header → List ℕ
name_table header =
    let names = names_of header in
    name_head (length names) ++ name_records 0 names ++ string_data names
