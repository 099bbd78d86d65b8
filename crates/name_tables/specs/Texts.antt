-- The texts of a font's names. What each one says is fontc's own; the numbers that they go by are
-- those of OpenType 1.9, "name".
use Rattle.std.specs.Prelude.{ℕ, ◌+◌, ◌/◌, ◌%◌, Bool, ◌&&◌, not, nat_le, nat_eq, List, [], ◌∷◌}
use Rattle.std.specs.Prelude.{◌++◌, map, codes, take, filter}
use Rattle.std.specs.List.{list_any, flat_map}
use Rattle.std.specs.Str.{chars}
use Rattle.std.specs.Char.Escape.{encode_utf16}
use Rattle.std.specs.Fmt.{decimal}
use Rattle.table_bytes.specs.DataTypes.{uint16}
use Rattle.font_ir.specs.declared.header.Axis.{Axis}
use Rattle.font_ir.specs.declared.header.Instance.{Instance}
use Rattle.font_ir.specs.declared.header.Header.{Header}
use Rattle.name_tables.specs.NameIds.{first_axis_id, first_instance_id}

-- a character, and a text given in UTF-8, in UTF-16 with the high byte of each unit first
abbrev pub utf16_character : ℕ → List ℕ
utf16_character c = flat_map uint16 (encode_utf16 c)

unfoldable pub utf16_bytes : List ℕ → List ℕ
utf16_bytes text = flat_map utf16_character (chars text)

-- ---- the version: the major one, a point, and the minor one in three digits

-- the digit in ASCII that stands for the last one of a number
abbrev pub last_digit : ℕ → ℕ
last_digit n = 48 + n % 10

unfoldable pub version_text : Header → List ℕ
version_text header =
    decimal header.major ++ codes "." ++ last_digit (header.minor / 100)
    ∷ last_digit (header.minor / 10) ∷ last_digit header.minor ∷ []

-- ---- the PostScript name: of the family's name what may stand in it, at most 55 bytes, and the
-- style

-- a character of a PostScript name: from 0x21 to 0x7E, and none of []{}()<>/% (OpenType 1.9,
-- "name", name ID 6)
abbrev pub is_postscript : ℕ → Bool
is_postscript b = nat_le 0x21 b && nat_le b 0x7E
    && not (list_any (λ mark. nat_eq mark b) (codes "[](){}<>/%"))

abbrev pub postscript_family : List ℕ → List ℕ
postscript_family family = take 55 (filter is_postscript family)

unfoldable pub postscript_text : Header → List ℕ
postscript_text header = postscript_family header.family ++ codes "-Regular"

-- ---- all texts, with their numbers

-- a text, and the name ID that it goes by
pub record NamedText : Type 0 where
  pub id : ℕ
  pub text : List ℕ

abbrev pub named : ℕ → List ℕ → NamedText
named id text = record { id = id; text = text }

-- texts by numbers that follow each other
abbrev pub numbered : ℕ → List (List ℕ) → List NamedText
numbered id [] = []
numbered id (text ∷ texts) = named id text ∷ numbered (id + 1) texts

-- the names by which the font goes
abbrev pub style_names : Header → List NamedText
style_names header =
    let family = header.family in
    let subfamily = codes "Regular" in
    let unique_identifier = version_text header ++ codes ";" ++ postscript_text header in
    named 1 family ∷ named 2 subfamily ∷ named 3 unique_identifier ∷ []

abbrev pub version_names : Header → List NamedText
version_names header =
    let full_name = header.family ++ codes " Regular" in
    let version = codes "Version " ++ version_text header in
    let postscript_name = postscript_text header in
    named 4 full_name ∷ named 5 version ∷ named 6 postscript_name ∷ []

abbrev pub font_names : Header → List NamedText
font_names header = style_names header ++ version_names header

-- the names of the axes, and of the instances
abbrev pub axis_names : Header → List NamedText
axis_names header = numbered first_axis_id (map (λ (axis : Axis). axis.name) header.axes)

abbrev pub instance_names : Header → List NamedText
instance_names header =
    numbered (first_instance_id header)
    (map (λ (instance : Instance). instance.name) header.instances)

abbrev pub names_of : Header → List NamedText
names_of header = font_names header ++ axis_names header ++ instance_names header
