-- The axes that a source names, and the rules that they may fail (Glyphs file format, version 3;
-- the rules are fontc's own).
use Rattle.std.specs.Prelude.{ℕ, ◌-◌, Bool, ◌&&◌, nat_le, List, [], ◌∷◌, ◌++◌, length, map, take}
use Rattle.std.specs.Prelude.{replicate, Option, Some, None, unwrap_or, codes, if◌then◌else◌}
use Rattle.std.specs.Option.{option_map_or}
use Rattle.std.specs.List.{list_all}
use Rattle.plist_reader.specs.declared.tree.Tree.{Tree}
use Rattle.plist_reader.specs.Tree.{text_at, find_in}
use Rattle.plist_reader.specs.Keys.{is_among}
use Rattle.font_ir.specs.declared.header.Axis.{Axis}
use Rattle.font_ir.specs.declared.tag.Tag.{Tag}
use Rattle.refusal_codes.specs.declared.rule.Rule.TheVariants.{WrongShape, TooManyAxes, BadTag}
use Rattle.refusal_codes.specs.declared.first.Failure.{Failure}
use Rattle.refusal_codes.specs.declared.limits.TheConstants.{AXES}
use Rattle.source_values.specs.Values.{items_at, items_under, text_under, text_or_empty}
use Rattle.source_values.specs.Asking.{fails, name_failures, each, dictionary, required}

-- ---- local rules

-- a tag is 1 to 4 bytes from 0x21 to 0x7E
abbrev pub is_tag_byte : ℕ → Bool
is_tag_byte byte = nat_le 0x21 byte && nat_le byte 0x7E

abbrev pub is_tag : List ℕ → Bool
is_tag text = nat_le 1 (length text) && nat_le (length text) 4 && list_all is_tag_byte text

abbrev pub tag_failures_by : Tree → ℕ → Option (List ℕ) → List Failure
tag_failures_by t n None = fails WrongShape t n
tag_failures_by t n (Some text) = if is_tag text then [] else fails BadTag t n

unfoldable pub tag_failures : Tree → ℕ → List Failure
tag_failures t n = tag_failures_by t n (text_at t.nodes n)

unfoldable pub axis_parts_failures : Tree → ℕ → List Failure
axis_parts_failures t a =
    required (codes "name") name_failures t a ++ required (codes "tag") tag_failures t a

-- the text of an axis's tag, and that a tag fails at its value
abbrev pub tag_text : Tree → ℕ → Option (List ℕ)
tag_text t a = text_under t a (codes "tag")

abbrev pub fails_at_tag : Tree → ℕ → List Failure
fails_at_tag t a = option_map_or (fails BadTag t) (find_in t a (codes "tag")) []

-- what fails of an axis's tag, where these are the tags before
abbrev pub again_by : Tree → List (List ℕ) → ℕ → Option (List ℕ) → List Failure
again_by t tags a None = []
again_by t tags a (Some text) = if is_among text tags then fails_at_tag t a else []

-- the tags before, each once, and one more
abbrev pub with_tag : List (List ℕ) → Option (List ℕ) → List (List ℕ)
with_tag tags None = tags
with_tag tags (Some text) = if is_among text tags then tags else tags ++ text ∷ []

-- each tag that an earlier axis has, where these are the tags before
abbrev pub repeated_tags : Tree → List (List ℕ) → List ℕ → List Failure
repeated_tags t tags [] = []
repeated_tags t tags (a ∷ others) =
    again_by t tags a (tag_text t a) ++ repeated_tags t (with_tag tags (tag_text t a)) others

-- the values of a list, and none where the value is no list
abbrev pub items_or_none : Tree → ℕ → List ℕ
items_or_none t n = unwrap_or (items_at t n) []

-- a list of dictionaries, no two of which have the same tag
unfoldable pub axes_failures : Tree → ℕ → List Failure
axes_failures t n =
    each (dictionary axis_parts_failures) t n ++ repeated_tags t [] (items_or_none t n)

-- ---- the record

-- a tag is padded with spaces to four bytes
abbrev pub padded : List ℕ → List ℕ
padded text = take 4 text ++ replicate (4 - length text) 0x20

unfoldable pub axis_of : Tree → ℕ → Axis
axis_of t a = record {
  name = text_or_empty t a (codes "name");
  tag = record { 0 = padded (text_or_empty t a (codes "tag")) };
}

-- the values of the list of axes
unfoldable pub axis_numbers : Tree → List ℕ
axis_numbers t = items_under t t.top (codes "axes")

unfoldable pub axes_of : Tree → List Axis
axes_of t = map (axis_of t) (axis_numbers t)

-- ---- a whole rule: there are at most 8 axes

abbrev pub axis_limit_by : Tree → ℕ → Option (List ℕ) → List Failure
axis_limit_by t n None = []
axis_limit_by t n (Some axes) =
    if nat_le (length axes) AXES then [] else fails TooManyAxes t n

abbrev pub axis_limit_failures : Tree → Option ℕ → List Failure
axis_limit_failures t None = []
axis_limit_failures t (Some n) = axis_limit_by t n (items_at t n)

unfoldable pub too_many_axes : Tree → List Failure
too_many_axes t = axis_limit_failures t (find_in t t.top (codes "axes"))
