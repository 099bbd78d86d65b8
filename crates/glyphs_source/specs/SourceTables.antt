-- What is asked of a source's header and of the entries of its index, as tables of ways and rules
-- (Glyphs file format, version 3; the rules are fontc's own). They tell of each local rule where it
-- fails: exactly at the values that a row of that rule reaches, and of which it doesn't hold. So
-- they know no order, and no walk.
use Rattle.std.specs.Prelude.{◌≡◌, ℕ, Bool, true, not, List, [], ◌∷◌, ◌++◌, codes, Some, ◌⊎◌, ◌↔◌}
use Rattle.plist_reader.specs.declared.tree.Tree.{Tree}
use Rattle.refusal_codes.specs.declared.rule.Rule.{Rule}
use Rattle.refusal_codes.specs.declared.rule.Rule.TheVariants.{WrongShape, MissingKey, WrongVersion}
use Rattle.refusal_codes.specs.declared.rule.Rule.TheVariants.{NotWhole, OutOfRange}
use Rattle.source_values.specs.declared.kinds.Range.TheVariants.{Any, Natural, Code}
use Rattle.source_values.specs.Values.{place_at, items_at, pairs_at, is_list, is_dictionary}
use Rattle.source_values.specs.Ways.{IsOneOf, Step, under, each_item, when, Reaches, Row}
use Rattle.source_values.specs.Ways.{Fails, rows_of, behind, has}
use Rattle.source_values.specs.Tables.{decimal_passes, whole_table, decimal_table, text_table}
use Rattle.source_values.specs.Tables.{name_table, empty_list_table}
use Rattle.source_values.specs.Tables.{empty_dictionary_table, required_table, optional_table}
use Rattle.source_values.specs.Tables.{each_table, inside_table, has_fraction, is_outside}
use Rattle.source_values.specs.Tables.{has_other_length, is_decimal_value, is_text_value}
use Rattle.source_values.specs.Asking.{is_empty_list, is_empty_dictionary}
use Rattle.plist_reader.specs.Tree.{find_in}
use Rattle.refusal_codes.specs.declared.first.Failure.{Failure}
use Rattle.source_axes.specs.AxisReading.{axes_failures}
use Rattle.source_axes.specs.InstanceReading.{instances_failures}
use Rattle.source_masters.specs.Parameters.{font_parameters_failures}
use Rattle.source_masters.specs.Metrics.{metrics_failures, used_metrics}
use Rattle.source_masters.specs.MasterRules.{masters_failures}
use Rattle.glyphs_source.specs.HeaderReading.{is_version, header_failures}
use Rattle.glyphs_source.specs.IndexReading.{index_failures}

-- ---- the header

-- the versions of the format and of the font, the em and the name of the family
abbrev pub name_and_numbers_table : List Row
name_and_numbers_table =
    required_table (codes ".formatVersion") (decimal_table WrongVersion is_version)
    ++ required_table (codes "unitsPerEm") (whole_table (Natural 16 16384))
    ++ required_table (codes "familyName") name_table
    ++ optional_table (codes "versionMajor") (whole_table (Natural 0 32767))
    ++ optional_table (codes "versionMinor") (whole_table (Natural 0 999))

-- feature code and kerning: these aren't built
abbrev pub feature_forms_table : List Row
feature_forms_table =
    optional_table (codes "classes") empty_list_table
    ++ optional_table (codes "featurePrefixes") empty_list_table
    ++ optional_table (codes "features") empty_list_table
    ++ optional_table (codes "kerningLTR") empty_dictionary_table

-- the whole value of a source, as the header reads it, but for the values of its design space: of
-- these it asks that there is a list of masters
abbrev pub header_table : List Row
header_table =
    inside_table
    (name_and_numbers_table ++ required_table (codes "fontMaster") [] ++ feature_forms_table)

-- the value under a key of the font fails
abbrev pub FailsUnder : Tree → List ℕ → (Tree → ℕ → List Failure) → Failure → Type 0
FailsUnder t key failures f =
    (n : ℕ) × (find_in t t.top key ≡ Some n) × IsOneOf (failures t n) f

-- something of the design space fails: its axes and instances, of which the tables of `source_axes`
-- tell, or its metrics, parameters and masters, of which those of `source_masters` do
abbrev pub FailsInDesign : Tree → Failure → Type 0
FailsInDesign t f =
    FailsUnder t (codes "axes") axes_failures f
    ⊎ (FailsUnder t (codes "metrics") metrics_failures f
    ⊎ (FailsUnder t (codes "instances") instances_failures f
    ⊎ (FailsUnder t (codes "customParameters") font_parameters_failures f
    ⊎ FailsUnder t (codes "fontMaster") (masters_failures (used_metrics t)) f)))

-- a local rule of the header fails at a place exactly where a row of that rule says so, or where
-- something of the design space does
abbrev pub HeaderIsTabled : Type 0
HeaderIsTabled =
    (t : Tree) (rule : Rule) (place : ℕ)
    → IsOneOf (header_failures t) (record { rule = rule; place = place })
    ↔ (Fails (rows_of rule header_table) t t.top (record { rule = rule; place = place })
    ⊎ FailsInDesign t (record { rule = rule; place = place }))

-- ---- the index

abbrev pub is_no_list : Tree → ℕ → Bool
is_no_list t n = not (is_list t n)

-- codes: a whole number, or a list of them
abbrev pub codes_table : List Row
codes_table =
    behind (when is_list) (each_table (whole_table Code))
    ++ behind (when is_no_list) (whole_table Code)

-- a glyph, beside its layers
abbrev pub glyph_table : List Row
glyph_table =
    required_table (codes "glyphname") name_table
    ++ optional_table (codes "unicode") codes_table
    ++ optional_table (codes "export") (whole_table Any)
    ++ optional_table (codes "kernLeft") text_table
    ++ optional_table (codes "kernRight") text_table

-- the whole value of a source, as the index reads it
abbrev pub index_table : List Row
index_table =
    inside_table (optional_table (codes "glyphs") (each_table (inside_table glyph_table)))

-- a local rule of the index fails at a place exactly where a row of that rule says so
abbrev pub IndexIsTabled : Type 0
IndexIsTabled =
    (t : Tree) (rule : Rule) (place : ℕ)
    → IsOneOf (index_failures t) (record { rule = rule; place = place })
    ↔ Fails (rows_of rule index_table) t t.top (record { rule = rule; place = place })

-- ---- some rules in words

-- a source has a value at this place, at the end of this way, that passes this test
abbrev pub IsInSource : Tree → List Step → (Tree → ℕ → Bool) → ℕ → Type 0
IsInSource t way test place =
    (n : ℕ) × Reaches t way t.top n × (test t n ≡ true) × (place ≡ place_at t n)

abbrev pub lacks : List ℕ → Tree → ℕ → Bool
lacks key t n = not (has key t n)

-- the ways to the dictionary of the whole font, to its version of the format, and to those of the
-- glyphs
abbrev pub to_font : List Step
to_font = when is_dictionary ∷ []

abbrev pub to_version : List Step
to_version = when is_dictionary ∷ under (codes ".formatVersion") ∷ []

abbrev pub to_glyphs : List Step
to_glyphs = when is_dictionary ∷ under (codes "glyphs") ∷ each_item ∷ when is_dictionary ∷ []

-- a key of the header is missing exactly where the font lacks its version of the format, its em,
-- its family's name or its masters, or where its design space lacks one
abbrev pub MissingKeysOfTheHeader : Type 0
MissingKeysOfTheHeader =
    (t : Tree) (place : ℕ)
    → IsOneOf (header_failures t) (record { rule = MissingKey; place = place })
    ↔ ((IsInSource t to_font (lacks (codes ".formatVersion")) place
    ⊎ (IsInSource t to_font (lacks (codes "unitsPerEm")) place
    ⊎ (IsInSource t to_font (lacks (codes "familyName")) place
    ⊎ IsInSource t to_font (lacks (codes "fontMaster")) place)))
    ⊎ FailsInDesign t (record { rule = MissingKey; place = place }))

-- the version is wrong exactly where a decimal stands under its key that isn't 3
abbrev pub is_other_version : Tree → ℕ → Bool
is_other_version t n = not (decimal_passes is_version t n)

abbrev pub WrongVersions : Type 0
WrongVersions =
    (t : Tree) (place : ℕ)
    → IsOneOf (header_failures t) (record { rule = WrongVersion; place = place })
    ↔ IsInSource t to_version is_other_version place

-- a key of the index is missing exactly where a glyph has no name
abbrev pub MissingKeysOfTheIndex : Type 0
MissingKeysOfTheIndex =
    (t : Tree) (place : ℕ)
    → IsOneOf (index_failures t) (record { rule = MissingKey; place = place })
    ↔ IsInSource t to_glyphs (lacks (codes "glyphname")) place

-- the way to the value of the font under a key
abbrev pub to_top : List ℕ → List Step
to_top key = when is_dictionary ∷ under key ∷ []

-- a number of the header isn't whole exactly where the em or a part of the font's version has a
-- fraction, or where one of its design space has
abbrev pub FractionsOfTheHeader : Type 0
FractionsOfTheHeader =
    (t : Tree) (place : ℕ)
    → IsOneOf (header_failures t) (record { rule = NotWhole; place = place })
    ↔ ((IsInSource t (to_top (codes "unitsPerEm")) has_fraction place
    ⊎ (IsInSource t (to_top (codes "versionMajor")) has_fraction place
    ⊎ IsInSource t (to_top (codes "versionMinor")) has_fraction place))
    ⊎ FailsInDesign t (record { rule = NotWhole; place = place }))

-- a value at this place, at the end of one of these ways from the source's, passes the test beside
-- that way
abbrev pub IsAtOneOf : Tree → List (List Step × (Tree → ℕ → Bool)) → ℕ → Type 0
IsAtOneOf t [] place = ⊥
IsAtOneOf t (one ∷ others) place = IsInSource t one.0 one.1 place ⊎ IsAtOneOf t others place

-- values of other kinds
abbrev pub is_no_dictionary : Tree → ℕ → Bool
is_no_dictionary t n = not (is_dictionary t n)

abbrev pub is_no_decimal : Tree → ℕ → Bool
is_no_decimal t n = not (is_decimal_value t n)

abbrev pub is_no_text : Tree → ℕ → Bool
is_no_text t n = not (is_text_value t n)

abbrev pub is_no_empty_list : Tree → ℕ → Bool
is_no_empty_list t n = not (is_empty_list (items_at t n))

abbrev pub is_no_empty_dictionary : Tree → ℕ → Bool
is_no_empty_dictionary t n = not (is_empty_dictionary (pairs_at t n))

-- the font is a dictionary, its versions and its em are decimals, its family's name is a text, and
-- it has no feature code and no kerning
abbrev pub wrong_shapes : List (List Step × (Tree → ℕ → Bool))
wrong_shapes =
    ([], is_no_dictionary)
    ∷ (to_top (codes ".formatVersion"), is_no_decimal)
    ∷ (to_top (codes "unitsPerEm"), is_no_decimal)
    ∷ (to_top (codes "familyName"), is_no_text)
    ∷ (to_top (codes "versionMajor"), is_no_decimal)
    ∷ (to_top (codes "versionMinor"), is_no_decimal)
    ∷ (to_top (codes "classes"), is_no_empty_list)
    ∷ (to_top (codes "featurePrefixes"), is_no_empty_list)
    ∷ (to_top (codes "features"), is_no_empty_list)
    ∷ (to_top (codes "kerningLTR"), is_no_empty_dictionary)
    ∷ []

-- something of the header is of a wrong shape exactly where one of these values is, or where
-- something of its design space is
abbrev pub ShapesOfTheHeader : Type 0
ShapesOfTheHeader =
    (t : Tree) (place : ℕ)
    → IsOneOf (header_failures t) (record { rule = WrongShape; place = place })
    ↔ (IsAtOneOf t wrong_shapes place
    ⊎ FailsInDesign t (record { rule = WrongShape; place = place }))

-- the em is from 16 to 16384, the family's name has 1 to 255 bytes, and the parts of the font's
-- version are at most 32767 and 999
abbrev pub numbers_outside : List (List Step × (Tree → ℕ → Bool))
numbers_outside =
    (to_top (codes "unitsPerEm"), is_outside (Natural 16 16384))
    ∷ (to_top (codes "familyName"), has_other_length)
    ∷ (to_top (codes "versionMajor"), is_outside (Natural 0 32767))
    ∷ (to_top (codes "versionMinor"), is_outside (Natural 0 999))
    ∷ []

-- something of the header is out of range exactly where one of these is, or where something of its
-- design space is
abbrev pub RangesOfTheHeader : Type 0
RangesOfTheHeader =
    (t : Tree) (place : ℕ)
    → IsOneOf (header_failures t) (record { rule = OutOfRange; place = place })
    ↔ (IsAtOneOf t numbers_outside place
    ⊎ FailsInDesign t (record { rule = OutOfRange; place = place }))

-- the ways to the values of glyphs under a key, to the codes of glyphs that have a list of them, and
-- to the code of those that have no list
abbrev pub to_glyph : List ℕ → List Step
to_glyph key = to_glyphs ++ (under key ∷ [])

abbrev pub to_codes : List Step
to_codes = to_glyph (codes "unicode") ++ (when is_list ∷ each_item ∷ [])

abbrev pub to_code : List Step
to_code = to_glyph (codes "unicode") ++ (when is_no_list ∷ [])

-- a number of the index isn't whole exactly where a code or the `export` of a glyph has a fraction
abbrev pub FractionsOfTheIndex : Type 0
FractionsOfTheIndex =
    (t : Tree) (place : ℕ)
    → IsOneOf (index_failures t) (record { rule = NotWhole; place = place })
    ↔ (IsInSource t to_codes has_fraction place
    ⊎ (IsInSource t to_code has_fraction place
    ⊎ IsInSource t (to_glyph (codes "export")) has_fraction place))

-- something of the index is out of range exactly where the name of a glyph has not 1 to 255 bytes,
-- or where a whole number in place of a code is none
abbrev pub RangesOfTheIndex : Type 0
RangesOfTheIndex =
    (t : Tree) (place : ℕ)
    → IsOneOf (index_failures t) (record { rule = OutOfRange; place = place })
    ↔ (IsInSource t (to_glyph (codes "glyphname")) has_other_length place
    ⊎ (IsInSource t to_codes (is_outside Code) place
    ⊎ IsInSource t to_code (is_outside Code) place))

-- the way to the items of the list of glyphs
abbrev pub to_items : List Step
to_items = to_top (codes "glyphs") ++ (each_item ∷ [])

-- the font is a dictionary, its glyphs are a list of dictionaries, the name of each and those of its
-- groups for kerning are texts, and its codes and its `export` are decimals
abbrev pub wrong_shapes_of_index : List (List Step × (Tree → ℕ → Bool))
wrong_shapes_of_index =
    ([], is_no_dictionary)
    ∷ (to_top (codes "glyphs"), is_no_list)
    ∷ (to_items, is_no_dictionary)
    ∷ (to_glyph (codes "glyphname"), is_no_text)
    ∷ (to_codes, is_no_decimal)
    ∷ (to_code, is_no_decimal)
    ∷ (to_glyph (codes "export"), is_no_decimal)
    ∷ (to_glyph (codes "kernLeft"), is_no_text)
    ∷ (to_glyph (codes "kernRight"), is_no_text)
    ∷ []

-- something of the index is of a wrong shape exactly where one of these values is
abbrev pub ShapesOfTheIndex : Type 0
ShapesOfTheIndex =
    (t : Tree) (place : ℕ)
    → IsOneOf (index_failures t) (record { rule = WrongShape; place = place })
    ↔ IsAtOneOf t wrong_shapes_of_index place
