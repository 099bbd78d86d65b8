-- What is asked of the axes and the instances of a source, as tables of ways and rules (Glyphs file
-- format, version 3; the rules are fontc's own), and which tags stand again. They tell of each
-- local rule where it fails: exactly at the values that a row of that rule reaches, and of which it
-- doesn't hold, and at the tags that an earlier axis has.
use Rattle.std.specs.Prelude.{◌≡◌, ℕ, Bool, true, false, not, nat_le, List, [], ◌∷◌, ◌++◌, map}
use Rattle.std.specs.Prelude.{length, Option, Some, codes, ◌⊎◌, ◌↔◌}
use Rattle.std.specs.Option.{option_map_or}
use Rattle.plist_reader.specs.declared.tree.Tree.{Tree}
use Rattle.plist_reader.specs.Tree.{text_at, find_in}
use Rattle.refusal_codes.specs.declared.rule.Rule.{Rule}
use Rattle.refusal_codes.specs.declared.rule.Rule.TheVariants.{MissingKey, NotWhole, OutOfRange}
use Rattle.refusal_codes.specs.declared.rule.Rule.TheVariants.{BadTag, WrongShape}
use Rattle.refusal_codes.specs.declared.limits.TheConstants.{INSTANCES}
use Rattle.refusal_codes.specs.declared.first.Failure.{Failure}
use Rattle.source_values.specs.declared.decimals.Decimal.{Decimal}
use Rattle.source_values.specs.declared.kinds.Range.TheVariants.{Any}
use Rattle.source_values.specs.Values.{place_at, is_dictionary, decimal_at}
use Rattle.source_values.specs.Ways.{IsOneOf, Step, under, each_item, when, Reaches, Row, Fails}
use Rattle.source_values.specs.Ways.{rows_of, here, has}
use Rattle.source_values.specs.Tables.{is_text_value, text_passes, whole_table, decimal_table}
use Rattle.source_values.specs.Tables.{text_table, name_table, required_table, optional_table}
use Rattle.source_values.specs.Tables.{each_table, inside_table, has_fraction, has_other_length}
use Rattle.source_axes.specs.AxisValues.{is_axis_value}
use Rattle.source_axes.specs.AxisReading.{is_tag, tag_text, items_or_none, axes_failures}
use Rattle.source_axes.specs.InstanceReading.{kept_among, instances_failures}

-- ---- axes

abbrev pub tag_table : List Row
tag_table = here WrongShape is_text_value ++ here BadTag (text_passes is_tag)

abbrev pub axis_table : List Row
axis_table =
    required_table (codes "name") name_table ++ required_table (codes "tag") tag_table

-- the list of axes, but for tags that stand again
abbrev pub axes_table : List Row
axes_table = each_table (inside_table axis_table)

-- at this place stands the tag of one of these axes that an axis before it has
pub record IsRepeatedTag (t : Tree) (axes : List ℕ) (place : ℕ) : Type 0 where
  pub before : List ℕ
  pub axis : ℕ
  pub behind : List ℕ
  pub in_order : axes ≡ before ++ axis ∷ behind
  pub text : List ℕ
  pub own : tag_text t axis ≡ Some text
  pub earlier : IsOneOf (map (tag_text t) before) (Some text)
  pub value : ℕ
  pub there : find_in t axis (codes "tag") ≡ Some value
  pub is_place : place ≡ place_at t value

-- a local rule of a list of axes fails at a place exactly where a row of that rule says so, or
-- where a tag stands again
abbrev pub AxesAreTabled : Type 0
AxesAreTabled =
    (t : Tree) (n : ℕ) (rule : Rule) (place : ℕ)
    → IsOneOf (axes_failures t n) (record { rule = rule; place = place })
    ↔ (Fails (rows_of rule axes_table) t n (record { rule = rule; place = place })
    ⊎ ((rule ≡ BadTag) × IsRepeatedTag t (items_or_none t n) place))

-- ---- instances

abbrev pub instance_table : List Row
instance_table =
    required_table (codes "name") name_table
    ++ optional_table (codes "axesValues") (each_table (decimal_table OutOfRange is_axis_value))
    ++ optional_table (codes "exports") (whole_table Any)
    ++ optional_table (codes "type") text_table

-- whether at most 64 of a list are kept
abbrev pub keeps_few : Tree → ℕ → Bool
keeps_few t n = nat_le (length (kept_among t (items_or_none t n))) INSTANCES

abbrev pub instances_table : List Row
instances_table = each_table (inside_table instance_table) ++ here OutOfRange keeps_few

-- a local rule of a list of instances fails at a place exactly where a row of that rule says so
abbrev pub InstancesAreTabled : Type 0
InstancesAreTabled =
    (t : Tree) (n : ℕ) (rule : Rule) (place : ℕ)
    → IsOneOf (instances_failures t n) (record { rule = rule; place = place })
    ↔ Fails (rows_of rule instances_table) t n (record { rule = rule; place = place })

-- ---- some rules in words

-- a value has inside it another one, at the end of this way, which passes this test and stands at
-- this place
abbrev pub IsInside : Tree → ℕ → List Step → (Tree → ℕ → Bool) → ℕ → Type 0
IsInside t n way test place =
    (m : ℕ) × Reaches t way n m × (test t m ≡ true) × (place ≡ place_at t m)

abbrev pub lacks : List ℕ → Tree → ℕ → Bool
lacks key t n = not (has key t n)

-- the ways from a list to its dictionaries, and to their values under a key
abbrev pub to_parts : List Step
to_parts = each_item ∷ when is_dictionary ∷ []

abbrev pub to_part : List ℕ → List Step
to_part key = each_item ∷ when is_dictionary ∷ under key ∷ []

-- a text that is no tag: it hasn't 1 to 4 bytes, or one of them isn't from 0x21 to 0x7E
abbrev pub is_other_tag : Tree → ℕ → Bool
is_other_tag t n = option_map_or (λ text. not (is_tag text)) (text_at t.nodes n) false

-- a tag is bad exactly where the text under its key is no tag, or is that of an earlier axis
abbrev pub BadTags : Type 0
BadTags =
    (t : Tree) (n place : ℕ)
    → IsOneOf (axes_failures t n) (record { rule = BadTag; place = place })
    ↔ (IsInside t n (to_part (codes "tag")) is_other_tag place
    ⊎ IsRepeatedTag t (items_or_none t n) place)

-- a key of an axis is missing exactly where it has no name or no tag
abbrev pub MissingKeysOfAxes : Type 0
MissingKeysOfAxes =
    (t : Tree) (n place : ℕ)
    → IsOneOf (axes_failures t n) (record { rule = MissingKey; place = place })
    ↔ (IsInside t n to_parts (lacks (codes "name")) place
    ⊎ IsInside t n to_parts (lacks (codes "tag")) place)

-- something of axes is out of range exactly where a name hasn't 1 to 255 bytes
abbrev pub RangesOfAxes : Type 0
RangesOfAxes =
    (t : Tree) (n place : ℕ)
    → IsOneOf (axes_failures t n) (record { rule = OutOfRange; place = place })
    ↔ IsInside t n (to_part (codes "name")) has_other_length place

-- a key of an instance is missing exactly where it has no name
abbrev pub MissingKeysOfInstances : Type 0
MissingKeysOfInstances =
    (t : Tree) (n place : ℕ)
    → IsOneOf (instances_failures t n) (record { rule = MissingKey; place = place })
    ↔ IsInside t n to_parts (lacks (codes "name")) place

-- a number of an instance isn't whole exactly where its `exports` has a fraction
abbrev pub FractionsOfInstances : Type 0
FractionsOfInstances =
    (t : Tree) (n place : ℕ)
    → IsOneOf (instances_failures t n) (record { rule = NotWhole; place = place })
    ↔ IsInside t n (to_part (codes "exports")) has_fraction place

-- the way to the coordinates of instances, and those that aren't from -32767 to 32767
abbrev pub to_coordinates : List Step
to_coordinates =
    each_item ∷ when is_dictionary ∷ under (codes "axesValues") ∷ each_item ∷ []

abbrev pub is_other_coordinate : Tree → ℕ → Bool
is_other_coordinate t n = option_map_or (λ d. not (is_axis_value d)) (decimal_at t n) false

abbrev pub keeps_many : Tree → ℕ → Bool
keeps_many t n = not (keeps_few t n)

-- something of instances is out of range exactly where a name hasn't 1 to 255 bytes, where a
-- coordinate is beyond 32767 in size, or where more than 64 are kept, at their list
abbrev pub RangesOfInstances : Type 0
RangesOfInstances =
    (t : Tree) (n place : ℕ)
    → IsOneOf (instances_failures t n) (record { rule = OutOfRange; place = place })
    ↔ (IsInside t n (to_part (codes "name")) has_other_length place
    ⊎ (IsInside t n to_coordinates is_other_coordinate place
    ⊎ IsInside t n [] keeps_many place))
