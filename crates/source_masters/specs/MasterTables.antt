-- What is asked of metrics, masters and parameters, as tables of ways and rules (Glyphs file
-- format, version 3; the rules are fontc's own). They tell of each local rule where it fails:
-- exactly at the values that a row of that rule reaches, and of which it doesn't hold. So they know
-- no order, and no walk. A height beside a used metric, and the value of the parameter that counts,
-- are reached from their list, so they have tables of their own.
use Rattle.std.specs.Prelude.{◌≡◌, ℕ, Bool, true, false, not, List, [], ◌∷◌, ◌++◌, slice_get}
use Rattle.std.specs.Prelude.{codes, Some, ◌⊎◌, ◌↔◌}
use Rattle.std.specs.Option.{option_map_or}
use Rattle.plist_reader.specs.declared.tree.Tree.{Tree}
use Rattle.refusal_codes.specs.declared.rule.Rule.{Rule}
use Rattle.refusal_codes.specs.declared.rule.Rule.TheVariants.{WrongShape, MissingKey, NotWhole}
use Rattle.refusal_codes.specs.declared.rule.Rule.TheVariants.{OutOfRange}
use Rattle.refusal_codes.specs.declared.first.Failure.{Failure}
use Rattle.source_values.specs.declared.kinds.Range.TheVariants.{Any, Coordinate}
use Rattle.source_values.specs.Decimals.{is_whole}
use Rattle.source_values.specs.Values.{place_at, is_dictionary, decimal_at}
use Rattle.source_values.specs.Ways.{IsOneOf, Step, under, each_item, item, when, Reaches, Row}
use Rattle.source_values.specs.Ways.{Fails, TellsByRule, rows_of, here, has}
use Rattle.source_values.specs.Tables.{is_decimal_value, decimal_passes, is_within, has_fraction}
use Rattle.source_values.specs.Tables.{is_outside, whole_table, decimal_table, text_table}
use Rattle.source_values.specs.Tables.{dictionary_table, required_table, optional_table, each_table}
use Rattle.source_values.specs.Tables.{inside_table}
use Rattle.source_axes.specs.AxisValues.{is_axis_value}
use Rattle.source_masters.specs.Parameters.{parameter_at, font_parameters_failures}
use Rattle.source_masters.specs.Metrics.{metrics_failures}
use Rattle.source_masters.specs.MasterRules.{masters_failures}

-- ---- tables

-- a coordinate on an axis
abbrev pub axis_value_table : List Row
axis_value_table = decimal_table OutOfRange is_axis_value

-- the metrics of the font
abbrev pub metrics_table : List Row
metrics_table = each_table (inside_table (optional_table (codes "type") text_table))

-- a list of parameters, but for their values
abbrev pub entry_table : List Row
entry_table =
    optional_table (codes "name") text_table ++ optional_table (codes "disabled") (whole_table Any)

abbrev pub parameters_table : List Row
parameters_table = each_table (inside_table entry_table)

-- a list of masters, but for the heights beside used metrics and for the values of parameters
abbrev pub master_table : List Row
master_table =
    required_table (codes "id") text_table
    ++ optional_table (codes "axesValues") (each_table axis_value_table)
    ++ optional_table (codes "metricValues") (each_table dictionary_table)
    ++ optional_table (codes "customParameters") parameters_table

abbrev pub masters_table : List Row
masters_table = each_table (inside_table master_table)

-- the value beside a used metric: its height is a whole number from -16383 to 16383
abbrev pub height_table : List Row
height_table =
    here WrongShape is_decimal_value
    ++ here NotWhole (decimal_passes is_whole)
    ++ here OutOfRange (decimal_passes (is_within Coordinate))

abbrev pub value_table : List Row
value_table = optional_table (codes "pos") height_table

-- where a master lies on the user's scale
abbrev pub location_table : List Row
location_table =
    optional_table (codes "Axis") text_table ++ optional_table (codes "Location") axis_value_table

abbrev pub locations_table : List Row
locations_table = each_table (inside_table location_table)

-- ---- what they tell

-- the value that counts of a parameter in a list fails as the table says
abbrev pub FailsAsParameter : List ℕ → List Row → Tree → ℕ → Failure → Type 0
FailsAsParameter name rows t n f =
    (v : ℕ) × (parameter_at name t n ≡ Some v) × Fails rows t v f

-- the ways from a list of masters to what they have under a key, and to the value at a position of
-- their metrics
abbrev pub to_masters : List Step
to_masters = each_item ∷ when is_dictionary ∷ []

abbrev pub to_part : List ℕ → List Step
to_part key = each_item ∷ when is_dictionary ∷ under key ∷ []

abbrev pub to_value : ℕ → List Step
to_value p = each_item ∷ when is_dictionary ∷ under (codes "metricValues") ∷ item p ∷ []

-- a value of a master at the position of a used metric fails as the table says
abbrev pub FailsAsHeight : List Bool → List Row → Tree → ℕ → Failure → Type 0
FailsAsHeight used rows t n f =
    (p : ℕ)
    × (slice_get used p ≡ Some true)
    × (v : ℕ)
    × Reaches t (to_value p) n v
    × Fails rows t v f

-- the locations that count of a master fail as the table says
abbrev pub FailsAsLocations : List Row → Tree → ℕ → Failure → Type 0
FailsAsLocations rows t n f =
    (k : ℕ)
    × Reaches t (to_part (codes "customParameters")) n k
    × FailsAsParameter (codes "Axis Location") rows t k f

-- a local rule of the metrics fails at a place exactly where a row of that rule says so
abbrev pub MetricsAreTabled : Type 0
MetricsAreTabled = TellsByRule metrics_table metrics_failures

-- the same of the font's parameters
abbrev pub FontParametersAreTabled : Type 0
FontParametersAreTabled =
    (t : Tree) (n : ℕ) (rule : Rule) (place : ℕ)
    → IsOneOf (font_parameters_failures t n) (record { rule = rule; place = place })
    ↔ (Fails (rows_of rule parameters_table) t n (record { rule = rule; place = place })
    ⊎ FailsAsParameter (codes "Variable Font Origin") (rows_of rule text_table) t n
    (record { rule = rule; place = place }))

-- and of the masters, where these metrics are used
abbrev pub MastersAreTabled : Type 0
MastersAreTabled =
    (used : List Bool) (t : Tree) (n : ℕ) (rule : Rule) (place : ℕ)
    → IsOneOf (masters_failures used t n) (record { rule = rule; place = place })
    ↔ (Fails (rows_of rule masters_table) t n (record { rule = rule; place = place })
    ⊎ (FailsAsHeight used (rows_of rule value_table) t n (record { rule = rule; place = place })
    ⊎ FailsAsLocations (rows_of rule locations_table) t n
    (record { rule = rule; place = place })))

-- ---- some rules in words

-- at the end of this way from a value stands one that passes this test, at this place
abbrev pub IsBelow : Tree → List Step → ℕ → (Tree → ℕ → Bool) → ℕ → Type 0
IsBelow t way n test place =
    (m : ℕ) × Reaches t way n m × (test t m ≡ true) × (place ≡ place_at t m)

-- at the position of a used metric a master has such a height
abbrev pub IsAHeight : List Bool → Tree → ℕ → (Tree → ℕ → Bool) → ℕ → Type 0
IsAHeight used t n test place =
    (p : ℕ)
    × (slice_get used p ≡ Some true)
    × (v : ℕ)
    × Reaches t (to_value p) n v
    × IsBelow t (under (codes "pos") ∷ []) v test place

-- the locations that count of a master have such a coordinate
abbrev pub IsALocation : Tree → ℕ → (Tree → ℕ → Bool) → ℕ → Type 0
IsALocation t n test place =
    (k : ℕ)
    × Reaches t (to_part (codes "customParameters")) n k
    × (v : ℕ)
    × (parameter_at (codes "Axis Location") t k ≡ Some v)
    × IsBelow t (to_part (codes "Location")) v test place

abbrev pub lacks : List ℕ → Tree → ℕ → Bool
lacks key t n = not (has key t n)

-- a decimal beyond the range of coordinates
abbrev pub is_beyond : Tree → ℕ → Bool
is_beyond t n = option_map_or (λ d. not (is_axis_value d)) (decimal_at t n) false

-- a key is missing exactly where a master lacks its id
abbrev pub MissingIdsAreRefused : Type 0
MissingIdsAreRefused =
    (used : List Bool) (t : Tree) (n place : ℕ)
    → IsOneOf (masters_failures used t n) (record { rule = MissingKey; place = place })
    ↔ IsBelow t to_masters n (lacks (codes "id")) place

-- a number isn't whole exactly where `disabled` of a parameter, or the height of a used metric, has
-- a fraction
abbrev pub to_disabled : List Step
to_disabled = to_part (codes "customParameters") ++ to_part (codes "disabled")

abbrev pub FractionsOfMastersAreRefused : Type 0
FractionsOfMastersAreRefused =
    (used : List Bool) (t : Tree) (n place : ℕ)
    → IsOneOf (masters_failures used t n) (record { rule = NotWhole; place = place })
    ↔ (IsBelow t to_disabled n has_fraction place ⊎ IsAHeight used t n has_fraction place)

-- something is out of range exactly where a design coordinate is beyond -32767 to 32767, or a whole
-- height of a used metric beyond -16383 to 16383, or a user coordinate as a design coordinate
abbrev pub to_coordinates : List Step
to_coordinates = to_part (codes "axesValues") ++ (each_item ∷ [])

abbrev pub RangesOfMastersAreKept : Type 0
RangesOfMastersAreKept =
    (used : List Bool) (t : Tree) (n place : ℕ)
    → IsOneOf (masters_failures used t n) (record { rule = OutOfRange; place = place })
    ↔ (IsBelow t to_coordinates n is_beyond place
    ⊎ (IsAHeight used t n (is_outside Coordinate) place ⊎ IsALocation t n is_beyond place))
