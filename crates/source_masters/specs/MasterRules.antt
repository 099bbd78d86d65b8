-- The local rules that the masters of a source may fail (Glyphs file format, version 3,
-- `fontMaster`). A master's name is never read. The ranges are fontc's own.
use Rattle.std.specs.Prelude.{ℕ, Bool, List, ◌++◌, codes}
use Rattle.plist_reader.specs.declared.tree.Tree.{Tree}
use Rattle.refusal_codes.specs.declared.first.Failure.{Failure}
use Rattle.source_values.specs.Asking.{text_failures, each, dictionary, required, optional}
use Rattle.source_axes.specs.AxisValues.{axis_value_failures}
use Rattle.source_masters.specs.Metrics.{metric_values_failures}
use Rattle.source_masters.specs.Parameters.{parameters_failures}

-- where a master lies on the user's scale: an axis and a coordinate
unfoldable pub location_failures : Tree → ℕ → List Failure
location_failures t n =
    optional (codes "Axis") text_failures t n
    ++ optional (codes "Location") axis_value_failures t n

-- the parameters of a master: its locations
abbrev pub locations_failures : Tree → ℕ → List Failure
locations_failures = each (dictionary location_failures)

abbrev pub master_parameters_failures : Tree → ℕ → List Failure
master_parameters_failures = parameters_failures (codes "Axis Location") locations_failures

-- what the dictionary of a master holds, where these metrics are used
unfoldable pub master_parts_failures : List Bool → Tree → ℕ → List Failure
master_parts_failures used t m =
    required (codes "id") text_failures t m
    ++ optional (codes "axesValues") (each axis_value_failures) t m
    ++ optional (codes "metricValues") (metric_values_failures used) t m
    ++ optional (codes "customParameters") master_parameters_failures t m

-- the list of masters
abbrev pub masters_failures : List Bool → Tree → ℕ → List Failure
masters_failures used = each (dictionary (master_parts_failures used))
