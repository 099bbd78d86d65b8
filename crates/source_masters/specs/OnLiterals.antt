-- What a proof by computation unfolds to compute the masters of a source that is written out. Only
-- such proofs need this module.
use Rattle.std.specs.Prelude.{⊤}
use Rattle.source_values.specs.OnLiterals.{values_on_literals}
use Rattle.source_axes.specs.AxisValues.{axis_value_failures, axis_coordinate, coordinates_under}
use Rattle.source_masters.specs.Parameters.{parameter_in, entry_failures, parameters_failures}
use Rattle.source_masters.specs.Metrics.{metric_failures, metric_numbers, is_used, height_failures}
use Rattle.source_masters.specs.Metrics.{value_failures, metric_values_failures, height_at}
use Rattle.source_masters.specs.Metrics.{height_in, height_of, heights_of, missing_heights}
use Rattle.source_masters.specs.MasterRules.{location_failures, master_parts_failures}
use Rattle.source_masters.specs.WholeRules.{master_numbers, too_many_masters, no_master, master_id}
use Rattle.source_masters.specs.WholeRules.{duplicate_masters, axis_count, axis_counts}
use Rattle.source_masters.specs.WholeRules.{master_named, origin_value, origin_of, unknown_origin}
use Rattle.source_masters.specs.MasterReading.{masters_place, design_of, location_in}
use Rattle.source_masters.specs.MasterReading.{location_entries, user_coordinate, default_heights}
use Rattle.source_masters.specs.MasterReading.{master_with, masters_of}

unfoldable pub masters_on_literals : ⊤
unfolding values_on_literals axis_value_failures axis_coordinate coordinates_under
    parameter_in entry_failures parameters_failures metric_failures metric_numbers is_used
    height_failures value_failures metric_values_failures height_at height_in height_of
    heights_of missing_heights
    location_failures master_parts_failures master_numbers too_many_masters no_master master_id
    duplicate_masters axis_count axis_counts master_named origin_value origin_of unknown_origin
    masters_place design_of location_in location_entries user_coordinate
    default_heights master_with masters_of
masters_on_literals = tt
