-- What a proof by computation unfolds to compute the axes and instances of a source that is written
-- out. Only such proofs need this module.
use Rattle.std.specs.Prelude.{⊤}
use Rattle.source_values.specs.OnLiterals.{values_on_literals}
use Rattle.source_axes.specs.AxisValues.{axis_value_failures, axis_coordinate, coordinates_under}
use Rattle.source_axes.specs.AxisReading.{tag_failures, axis_parts_failures, axes_failures, axis_of}
use Rattle.source_axes.specs.AxisReading.{axis_numbers, axes_of, too_many_axes}
use Rattle.source_axes.specs.InstanceReading.{instance_parts_failures, is_kept, kept_limit_failures}
use Rattle.source_axes.specs.InstanceReading.{instances_failures, instance_of, kept_instances}
use Rattle.source_axes.specs.InstanceReading.{instances_of, instance_count_failures}

unfoldable pub axes_on_literals : ⊤
unfolding values_on_literals axis_value_failures axis_coordinate coordinates_under tag_failures
    axis_parts_failures axes_failures axis_of axis_numbers axes_of too_many_axes
    instance_parts_failures is_kept kept_limit_failures instances_failures instance_of
    kept_instances instances_of instance_count_failures
axes_on_literals = tt
