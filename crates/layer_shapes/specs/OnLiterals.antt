-- What a proof by computation unfolds to compute a layer of a source that is written out. Only such
-- proofs need this module.
use Rattle.std.specs.Prelude.{⊤}
use Rattle.source_values.specs.OnLiterals.{values_on_literals}
use Rattle.layer_shapes.specs.Placing.{nearest_raw}
use Rattle.layer_shapes.specs.LayerRules.{type_failures, node_parts_failures, node_failures}
use Rattle.layer_shapes.specs.LayerRules.{nodes_failures, closed_failures, decimal_failures}
use Rattle.layer_shapes.specs.LayerRules.{bounded_failures, offset_failures, scale_failures}
use Rattle.layer_shapes.specs.LayerRules.{slant_failures, transform_failures, component_failures}
use Rattle.layer_shapes.specs.LayerRules.{other_shape_failures, shape_parts_failures}
use Rattle.layer_shapes.specs.LayerRules.{shape_failures, shapes_failures, component_numbers}
use Rattle.layer_shapes.specs.LayerRules.{anchor_parts_failures, anchor_failures, anchors_failures}
use Rattle.layer_shapes.specs.LayerRules.{layer_failures}
use Rattle.layer_shapes.specs.LayerReading.{units_of, coordinate_of, point_of, contour_of}
use Rattle.layer_shapes.specs.LayerReading.{bounded_of, bounded_pair, component_of, shapes_of}
use Rattle.layer_shapes.specs.LayerReading.{position_at, anchor_of, anchors_of, layer_record}

unfoldable pub layers_on_literals : ⊤
unfolding values_on_literals nearest_raw type_failures node_parts_failures node_failures
    nodes_failures closed_failures decimal_failures bounded_failures offset_failures scale_failures
    slant_failures transform_failures component_failures other_shape_failures shape_parts_failures
    shape_failures shapes_failures component_numbers anchor_parts_failures anchor_failures
    anchors_failures layer_failures units_of coordinate_of point_of contour_of bounded_of
    bounded_pair component_of shapes_of position_at anchor_of anchors_of layer_record
layers_on_literals = tt
