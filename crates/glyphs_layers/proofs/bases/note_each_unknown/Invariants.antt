-- what is noted, with what the components that are left fail, is what all fail
use Rattle.std.proofs.Common.{◌≡◌, drop}
use Rattle.std.specs.Prelude.{flat_map}
use Rattle.std.specs.List.{filter}
use Rattle.refusal_codes.specs.First.{noted}
use Rattle.layer_shapes.specs.LayerRules.{is_component_at}
use Rattle.glyphs_layers.specs.Bases.{without_base}
use Rattle.glyphs_layers.proofs.bases.note_each_unknown.Given as goal

abbrev pub invariant-loop-shape : goal.invariant-loop-shape
invariant-loop-shape l =
    noted l.first (flat_map (without_base l.tree l.index)
    (filter (is_component_at l.tree) (drop l.shape-index l.shapes)))
    ≡ noted l.initial.first (flat_map (without_base l.tree l.index)
    (filter (is_component_at l.tree) l.shapes))
