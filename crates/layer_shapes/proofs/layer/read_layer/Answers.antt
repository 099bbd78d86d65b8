-- what is read is the layer's record, which is in its ranges
use Rattle.std.proofs.Common.{◌≡◌, sym, subst, arith, to_z, of_z}
use Rattle.std.proofs.lemmas.Grind.{common_steps}
use Rattle.std.specs.Int.{w32}
use Rattle.font_ir.specs.declared.glyph.LayerIr.{LayerIr}
use Rattle.layer_shapes.specs.LayerReading.{layer_record}
use Rattle.layer_shapes.specs.ReadLayers.{IsReadLayer}
use Rattle.layer_shapes.specs.LayerLaws.{layer_is_read}
use Rattle.layer_shapes.proofs.layer.read_layer.Goals as goal

pub returns-clause-ranges : goal.returns-clause-ranges
unfolding layer_record
returns-clause-ranges c =
    let t = c.args.tree.now in
    let read : LayerIr = record {
      width = to_z w32 (of_z w32 c.from.result);
      shapes = c.in_ok-shapes.shapes;
      anchors = c.in_ok-anchors.anchors;
    } in
    let is : read ≡ layer_record c.args.kind t c.args.layer = grind (arith, common_steps) in
    subst IsReadLayer (sym is) (layer_is_read c.args.kind t c.args.layer)
