use Rattle.layer_shapes.specs.LayerLaws.{components_have_bases}
use Rattle.layer_shapes.proofs.rule_laws.components_have_their_bases.Goals as goal

pub returns : goal.returns
returns c = components_have_bases
