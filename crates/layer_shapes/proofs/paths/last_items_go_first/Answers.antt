use Rattle.layer_shapes.proofs.LastFirst.{last_first-end}
use Rattle.layer_shapes.proofs.paths.last_items_go_first.Goals as goal

pub returns : goal.returns
returns c = last_first-end
