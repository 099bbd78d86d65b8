use Rattle.component_flatten.proofs.SourceLaws.{depths_draw_alike}
use Rattle.component_flatten.proofs.laws.depths_draw_alike.Goals as goal

pub returns : goal.returns
returns c = depths_draw_alike
