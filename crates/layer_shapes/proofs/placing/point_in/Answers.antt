-- `position` answers where the first point stands
use Rattle.std.proofs.Common.{rules, tests, ◌==◌}
use Rattle.std.proofs.lemmas.Iterator.{YieldsList-from_slice}
use Rattle.std.proofs.lemmas.Iterator.Search.{position_from_yields_List}
use Rattle.layer_shapes.proofs.placing.point_in.Goals as goal

pub returns-clause-first : goal.returns-clause-first
returns-clause-first c =
    position_from_yields_List (λ byte. byte == 46) _ _ _ c.position.ensures.ran
    (YieldsList-from_slice c.args.text.now cc) (λ x b q k. search (rules, tests))
