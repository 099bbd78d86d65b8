-- `any` answers whether one of the numbers isn't zero
use Rattle.std.proofs.Common.{rules, tests}
use Rattle.std.proofs.lemmas.Iterator.{YieldsList-from_slice}
use Rattle.std.proofs.lemmas.Iterator.Search.{any_from_yields_List}
use Rattle.layer_shapes.specs.LayerRules.{is_not_zero}
use Rattle.layer_shapes.proofs.components.is_any_not_zero.Goals as goal

pub returns : goal.returns
returns c =
    any_from_yields_List (is_not_zero c.args.tree.now) _ _ _ c.any.ensures.ran
    (YieldsList-from_slice c.args.numbers.now cc) (λ x b q k. search (rules, tests))
