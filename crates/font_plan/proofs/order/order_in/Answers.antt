-- the names differ, since those of the index do
use Rattle.std.proofs.Common.{ℕ, List, [], ◌∷◌, ◌++◌, map, nat_eq, ap, sym, ◌∙◌, subst}
use Rattle.std.specs.Prelude.{codes}
use Rattle.std.specs.List.{IsDistinct}
use Rattle.std.specs.Cmp.Lexicographic.{pointwise}
use Rattle.font_plan.specs.Order.{others_from}
use Rattle.font_plan.proofs.Names.{names_differ}
use Rattle.font_plan.proofs.order.order_in.Goals as goal

pub push_others-requires-clause-different : goal.push_others-requires-clause-different
push_others-requires-clause-different c =
    subst (λ (names : List (List ℕ)). IsDistinct (pointwise nat_eq)
    (names ++ map (λ glyph. glyph.1.0) (others_from 0 c.args.index.now)))
    (sym (c.in_ok-push_glyph.ensures.names
    ∙ ap (λ (names : List (List ℕ)). names ++ codes ".notdef" ∷ []) c.new-order.ensures.names))
    (names_differ c.args.index.now c.len-count.ensures.different)
