-- each exported glyph has its number, and a made `.notdef` has none
use Rattle.std.proofs.Common.{sym, ap, ◌∙◌, ◌+◌, length}
use Rattle.font_plan.proofs.Orders.{given_count, made_count}
use Rattle.font_plan.proofs.order.glyph_count.Goals as goal

pub returns-in-Some : goal.returns-in-Some
returns-in-Some c = ap length c.requires.numbers
    ∙ given_count c.args.index.now _ (sym c.in-Some.is ∙ c.notdef_number.ensures.number)

pub returns-in-None : goal.returns-in-None
returns-in-None c = ap (λ n. n + 1) (ap length c.requires.numbers)
    ∙ made_count c.args.index.now (sym c.in-None.is ∙ c.notdef_number.ensures.number)
