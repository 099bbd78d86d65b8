-- the numbers so far, and what is left behind them, are the whole
use Rattle.std.proofs.Common.{◌≡◌, ◌++◌, map, drop}
use Rattle.font_plan.specs.Order.{others_from}
use Rattle.font_plan.proofs.order.push_numbers.Given as goal

abbrev pub invariant-loop-number : goal.invariant-loop-number
invariant-loop-number l = l.numbers.items
    ++ map (λ glyph. glyph.0) (others_from l.number (drop l.number l.index))
    ≡ l.initial.numbers.items ++ map (λ glyph. glyph.0) (others_from 0 l.index)
