-- the order so far, and what is left behind it, are the whole
use Rattle.std.proofs.Common.{◌≡◌, ◌++◌, Some, map, drop}
use Rattle.font_plan.specs.Order.{others_from}
use Rattle.font_plan.proofs.order.push_others.Given as goal

abbrev pub invariant-loop-number : goal.invariant-loop-number
invariant-loop-number l =
    (l.order.numbers ++ map (λ glyph. Some glyph.0) (others_from l.number (drop l.number l.index))
    ≡ l.initial.order.numbers ++ map (λ glyph. Some glyph.0) (others_from 0 l.index))
    × (l.order.names ++ map (λ glyph. glyph.1.0) (others_from l.number (drop l.number l.index))
    ≡ l.initial.order.names ++ map (λ glyph. glyph.1.0) (others_from 0 l.index))
