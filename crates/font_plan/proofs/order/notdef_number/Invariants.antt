-- the glyph is to be found in what is left
use Rattle.std.proofs.Common.{◌≡◌, drop}
use Rattle.font_plan.specs.Order.{notdef_from}
use Rattle.font_plan.proofs.order.notdef_number.Given as goal

abbrev pub invariant-loop-number : goal.invariant-loop-number
invariant-loop-number l = notdef_from l.number (drop l.number l.index) ≡ notdef_from 0 l.index
