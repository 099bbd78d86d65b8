use Rattle.std.proofs.Common.{◌≡◌, [], map, take}
use Rattle.font_ir.proofs.notdef.empty_outlines_of.Given as goal

abbrev pub invariant-loop-master : goal.invariant-loop-master
invariant-loop-master l = l.drawn.items ≡ map (λ master. []) (take l._master-index l.masters)
