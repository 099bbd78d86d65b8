use Rattle.std.proofs.Common.{◌≡◌, map, take}
use Rattle.font_ir.proofs.notdef.widths_of.Given as goal

abbrev pub invariant-loop-master : goal.invariant-loop-master
invariant-loop-master l = l.widths.items ≡ map (λ master. l.width) (take l._master-index l.masters)
