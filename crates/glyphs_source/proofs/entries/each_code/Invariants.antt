-- the codes so far
use Rattle.std.proofs.Common.{◌≡◌, map, take}
use Rattle.glyphs_source.specs.IndexReading.{code_at}
use Rattle.glyphs_source.proofs.entries.each_code.Given as goal

abbrev pub invariant-loop-item : goal.invariant-loop-item
invariant-loop-item l = l.list.items ≡ map (code_at l.tree) (take l.item-index l.items)
