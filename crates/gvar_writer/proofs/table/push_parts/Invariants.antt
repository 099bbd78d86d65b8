use Rattle.std.proofs.Common.{◌≡◌, ◌++◌, map, drop}
use Rattle.std.specs.List.{concat}
use Rattle.gvar_writer.proofs.table.push_parts.Given as goal

abbrev pub invariant-loop-part : goal.invariant-loop-part
invariant-loop-part l =
    l.table.items ++ concat (map (λ part. part.value.items) (drop l.part-index l.parts))
    ≡ l.fn.table.items ++ concat (map (λ part. part.value.items) l.parts)
