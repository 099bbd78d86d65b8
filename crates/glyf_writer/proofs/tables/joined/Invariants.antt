use Rattle.std.proofs.Common.{◌≡◌, ◌++◌, map, drop}
use Rattle.std.specs.List.{concat}
use Rattle.glyf_writer.proofs.tables.joined.Given as goal

abbrev pub invariant-loop-part : goal.invariant-loop-part
invariant-loop-part l =
    l.glyf.items ++ concat (map (λ part. part.value.items) (drop l.part-index l.parts))
    ≡ concat (map (λ part. part.value.items) l.parts)
