use Rattle.std.proofs.Common.{◌≡◌, ◌+◌, ◌≤◌, min, length, map, drop}
use Rattle.std.specs.List.{concat}
use Rattle.gvar_writer.proofs.table.parts_length.Given as goal

abbrev pub invariant-loop-part : goal.invariant-loop-part
invariant-loop-part l =
    record {
      few : l.length ≤ 18446744073709551615;
      told : min (l.length + length (concat (map (λ part. part.value.items)
          (drop l.part-index l.parts)))) 18446744073709551615
          ≡ min (length (concat (map (λ part. part.value.items) l.parts))) 18446744073709551615;
    }
