use Rattle.std.proofs.Common.{◌≡◌, ◌+◌, ◌≤◌, min, length, map, drop}
use Rattle.std.specs.List.{concat}
use Rattle.glyf_writer.proofs.tables.total_length.Given as goal

abbrev pub invariant-loop-part : goal.invariant-loop-part
invariant-loop-part l =
    record {
      few : l.total ≤ 18446744073709551615;
      told : min (l.total + length (concat (map (λ part. part.value.items)
          (drop l.part-index l.parts)))) 18446744073709551615
          ≡ min (length (concat (map (λ part. part.value.items) l.parts))) 18446744073709551615;
    }
