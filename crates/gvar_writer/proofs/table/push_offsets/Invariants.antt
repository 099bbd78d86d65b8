use Rattle.std.proofs.Common.{◌≡◌, ◌+◌, ◌++◌, length, map, drop}
use Rattle.std.specs.List.{concat, flat_map}
use Rattle.table_bytes.specs.DataTypes.{uint32}
use Rattle.gvar_writer.specs.Gvar.{offsets_from, offsets_bytes}
use Rattle.gvar_writer.proofs.table.push_offsets.Given as goal

abbrev pub invariant-loop-part : goal.invariant-loop-part
invariant-loop-part l =
    record {
      counted : l.offset + length (concat (map (λ part. part.value.items)
          (drop l.part-index l.parts))) ≡ length (concat (map (λ part. part.value.items) l.parts));
      told : l.table.items ++ flat_map uint32 (offsets_from l.offset
          (map (λ part. part.value.items) (drop l.part-index l.parts)))
          ≡ l.fn.table.items ++ offsets_bytes (map (λ part. part.value.items) l.parts);
    }
