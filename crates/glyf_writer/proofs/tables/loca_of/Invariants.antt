use Rattle.std.proofs.Common.{◌≡◌, ◌+◌, ◌++◌, length, map, drop}
use Rattle.std.specs.List.{concat, flat_map}
use Rattle.table_bytes.specs.DataTypes.{uint32}
use Rattle.glyf_writer.specs.Tables.{offsets}
use Rattle.glyf_writer.proofs.tables.loca_of.Given as goal

abbrev pub invariant-loop-part : goal.invariant-loop-part
invariant-loop-part l =
    record {
      told : l.loca.items ++ flat_map uint32
          (map (λ offset. l.offset + offset) (offsets
          (map (λ part. part.value.items) (drop l.part-index l.parts))))
          ≡ flat_map uint32 (offsets (map (λ part. part.value.items) l.parts));
      counted : l.offset + length (concat (map (λ part. part.value.items)
          (drop l.part-index l.parts))) ≡ length (concat (map (λ part. part.value.items) l.parts));
    }
