use Rattle.std.proofs.Common.{◌≡◌, ◌++◌, map, take}
use Rattle.std.specs.List.{flat_map}
use Rattle.table_bytes.specs.DataTypes.{uint16}
use Rattle.cmap_writer.proofs.segments.push_id_deltas.Given as goal

abbrev pub invariant-loop-segment : goal.invariant-loop-segment
invariant-loop-segment l = l.table.items
    ≡ l.fn.table.items ++ flat_map uint16 (map (λ segment. segment.id_delta)
    (take l.segment-index l.segments))
