use Rattle.std.proofs.Common.{◌≡◌, map, take}
use Rattle.gvar_writer.specs.TupleData.{column}
use Rattle.gvar_writer.proofs.rows.column.Given as goal

abbrev pub invariant-loop-row : goal.invariant-loop-row
invariant-loop-row l =
    l.column.items ≡ column l.region (map (λ row. row.items) (take l.row-index l.rows))
