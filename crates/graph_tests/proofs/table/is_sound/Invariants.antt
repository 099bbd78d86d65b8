-- what holds of the rows that are left holds of all
use Rattle.std.proofs.Common.{◌≡◌, drop}
use Rattle.std.specs.List.{list_all}
use Rattle.graph_tests.specs.Tables.{is_sound_row}
use Rattle.graph_tests.proofs.table.is_sound.Given as goal

abbrev pub invariant-loop-row : goal.invariant-loop-row
invariant-loop-row l = list_all (is_sound_row l.rows) (drop l.row-index l.rows)
    ≡ list_all (is_sound_row l.rows) l.rows
