use Rattle.std.proofs.Common.{◌≡◌, ◌+◌, drop}
use Rattle.table_tree.specs.Layouts.{cells_length}
use Rattle.table_tree.specs.Views.{cells_of}
use Rattle.table_tree.proofs.cells.cells_length.Given as goal

abbrev pub invariant-loop-cell : goal.invariant-loop-cell
invariant-loop-cell l = l.length + cells_length (cells_of (drop l.cell-index l.cells))
    ≡ cells_length (cells_of l.cells)
