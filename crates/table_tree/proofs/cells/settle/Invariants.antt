use Rattle.std.proofs.Common.{◌≡◌, ◌++◌, drop}
use Rattle.table_tree.specs.Layouts.{cells_length, settled_cells, far_parts}
use Rattle.table_tree.specs.Views.{pieces_of, cells_of}
use Rattle.table_tree.proofs.cells.settle.Given as goal

abbrev pub invariant-loop-cell : goal.invariant-loop-cell
invariant-loop-cell l = record {
  near : pieces_of l.pieces.items ++ settled_cells l.next (cells_of (drop l.cell-index l.cells))
      ≡ settled_cells (cells_length (cells_of l.cells)) (cells_of l.cells);
  far : pieces_of l.parts.items ++ far_parts (cells_of (drop l.cell-index l.cells))
      ≡ far_parts (cells_of l.cells);
}
