use Rattle.std.proofs.Common.{◌≡◌, ◌++◌, map}
use Rattle.table_tree.specs.Layouts.{moved}
use Rattle.table_tree.specs.Views.{cells_of}
use Rattle.table_tree.proofs.near.Behind.put.Given as goal

abbrev pub invariant-loop-cell : goal.invariant-loop-cell
invariant-loop-cell l = record {
  cells : cells_of l.self.cells.items ≡ cells_of l.initial.self.cells.items
      ++ map (moved l.place) (cells_of l.yielded);
  places : l.self.places ≡ l.initial.self.places;
  next : l.self.next ≡ l.initial.self.next;
}
