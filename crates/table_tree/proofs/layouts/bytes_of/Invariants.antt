use Rattle.std.proofs.Common.{◌≡◌, ◌++◌, drop}
use Rattle.table_tree.specs.Layouts.{bytes_of, first_above}
use Rattle.table_tree.specs.Views.{pieces_of}
use Rattle.table_tree.proofs.layouts.bytes_of.Given as goal

abbrev pub invariant-loop-piece : goal.invariant-loop-piece
invariant-loop-piece l = record {
  bytes : l.bytes.items ++ bytes_of (pieces_of (drop l.piece-index l.pieces))
      ≡ bytes_of (pieces_of l.pieces);
  above : first_above (pieces_of (drop l.piece-index l.pieces)) ≡ first_above (pieces_of l.pieces);
}
