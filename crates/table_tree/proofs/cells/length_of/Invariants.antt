use Rattle.std.proofs.Common.{◌≡◌, ◌+◌, drop}
use Rattle.table_tree.specs.Layouts.{length_of}
use Rattle.table_tree.specs.Views.{pieces_of}
use Rattle.table_tree.proofs.cells.length_of.Given as goal

abbrev pub invariant-loop-piece : goal.invariant-loop-piece
invariant-loop-piece l = l.length + length_of (pieces_of (drop l.piece-index l.pieces))
    ≡ length_of (pieces_of l.pieces)
