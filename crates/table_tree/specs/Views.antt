-- What is built while a tree is laid out, seen as the pieces and cells of its layout, and what
-- laying out answered.
use Rattle.std.specs.Prelude.{◌≡◌, ℕ, List, [], ◌∷◌, map, Option, Some, None, Result, Ok, Err}
use Rattle.std.specs.declared.alloc.Global.{Global}
use Rattle.std.specs.Prelude.{Vec}
use Rattle.table_tree.specs.Trees.{two, four}
use Rattle.table_tree.specs.declared.cells.Piece.{Piece}
use Rattle.table_tree.specs.declared.cells.Piece.TheVariants.{U8, U16, U32, Bytes, Off16, Off32}
use Rattle.table_tree.specs.declared.cells.Cell.{Cell}
use Rattle.table_tree.specs.declared.cells.Cell.TheVariants.{Settled, Far}
use Rattle.table_tree.specs.declared.errors.LayoutError.{LayoutError}
use Rattle.table_tree.specs.declared.errors.LayoutError.TheVariants as layout_errors
use Rattle.table_tree.specs.Layouts as layouts

abbrev pub piece_of : Piece → layouts.Piece
piece_of (U8 n) = layouts.written (n ∷ [])
piece_of (U16 n) = layouts.written (layouts.number_bytes two n)
piece_of (U32 n) = layouts.written (layouts.number_bytes four n)
piece_of (Bytes content) = layouts.written content.now
piece_of (Off16 value) = layouts.offset two value
piece_of (Off32 value) = layouts.offset four value

abbrev pub pieces_of : List Piece → List layouts.Piece
pieces_of pieces = map piece_of pieces

abbrev pub cell_of : Cell → layouts.Cell
cell_of (Settled piece) = layouts.settled (piece_of piece)
cell_of (Far start layout) = layouts.far_offset start (pieces_of layout.items)

abbrev pub cells_of : List Cell → List layouts.Cell
cells_of cells = map cell_of cells

-- The first offset that is above its width is the error, if there is one; else the bytes are the
-- answer. Memory may run out.
abbrev pub RefusesLayout : LayoutError → Option ℕ → Type 0
RefusesLayout (layout_errors.Offset n) above = above ≡ Some n
RefusesLayout layout_errors.NoMemory above = Unit {0}

abbrev pub LaysOut : Result (Vec ℕ Global) LayoutError → List layouts.Piece → Type 0
LaysOut (Ok bytes) pieces = (bytes.items ≡ layouts.bytes_of pieces)
    × (layouts.first_above pieces ≡ None)
LaysOut (Err e) pieces = RefusesLayout e (layouts.first_above pieces)
