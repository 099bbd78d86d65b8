-- That offsets lead to what they should, counted from the first byte of the node that has them: a
-- near offset to the near part of its node, cell by cell, and a far offset to the layout of its
-- node, piece by piece.
use Rattle.std.specs.Prelude.{◌≡◌, ℕ, List, [], ◌∷◌, ◌+◌, ◌++◌, map, drop, slice_get, Some}
use Rattle.table_tree.specs.Trees.{Tree, Width, four, end, number, bytes, null, near, far}
use Rattle.table_tree.specs.Layouts.{Piece, offset, length_of, Cell, settled, far_offset, moved}
use Rattle.table_tree.specs.Layouts.{cells_length, near_part, layout_of}

-- so many bytes behind the first of these cells stand the cells of a near part
pub record HasAt (cells : List Cell) (place : ℕ) (part : List Cell) : Type 0 where
  pub front : List Cell
  pub back : List Cell
  pub is : cells ≡ front ++ (map (moved place) part ++ back)
  pub at : cells_length front ≡ place

-- the first of these cells is an offset of this width, and leads to this node's near part
pub record IsOffsetTo (whole cells : List Cell) (width : Width) (node : Tree) : Type 0 where
  pub value : ℕ
  pub first : slice_get cells 0 ≡ Some (settled (offset width value))
  pub leads : HasAt whole value (near_part node)

-- the cells begin with one for each field, and those of near offsets lead to their nodes
abbrev pub FieldsLead : List Cell → List Cell → Tree → Type 0
FieldsLead whole cells end = Unit {0}
FieldsLead whole cells (number width n others) = FieldsLead whole (drop 1 cells) others
FieldsLead whole cells (bytes content others) = FieldsLead whole (drop 1 cells) others
FieldsLead whole cells (null width others) = FieldsLead whole (drop 1 cells) others
FieldsLead whole cells (near width node others) = IsOffsetTo whole cells width node
    × FieldsLead whole (drop 1 cells) others
FieldsLead whole cells (far node others) = FieldsLead whole (drop 1 cells) others

abbrev pub NearOffsetsLead : Tree → Type 0
NearOffsetsLead tree = FieldsLead (near_part tree) (near_part tree) tree

-- The first of these pieces is an offset of 32 bits. From the first byte of its node, so many bytes
-- behind the first of all, it leads to these pieces.
pub record IsFarOffsetTo (whole pieces : List Piece) (start : ℕ) (layout : List Piece)
    : Type 0 where
  pub value : ℕ
  pub first : slice_get pieces 0 ≡ Some (offset four value)
  pub front : List Piece
  pub back : List Piece
  pub is : whole ≡ front ++ (layout ++ back)
  pub at : length_of front ≡ start + value

-- the pieces begin with one for each cell of a near part: the pieces of the cells, and far offsets
-- that lead to their layouts
abbrev pub CellsLead : List Piece → List Piece → List Cell → Type 0
CellsLead whole pieces [] = Unit {0}
CellsLead whole pieces (settled piece ∷ cells) = (slice_get pieces 0 ≡ Some piece)
    × CellsLead whole (drop 1 pieces) cells
CellsLead whole pieces (far_offset start layout ∷ cells) = IsFarOffsetTo whole pieces start layout
    × CellsLead whole (drop 1 pieces) cells

abbrev pub FarOffsetsLead : Tree → Type 0
FarOffsetsLead tree = CellsLead (layout_of tree) (layout_of tree) (near_part tree)
