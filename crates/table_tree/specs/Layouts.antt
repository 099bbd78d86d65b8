-- The bytes of a tree of offsets (OpenType 1.9, "Data types": an Offset16 or an Offset32 counts
-- from the first byte of the table that has it, and 0 is an offset to nothing). Which part stands
-- where is fontc's own. The near part of a node is its fields, and behind them the near parts of
-- the nodes that its offsets lead to, in the order of the fields; a node that is equal to an
-- earlier such node of the same parent stands once. Behind the near part of the whole tree stand
-- the layouts of the nodes that its far offsets lead to, in the order in which these offsets stand
-- there; such a node is never shared.
use Rattle.std.specs.Prelude.{ℕ, ◌+◌, ◌-◌, List, [], ◌∷◌, ◌++◌, length, map, nat_eq, nat_lt}
use Rattle.std.specs.Prelude.{if◌then◌else◌, Option, Some, None, is_some}
use Rattle.std.specs.List.{flat_map}
use Rattle.std.specs.Option.{unwrap_or}
use Rattle.std.specs.Map.{lookup}
use Rattle.std.specs.Cmp.Lexicographic.{pointwise}
use Rattle.table_bytes.specs.DataTypes.{uint16, uint32}
use Rattle.table_tree.specs.Trees.{Width, one, two, four, bytes_in, Tree, end, number, bytes, null}
use Rattle.table_tree.specs.Trees.{near, far, spelling}

-- the sum over a list
abbrev pub total_by : {X : Type 0} → (X → ℕ) → List X → ℕ
total_by f [] = 0
total_by f (x ∷ xs) = f x + total_by f xs

-- ---- the pieces of a layout

-- what is written in order: bytes, or an offset of a width
pub data Piece : Type 0 where
  written : List ℕ → Piece
  offset : Width → ℕ → Piece

-- a number of a width, the highest byte first
abbrev pub number_bytes : Width → ℕ → List ℕ
number_bytes one n = n ∷ []
number_bytes two n = uint16 n
number_bytes four n = uint32 n

abbrev pub piece_bytes : Piece → List ℕ
piece_bytes (written content) = content
piece_bytes (offset width value) = number_bytes width value

abbrev pub piece_length : Piece → ℕ
piece_length (written content) = length content
piece_length (offset width value) = bytes_in width

abbrev pub bytes_of : List Piece → List ℕ
bytes_of pieces = flat_map piece_bytes pieces

abbrev pub length_of : List Piece → ℕ
length_of pieces = total_by piece_length pieces

-- the greatest number of a width
abbrev pub greatest_of : Width → ℕ
greatest_of one = 255
greatest_of two = 65535
greatest_of four = 4294967295

-- the first offset that is greater than its width holds
abbrev pub first_above : List Piece → Option ℕ
first_above [] = None
first_above (written content ∷ pieces) = first_above pieces
first_above (offset width value ∷ pieces)
    = if nat_lt (greatest_of width) value then Some value else first_above pieces

-- ---- near parts

-- What a near part has in order: pieces, and far offsets. Of a far offset, where the node that has
-- it begins in the near part, and the layout of the node that it leads to.
pub data Cell : Type 0 where
  settled : Piece → Cell
  far_offset : ℕ → List Piece → Cell

abbrev pub cell_length : Cell → ℕ
cell_length (settled piece) = piece_length piece
cell_length (far_offset start layout) = bytes_in four

abbrev pub cells_length : List Cell → ℕ
cells_length cells = total_by cell_length cells

-- a cell of a near part that stands so many bytes behind the first byte of its parent's
abbrev pub moved : ℕ → Cell → Cell
moved place (settled piece) = settled piece
moved place (far_offset start layout) = far_offset (place + start) layout

-- a field of a node: its bytes; or the width of an offset, and the spelling and the near part of
-- the node that it leads to; or the layout of the node that a far offset leads to
pub data Item : Type 0 where
  plain_item : List ℕ → Item
  near_item : Width → List ℕ → List Cell → Item
  far_item : List Piece → Item

abbrev pub item_length : Item → ℕ
item_length (plain_item content) = length content
item_length (near_item width spelled cells) = bytes_in width
item_length (far_item layout) = bytes_in four

-- Where nodes stand, by their spellings, and where the next one will. A node stands where one with
-- its spelling does, and else it is the next.
abbrev pub Places : Type 0
Places = List (List ℕ × ℕ)

abbrev pub standing : Places → List ℕ → Option ℕ
standing places spelled = lookup (pointwise nat_eq spelled) places

abbrev pub place_of : Places → ℕ → List ℕ → ℕ
place_of places next spelled = unwrap_or (standing places spelled) next

abbrev pub places_with : Places → ℕ → List ℕ → Places
places_with places next spelled = if is_some (standing places spelled) then places else places
    ++ (spelled, next) ∷ []

abbrev pub next_after : Places → ℕ → List ℕ → List Cell → ℕ
next_after places next spelled cells = if is_some (standing places spelled) then next else next
    + cells_length cells

-- the fields' own cells
abbrev pub own_cells : Places → ℕ → List Item → List Cell
own_cells places next [] = []
own_cells places next (plain_item content ∷ items) = settled (written content)
    ∷ own_cells places next items
own_cells places next (near_item width spelled cells ∷ items) =
    settled (offset width (place_of places next spelled))
    ∷ own_cells (places_with places next spelled) (next_after places next spelled cells) items
own_cells places next (far_item layout ∷ items) = far_offset 0 layout ∷ own_cells places next items

-- the cells of the nodes that offsets lead to
abbrev pub cells_behind : Places → ℕ → List Item → List Cell
cells_behind places next [] = []
cells_behind places next (plain_item content ∷ items) = cells_behind places next items
cells_behind places next (near_item width spelled cells ∷ items) =
    (if is_some (standing places spelled) then [] else map (moved next) cells)
    ++ cells_behind (places_with places next spelled) (next_after places next spelled cells) items
cells_behind places next (far_item layout ∷ items) = cells_behind places next items

-- the first node stands behind the fields
abbrev pub near_cells : List Item → List Cell
near_cells items =
    let fields = total_by item_length items
    in own_cells [] fields items ++ cells_behind [] fields items

-- ---- far parts

-- the cells of a near part, where so many bytes stand before the next far part: a far offset counts
-- from its own node
abbrev pub settled_cells : ℕ → List Cell → List Piece
settled_cells next [] = []
settled_cells next (settled piece ∷ cells) = piece ∷ settled_cells next cells
settled_cells next (far_offset start layout ∷ cells) =
    offset four (next - start) ∷ settled_cells (next + length_of layout) cells

abbrev pub far_parts : List Cell → List Piece
far_parts [] = []
far_parts (settled piece ∷ cells) = far_parts cells
far_parts (far_offset start layout ∷ cells) = layout ++ far_parts cells

abbrev pub settled_all : List Cell → List Piece
settled_all cells = settled_cells (cells_length cells) cells ++ far_parts cells

-- ---- layouts

-- the fields of a node, with the parts of the nodes that they lead to
abbrev pub items_of : Tree → List Item
items_of end = []
items_of (number width n others) = plain_item (number_bytes width n) ∷ items_of others
items_of (bytes content others) = plain_item content ∷ items_of others
items_of (null width others) = plain_item (number_bytes width 0) ∷ items_of others
items_of (near width node others) = near_item width (spelling node) (near_cells (items_of node))
    ∷ items_of others
items_of (far node others) = far_item (settled_all (near_cells (items_of node))) ∷ items_of others

abbrev pub near_part : Tree → List Cell
near_part tree = near_cells (items_of tree)

unfoldable pub layout_of : Tree → List Piece
layout_of tree = settled_all (near_part tree)
