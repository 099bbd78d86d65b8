-- The first offset that is above its width, in a list of pieces.
use Rattle.std.proofs.Common.{◌≡◌, ℕ, Bool, true, false, List, [], ◌∷◌, nat_lt, Some, None, length}
use Rattle.std.proofs.Common.{refl, length-append, arith}
use Rattle.std.specs.Prelude.{if◌then◌else◌}
use Rattle.table_tree.specs.declared.errors.LayoutError.{LayoutError}
use Rattle.table_tree.specs.declared.errors.LayoutError.TheVariants.{Offset, NoMemory}
use Rattle.table_tree.specs.Layouts.{Piece, written, offset, greatest_of, first_above, bytes_of}
use Rattle.table_tree.specs.Layouts.{length_of}
use Rattle.table_tree.specs.Trees.{one, two, four}
use Rattle.table_bytes.specs.DataTypes.{uint16, uint32}
use Rattle.table_tree.specs.Views.{RefusesLayout}

pub above_more : (piece : Piece) (pieces : List Piece) → first_above (piece ∷ []) ≡ None
    → first_above (piece ∷ pieces) ≡ first_above pieces
above_more (written content) pieces none = refl
above_more (offset width value) pieces none = by (nat_lt (greatest_of width) value) none
  where
    by : (above : Bool) → (if above then Some value else None) ≡ None
        → (if above then Some value else first_above pieces) ≡ first_above pieces
    by true e = absurd (cc e)
    by false e = refl

above_first : (piece : Piece) (pieces : List Piece) (n : ℕ) → first_above (piece ∷ []) ≡ Some n
    → first_above (piece ∷ pieces) ≡ Some n
above_first (written content) pieces n some = absurd (cc some)
above_first (offset width value) pieces n some = by (nat_lt (greatest_of width) value) some
  where
    by : (above : Bool) → (if above then Some value else None) ≡ Some n
        → (if above then Some value else first_above pieces) ≡ Some n
    by true e = e
    by false e = absurd (cc e)

pub refuses_more : (e : LayoutError) (piece : Piece) (pieces : List Piece)
    → RefusesLayout e (first_above (piece ∷ [])) → RefusesLayout e (first_above (piece ∷ pieces))
refuses_more (Offset n) piece pieces refused = above_first piece pieces n refused
refuses_more NoMemory piece pieces refused = tt

-- pieces have as many bytes as their lengths say
pub length_bytes : (pieces : List Piece) → length_of pieces ≡ length (bytes_of pieces)
length_bytes [] = refl
length_bytes (written content ∷ pieces) = omega
    (arith, length-append content (bytes_of pieces), length_bytes pieces)
length_bytes (offset one value ∷ pieces) = omega (arith, length_bytes pieces)
length_bytes (offset two value ∷ pieces)
    = omega (arith, length-append (uint16 value) (bytes_of pieces), length_bytes pieces)
length_bytes (offset four value ∷ pieces)
    = omega (arith, length-append (uint32 value) (bytes_of pieces), length_bytes pieces)
