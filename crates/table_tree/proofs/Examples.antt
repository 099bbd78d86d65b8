-- Layouts worked by hand.
use Rattle.std.proofs.Common.{◌≡◌, ℕ, [], ◌∷◌, Some, refl}
use Rattle.table_tree.specs.Trees.{Tree, one, two, four, end, number, bytes, null, near, far}
use Rattle.table_tree.specs.Layouts.{layout_of, bytes_of, first_above, offset}

abbrev byte : ℕ → Tree
byte n = number one n end

-- two equal nodes under offsets of two widths stand once; a far one stands behind; offsets to
-- nothing are zero
abbrev shared : Tree
shared = number two 1 (near two (byte 7)
    (near four (byte 7) (far (byte 9) (null two (null four end)))))

shared_bytes : bytes_of (layout_of shared)
    ≡ 0 ∷ 1 ∷ 0 ∷ 18 ∷ 0 ∷ 0 ∷ 0 ∷ 18 ∷ 0 ∷ 0 ∷ 0 ∷ 19 ∷ 0 ∷ 0 ∷ 0 ∷ 0 ∷ 0 ∷ 0 ∷ 7 ∷ 9 ∷ []
unfolding layout_of
shared_bytes = refl

-- a far offset counts from its own node, and stands in the near part: that of the parent comes
-- first
abbrev nested : Tree
nested = near two (far (byte 2) end) (far (bytes (1 ∷ 1 ∷ []) end) end)

nested_bytes : bytes_of (layout_of nested) ≡ 0 ∷ 6 ∷ 0 ∷ 0 ∷ 0 ∷ 10 ∷ 0 ∷ 0 ∷ 0 ∷ 6 ∷ 1 ∷ 1 ∷ 2 ∷ []
unfolding layout_of
nested_bytes = refl

-- far nodes are never shared, nor are nodes of two parents
abbrev apart : Tree
apart = far (byte 3) (far (byte 3) (near two (near two (byte 4) end)
    (near two (near two (byte 4) (byte 5)) end)))

apart_bytes : bytes_of (layout_of apart)
    ≡ 0 ∷ 0 ∷ 0 ∷ 19 ∷ 0 ∷ 0 ∷ 0 ∷ 20 ∷ 0 ∷ 12 ∷ 0 ∷ 15 ∷ 0 ∷ 2 ∷ 4 ∷ 0 ∷ 3 ∷ 5 ∷ 4 ∷ 3 ∷ 3 ∷ []
unfolding layout_of
apart_bytes = refl

-- the variation store of a font with one axis and one region, with the rows 0 and 20 (OpenType 1.9,
-- "Item variation store")
abbrev store : Tree
store =
    number two 1 (near four (number two 1 (number two 1
    (number two 0 (number two 16384 (number two 16384 end)))))
    (number two 1 (near four (number two 2
    (number two 1 (number two 1 (number two 0 (number two 0 (number two 20 end)))))) end)))

store_bytes : bytes_of (layout_of store) ≡
    0 ∷ 1 ∷ 0 ∷ 0 ∷ 0 ∷ 12 ∷ 0 ∷ 1 ∷ 0 ∷ 0 ∷ 0 ∷ 22 ∷ 0 ∷ 1 ∷ 0 ∷ 1 ∷ 0 ∷ 0 ∷ 64 ∷ 0 ∷ 64 ∷ 0
    ∷ 0 ∷ 2 ∷ 0 ∷ 1 ∷ 0 ∷ 1 ∷ 0 ∷ 0 ∷ 0 ∷ 0 ∷ 0 ∷ 20 ∷ []
unfolding layout_of
store_bytes = refl

-- of two offsets that are too large, the one that stands first counts
too_large : first_above (offset two 65535 ∷ offset two 65536 ∷ offset two 70000 ∷ offset four 70000
    ∷ []) ≡ Some 65536
too_large = refl
