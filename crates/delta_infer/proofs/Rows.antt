-- Worked examples, computed.
use Rattle.std.proofs.Common.{◌≡◌, ℤ, pos, negsuc, true, false, List, [], ◌∷◌, refl}
use Rattle.delta_infer.specs.Inferred.{inferred_between}
use Rattle.delta_infer.specs.Omitted.{omitted}

abbrev at : ℤ → ℤ → ℤ × ℤ
at x y = (x, y)

-- a rectangle that grows to the right and to the top: its first point and the one across are left
-- out
pub rectangle_row : omitted ((at (pos 266) (pos 223) ∷ at (pos 266) (pos 140)
    ∷ at (pos 666) (pos 140) ∷ at (pos 666) (pos 223) ∷ []) ∷ [])
    (at (pos 0) (pos 17) ∷ at (pos 0) (pos 0) ∷ at (pos 4) (pos 0) ∷ at (pos 4) (pos 17) ∷ [])
    ≡ true ∷ false ∷ true ∷ false ∷ []
rectangle_row = refl

-- a contour that doesn't move is left out whole, whatever the others do
pub still_row : omitted ((at (pos 0) (pos 0) ∷ at (pos 500) (pos 0) ∷ at (pos 250) (pos 700) ∷ [])
    ∷ (at (pos 5) (pos 5) ∷ []) ∷ []) (at (pos 0) (pos 0) ∷ at (pos 0) (pos 0) ∷ at (pos 0) (pos 0)
    ∷ at (pos 3) (pos 0) ∷ []) ≡ true ∷ true ∷ true ∷ false ∷ []
still_row = refl

-- a triangle of which one point moves: nothing stays between the other two
pub moved_point_row : omitted ((at (pos 0) (pos 0) ∷ at (pos 500) (pos 0) ∷ at (pos 250) (pos 700)
    ∷ []) ∷ []) (at (pos 0) (pos 0) ∷ at (pos 0) (pos 0) ∷ at (pos 0) (pos 20) ∷ [])
    ≡ true ∷ false ∷ false ∷ []
moved_point_row = refl

-- the mean of 0 and 1 at the middle is one half, and a delta of 0 or of 1 isn't that
pub half_row : inferred_between (record { at = pos 0; delta = pos 0 })
    (record { at = pos 10; delta = pos 1 }) (pos 5) ≡ pos 32768
half_row = refl

pub half_a_unit_row : omitted ((at (pos 0) (pos 0) ∷ at (pos 5) (pos 0) ∷ at (pos 10) (pos 0) ∷ [])
    ∷ []) (at (pos 0) (pos 0) ∷ at (pos 1) (pos 0) ∷ at (pos 1) (pos 0) ∷ [])
    ≡ false ∷ false ∷ true ∷ []
half_a_unit_row = refl
