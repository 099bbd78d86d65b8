-- Worked examples: places in 2.14, values in 16.16.
use Rattle.std.specs.Prelude.{◌≡◌, ℕ, List, [], ◌∷◌, ℤ, pos, negsuc, Some, None}
use Rattle.std.proofs.Common.{refl}
use Rattle.fixed_math.specs.declared.F2Dot14.{F2Dot14}
use Rattle.fixed_math.specs.declared.Fixed.{Fixed}
use Rattle.font_ir.specs.declared.variation.Region.{Region}
use Rattle.variation_model.specs.Places.{order_of}
use Rattle.variation_model.specs.Supports.{supports_of}
use Rattle.variation_model.specs.Scalar.{scalar_of}
use Rattle.variation_model.specs.Deltas.{deltas_of, value_of, first_large, region_at}

abbrev at : ℕ → F2Dot14
at n = record { 0 = pos n }

abbrev value : ℤ → Fixed
value raw = record { 0 = raw }

-- two axes, and masters at (0, 0), (1, 0) and (1/2, 1)
abbrev slanted : List (List F2Dot14)
slanted = (at 0 ∷ at 0 ∷ []) ∷ (at 16384 ∷ at 0 ∷ []) ∷ (at 8192 ∷ at 16384 ∷ []) ∷ []

-- the values 0, 3 and 10 have the deltas 0, 3 and 9
slanted_deltas : deltas_of slanted (value (pos 0) ∷ value (pos 196608) ∷ value (pos 655360) ∷ [])
    ≡ pos 0 ∷ pos 3 ∷ pos 9 ∷ []
unfolding deltas_of supports_of order_of
slanted_deltas = refl

-- which give 10.5 at the third master: one half more than it has
slanted_value : value_of (supports_of slanted) (pos 0 ∷ pos 3 ∷ pos 9 ∷ [])
    (at 8192 ∷ at 16384 ∷ []) ≡ pos 688128
unfolding supports_of order_of
slanted_value = refl

-- one axis, and masters at 0, 1/3 and 1
abbrev thirds : List (List F2Dot14)
thirds = (at 0 ∷ []) ∷ (at 5461 ∷ []) ∷ (at 16384 ∷ []) ∷ []

thirds_order : order_of thirds ≡ 0 ∷ 1 ∷ 2 ∷ []
unfolding order_of
thirds_order = refl

-- the second region reaches from zero to the third master, and the third begins at the second
-- master
abbrev thirds_regions : List Region
thirds_regions =
    record { sides = (at 0, at 0, at 0) ∷ [] } ∷ record { sides = (at 0, at 5461, at 16384) ∷ [] }
    ∷ record { sides = (at 5461, at 16384, at 16384) ∷ [] } ∷ []

thirds_supports : supports_of thirds ≡ thirds_regions
unfolding supports_of order_of
thirds_supports = refl

-- the scalar of the second at 4096
thirds_scalar : scalar_of ((region_at thirds_regions 1).sides) (at 4096 ∷ []) ≡ pos 49155
thirds_scalar = refl

-- the scalars of the axes are multiplied in their order, each product rounded: from the last axis
-- to the first it would be 6311
abbrev three_sides : List (F2Dot14 × F2Dot14 × F2Dot14)
three_sides = (at 0, at 16384, at 16384) ∷ (at 0, at 5461, at 16384) ∷ (at 0, at 3, at 16384) ∷ []

three_scalar : scalar_of three_sides (at 4936 ∷ at 12781 ∷ at 509 ∷ []) ≡ pos 6312
three_scalar = refl

abbrev three_reversed : List (F2Dot14 × F2Dot14 × F2Dot14)
three_reversed = (at 0, at 3, at 16384) ∷ (at 0, at 5461, at 16384) ∷ (at 0, at 16384, at 16384)
    ∷ []

three_reversed_scalar : scalar_of three_reversed (at 509 ∷ at 12781 ∷ at 4936 ∷ []) ≡ pos 6311
three_reversed_scalar = refl

-- two masters: a delta of -32766 can be stored
abbrev ends : List (List F2Dot14)
ends = (at 0 ∷ []) ∷ (at 16384 ∷ []) ∷ []

ends_deltas : deltas_of ends (value (pos 1073676288) ∷ value (negsuc 1073676287) ∷ [])
    ≡ pos 16383 ∷ negsuc 32765 ∷ []
unfolding deltas_of supports_of order_of
ends_deltas = refl

-- two axes and the four corners: the last delta at the ends of what can be stored, and past them
abbrev corners : List (List F2Dot14)
corners = (at 0 ∷ at 0 ∷ []) ∷ (at 16384 ∷ at 0 ∷ []) ∷ (at 0 ∷ at 16384 ∷ [])
    ∷ (at 16384 ∷ at 16384 ∷ []) ∷ []

abbrev corner_deltas : ℤ → ℤ → List ℤ
corner_deltas side last = deltas_of corners
    (value (pos 0) ∷ value side ∷ value side ∷ value last ∷ [])

corners_least : corner_deltas (pos 1073676288) (negsuc 131071)
    ≡ pos 0 ∷ pos 16383 ∷ pos 16383 ∷ negsuc 32767 ∷ []
unfolding deltas_of supports_of order_of
corners_least = refl

corners_least_stored : first_large 0 (corner_deltas (pos 1073676288) (negsuc 131071)) ≡ None
unfolding deltas_of supports_of order_of
corners_least_stored = refl

corners_below : first_large 0 (corner_deltas (pos 1073676288) (negsuc 196607))
    ≡ Some (3, negsuc 32768)
unfolding deltas_of supports_of order_of
corners_below = refl

corners_greatest : corner_deltas (negsuc 1073676287) (pos 65536)
    ≡ pos 0 ∷ negsuc 16382 ∷ negsuc 16382 ∷ pos 32767 ∷ []
unfolding deltas_of supports_of order_of
corners_greatest = refl

corners_greatest_stored : first_large 0 (corner_deltas (negsuc 1073676287) (pos 65536)) ≡ None
unfolding deltas_of supports_of order_of
corners_greatest_stored = refl

corners_above : first_large 0 (corner_deltas (negsuc 1073676287) (pos 131072)) ≡ Some (3, pos 32768)
unfolding deltas_of supports_of order_of
corners_above = refl

-- two axes, and masters of every kind, listed out of order: the zero one is first; then those on
-- the first axis, minus before plus and near before far; then that on the second axis; then those
-- off the axes, of which the last has a number that no master has alone
abbrev minus : ℕ → F2Dot14
minus n = record { 0 = negsuc n }

abbrev mixed : List (List F2Dot14)
mixed =
    (at 16384 ∷ at 16384 ∷ []) ∷ (at 4096 ∷ at 16384 ∷ []) ∷ (at 0 ∷ at 16384 ∷ [])
    ∷ (at 16384 ∷ at 0 ∷ [])
    ∷ (at 0 ∷ at 0 ∷ []) ∷ (at 8192 ∷ at 0 ∷ []) ∷ (minus 16383 ∷ at 0 ∷ [])
    ∷ (at 8192 ∷ at 16384 ∷ []) ∷ []

mixed_order : order_of mixed ≡ 4 ∷ 6 ∷ 5 ∷ 3 ∷ 2 ∷ 7 ∷ 0 ∷ 1 ∷ []
unfolding order_of
mixed_order = refl

-- a region on the minus side, and one that two neighbours cut
mixed_minus : region_at (supports_of mixed) 1
    ≡ record { sides = (minus 16383, minus 16383, at 0) ∷ (at 0, at 0, at 0) ∷ [] }
unfolding supports_of order_of
mixed_minus = refl

mixed_far : region_at (supports_of mixed) 3
    ≡ record { sides = (at 8192, at 16384, at 16384) ∷ (at 0, at 0, at 0) ∷ [] }
unfolding supports_of order_of
mixed_far = refl

-- and one whose end a later place on the same axis becomes
mixed_last : region_at (supports_of mixed) 7
    ≡ record { sides = (at 0, at 4096, at 8192) ∷ (at 0, at 16384, at 16384) ∷ [] }
unfolding supports_of order_of
mixed_last = refl

-- the thirds on the minus side: there the nearer master becomes the end of the farther one's region
abbrev minus_thirds : List (List F2Dot14)
minus_thirds = (at 0 ∷ []) ∷ (minus 5460 ∷ []) ∷ (minus 16383 ∷ []) ∷ []

abbrev minus_regions : List Region
minus_regions =
    record { sides = (at 0, at 0, at 0) ∷ [] }
    ∷ record { sides = (minus 16383, minus 5460, at 0) ∷ [] }
    ∷ record { sides = (minus 16383, minus 16383, minus 5460) ∷ [] } ∷ []

minus_supports : supports_of minus_thirds ≡ minus_regions
unfolding supports_of order_of
minus_supports = refl

-- where the ratios of two axes are the same, both are cut
abbrev diagonal : List (List F2Dot14)
diagonal = (at 0 ∷ at 0 ∷ []) ∷ (at 8192 ∷ at 8192 ∷ []) ∷ (at 16384 ∷ at 16384 ∷ []) ∷ []

diagonal_last : region_at (supports_of diagonal) 2
    ≡ record { sides = (at 8192, at 16384, at 16384) ∷ (at 8192, at 16384, at 16384) ∷ [] }
unfolding supports_of order_of
diagonal_last = refl

-- and else the axis of the larger alone
abbrev steep : List (List F2Dot14)
steep = (at 0 ∷ at 0 ∷ []) ∷ (at 4096 ∷ at 8192 ∷ []) ∷ (at 16384 ∷ at 16384 ∷ []) ∷ []

steep_last : region_at (supports_of steep) 2
    ≡ record { sides = (at 4096, at 16384, at 16384) ∷ (at 0, at 16384, at 16384) ∷ [] }
unfolding supports_of order_of
steep_last = refl

-- where each delta is formed from the rounded ones before, the values 0, 1/2 and 9.8 have the
-- deltas 0, 1 and 9; formed from unrounded ones the last would be 10, and miss the third master by
-- 0.7
slanted_rounded : deltas_of slanted (value (pos 0) ∷ value (pos 32768) ∷ value (pos 642253) ∷ [])
    ≡ pos 0 ∷ pos 1 ∷ pos 9 ∷ []
unfolding deltas_of supports_of order_of
slanted_rounded = refl
