-- Which points a tuple names, and its serialized data (OpenType 1.9, "Tuple variation store",
-- "Serialized data"). The choice of the points and of the form is fontc's own.
use Rattle.std.specs.Prelude.{ℕ, ◌+◌, Bool, not, nat_lt, ◌||◌, if◌then◌else◌, ℤ, pos, List, []}
use Rattle.std.specs.Prelude.{◌∷◌, ◌++◌, length, map, take, drop, slice_index_or}
use Rattle.std.specs.List.{items_where_true, sum_by, zip}
use Rattle.std.specs.Ordering.{int_eq}
use Rattle.delta_infer.specs.Omitted.{omitted}
use Rattle.gvar_writer.specs.PackedDeltas.{packed_deltas}
use Rattle.gvar_writer.specs.PackedPoints.{packed_points}

-- ---- deltas of one region

-- each row's delta of the k-th region
abbrev pub column : ℕ → List (List ℤ) → List ℤ
column k rows = map (λ row. slice_index_or row k (pos 0)) rows

abbrev pub is_nonzero : ℤ → Bool
is_nonzero delta = not (int_eq delta (pos 0))

abbrev pub is_moved : ℤ × ℤ → Bool
is_moved delta = is_nonzero delta.0 || is_nonzero delta.1

-- ---- named points

-- points, cut into contours of so many
abbrev pub contours_of : List ℕ → List (ℤ × ℤ) → List (List (ℤ × ℤ))
contours_of [] points = []
contours_of (size ∷ sizes) points = take size points ∷ contours_of sizes (drop size points)

abbrev pub count_of : List (List (ℤ × ℤ)) → ℕ
count_of contours = sum_by length contours

-- Whether each point is named. Of an outline's points, which stand first, those are that can't be
-- left out; of the others, those that move.
abbrev pub named_points : List (List (ℤ × ℤ)) → List (ℤ × ℤ) → List Bool
named_points contours deltas =
    map not (omitted contours (take (count_of contours) deltas))
    ++ map is_moved (drop (count_of contours) deltas)

-- the numbers of the points that are named
abbrev pub numbers_from : ℕ → List Bool → List ℕ
numbers_from number [] = []
numbers_from number (named ∷ others) =
    if named then (number ∷ numbers_from (number + 1) others) else numbers_from (number + 1) others

-- ---- the two forms

abbrev pub both_packed : List ℤ → List ℤ → List ℕ
both_packed xs ys = packed_deltas xs ++ packed_deltas ys

-- a count of 0 says that there are deltas for all points
unfoldable pub all_form : List ℤ → List ℤ → List ℕ
all_form xs ys = 0 ∷ both_packed xs ys

unfoldable pub named_form : List Bool → List ℤ → List ℤ → List ℕ
named_form named xs ys = packed_points (numbers_from 0 named)
    ++ both_packed (items_where_true named xs) (items_where_true named ys)

-- the shorter one, and of two that are equally long the one of all points
abbrev pub shorter : List ℕ → List ℕ → List ℕ
shorter all named = if nat_lt (length named) (length all) then named else all

-- the data of deltas in x and y
unfoldable pub tuple_data : List (List (ℤ × ℤ)) → List ℤ → List ℤ → List ℕ
tuple_data contours xs ys = shorter (all_form xs ys)
    (named_form (named_points contours (zip xs ys)) xs ys)
