-- The order in which a variation model takes its places, which is fontc's own.
use Rattle.std.specs.Prelude.{◌≡◌, ◌≢◌, ℕ, ◌<◌, ◌^◌, Bool, not, ◌&&◌, ◌==◌, if◌then◌else◌, List, []}
use Rattle.std.specs.Prelude.{◌∷◌, ◌++◌, length, map, replicate, slice_index_or, pos, int_lt}
use Rattle.std.specs.Prelude.{unsigned_abs, filter, count_by, position, unwrap_or, Contains}
use Rattle.std.specs.Prelude.{EachIndex}
use Rattle.std.specs.List.{enumerate_from, list_any, flat_map, range_with_len}
use Rattle.std.specs.Ordering.{nat_cmp, is_lt, int_eq}
use Rattle.std.specs.Cmp.Lexicographic.{slice_cmp}
use Rattle.fixed_math.specs.declared.F2Dot14.{F2Dot14}
pub use Rattle.font_ir.specs.Places.{zero_number, place_at, axis_count, ArePlaces}

-- the active coordinates of a place, each with its axis: those that are not zero
abbrev pub is_active : ℕ × F2Dot14 → Bool
is_active coordinate = not (int_eq coordinate.1.0 (pos 0))

abbrev pub active : List F2Dot14 → List (ℕ × F2Dot14)
active place = filter is_active (enumerate_from 0 place)

-- the coordinates of places that are on an axis: the active one of a place that has no other
abbrev pub on_axis_coordinate : List F2Dot14 → List (ℕ × F2Dot14)
on_axis_coordinate place = if length (active place) == 1 then active place else []

abbrev pub same_coordinate : ℕ × F2Dot14 → ℕ × F2Dot14 → Bool
same_coordinate x y = (x.0 == y.0) && int_eq x.1.0 y.1.0

abbrev pub all_on_axis : List (List F2Dot14) → List (ℕ × F2Dot14)
all_on_axis places = flat_map on_axis_coordinate places

-- of the coordinates that are on an axis in some place, whether this is one
abbrev pub is_on_axis : List (ℕ × F2Dot14) → ℕ × F2Dot14 → Bool
is_on_axis on_axis coordinate = list_any (λ x. same_coordinate x coordinate) on_axis

abbrev pub sign_of : ℕ × F2Dot14 → ℕ
sign_of coordinate = if int_lt coordinate.1.0 (pos 0) then 0 else 1

-- what places are compared by, the first difference deciding: how many coordinates are active; how
-- many of them are not on an axis; the axes of the active ones; their signs, minus first; their
-- absolute values
abbrev pub key_among : List (ℕ × F2Dot14) → List (ℕ × F2Dot14) → List ℕ
key_among on_axis coordinates =
    length coordinates
    ∷ count_by (λ c. not (is_on_axis on_axis c)) coordinates
    ∷ (map (λ c. c.0) coordinates ++ (map sign_of coordinates
    ++ map (λ c. unsigned_abs c.1.0) coordinates))

abbrev pub key : List (List F2Dot14) → List F2Dot14 → List ℕ
key places place = key_among (all_on_axis places) (active place)

abbrev pub keys_of : List (List F2Dot14) → List (List ℕ)
keys_of places = map (key places) places

-- whether what has the first key comes before what has the second
abbrev pub is_less_key : List ℕ → List ℕ → Bool
is_less_key x y = is_lt (slice_cmp nat_cmp x y)

-- the number of each place in the order: how many come before it
abbrev pub rank_among : List (List ℕ) → List ℕ → ℕ
rank_among keys own = count_by (λ other. is_less_key other own) keys

abbrev pub ranks : List (List F2Dot14) → List ℕ
ranks places = map (rank_among (keys_of places)) (keys_of places)

-- the positions of the places in their order: at each number the place that so many others come
-- before
abbrev pub of_rank : List ℕ → ℕ → ℕ
of_rank numbers k = unwrap_or (position (λ number. number == k) numbers) 0

unfoldable pub order_of : List (List F2Dot14) → List ℕ
order_of places = map (of_rank (ranks places)) (range_with_len 0 (length places))

-- the places in their order
abbrev pub ordered : List (List F2Dot14) → List (List F2Dot14)
ordered places = map (place_at places) (order_of places)
