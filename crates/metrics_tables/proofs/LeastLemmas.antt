-- The least and the greatest of numbers, one at a time.
use Rattle.std.proofs.Common.{◌≡◌, ℕ, ◌+◌, ◌<◌, ℤ, pos, ◌-ℤ◌, List, ◌∷◌, length, get_or, drop}
use Rattle.std.proofs.Common.{Option, None, Some, refl, ap, ◌∙◌}
use Rattle.std.proofs.lemmas.List.{at_drop_more}
use Rattle.std.specs.List.{fold}
use Rattle.std.specs.Int.{int_min, int_max}
use Rattle.font_ir.specs.Extremes.{least, greatest}
use Rattle.metrics_tables.specs.Comparisons.{lesser_of}
use Rattle.metrics_tables.specs.Tables.{right_bearings}

-- the least of a number that may be there and of others
abbrev pub least_onto : Option ℤ → List ℤ → ℤ
least_onto None others = least others
least_onto (Some x) others = fold int_min x others

abbrev pub greatest_onto : Option ℤ → List ℤ → ℤ
greatest_onto None others = greatest others
greatest_onto (Some x) others = fold int_max x others

lesser_first : (so_far : Option ℤ) (y : ℤ) (others : List ℤ)
    → least_onto so_far (y ∷ others) ≡ fold int_min (lesser_of so_far y) others
lesser_first None y others = refl
lesser_first (Some x) y others = refl

-- the right side bearings of the glyphs from one on
bearings_from : (advances : List ℕ) (bounds : List (Option (List ℤ))) (i : ℕ) → i < length advances
    → i < length bounds → right_bearings (drop i advances) (drop i bounds)
    ≡ right_bearings (get_or advances i 0 ∷ drop (i + 1) advances)
    (get_or bounds i None ∷ drop (i + 1) bounds)
bearings_from advances bounds i h k =
    at_drop_more (λ rest. right_bearings rest (drop i bounds)) advances i 0 h
    ∙ at_drop_more (λ rest. right_bearings (get_or advances i 0 ∷ drop (i + 1) advances) rest)
    bounds i None k

pub bearing_there : (advances : List ℕ) (bounds : List (Option (List ℤ))) (i : ℕ) (sides : List ℤ)
    (so_far : Option ℤ) → i < length advances → i < length bounds
    → get_or bounds i None ≡ Some sides
    → least_onto so_far (right_bearings (drop i advances) (drop i bounds))
    ≡ fold int_min (lesser_of so_far (pos (get_or advances i 0) -ℤ get_or sides 2 (pos 0)))
    (right_bearings (drop (i + 1) advances) (drop (i + 1) bounds))
bearing_there advances bounds i sides so_far h k e =
    ap (least_onto so_far) (bearings_from advances bounds i h k
    ∙ ap (λ item. right_bearings (get_or advances i 0 ∷ drop (i + 1) advances)
    (item ∷ drop (i + 1) bounds)) e)
    ∙ lesser_first so_far (pos (get_or advances i 0) -ℤ get_or sides 2 (pos 0))
    (right_bearings (drop (i + 1) advances) (drop (i + 1) bounds))

pub no_bearing : (advances : List ℕ) (bounds : List (Option (List ℤ))) (i : ℕ) → i < length advances
    → i < length bounds → get_or bounds i None ≡ None
    → right_bearings (drop i advances) (drop i bounds)
    ≡ right_bearings (drop (i + 1) advances) (drop (i + 1) bounds)
no_bearing advances bounds i h k e =
    bearings_from advances bounds i h k ∙ ap (λ item. right_bearings
    (get_or advances i 0 ∷ drop (i + 1) advances) (item ∷ drop (i + 1) bounds)) e
