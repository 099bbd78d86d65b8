-- The tuples of a glyph, one region after another, and their bytes.
use Rattle.std.proofs.Common.{◌≡◌, ℕ, ◌+◌, ◌<◌, ◌≤◌, ◌%◌, ◌/◌, ℤ, Bool, true, false, cond, List, []}
use Rattle.std.proofs.Common.{◌∷◌}
use Rattle.std.proofs.Common.{◌++◌, length, get_or, drop, ap, sym, ◌∙◌, arith, append_assoc}
use Rattle.std.specs.List.{flat_map}
use Rattle.std.proofs.lemmas.Grind.{flat_map-append}
use Rattle.std.proofs.lemmas.List.{at_drop_more, length-append}
use Rattle.font_ir.specs.declared.variation.Region.{Region}
use Rattle.table_bytes.specs.DataTypes.{uint16}
use Rattle.gvar_writer.specs.GlyphVariations.{Tuple, tuple_at, where_moving, tuples_from}

abbrev pub no_region : Region
no_region = record { sides = [] }

-- the first of some regions has its tuple first
pub tuples_more : (x_rows y_rows : List (List ℤ)) (regions : List Region) (k : ℕ) (d : Region)
    → k < length regions → tuples_from x_rows y_rows k (drop k regions)
    ≡ where_moving (tuple_at x_rows y_rows k (get_or regions k d))
    ++ tuples_from x_rows y_rows (k + 1) (drop (k + 1) regions)
tuples_more x_rows y_rows regions k d within =
    at_drop_more (tuples_from x_rows y_rows k) regions k d within

-- tuples that are written, before those that are left
pub bytes_step : (f : Tuple → List ℕ) (now rest whole : List Tuple) (old new all : List ℕ)
    → whole ≡ now ++ rest → new ≡ old ++ flat_map f now → old ++ flat_map f whole ≡ all
    → new ++ flat_map f rest ≡ all
bytes_step f now rest whole old new all parts e told =
    ap (λ bytes. bytes ++ flat_map f rest) e
    ∙ append_assoc old (flat_map f now) (flat_map f rest)
    ∙ ap (λ bytes. old ++ bytes) (sym (flat_map-append f now rest))
    ∙ ap (λ tuples. old ++ flat_map f tuples) (sym parts)
    ∙ told

pub count_step : (now rest whole : List Tuple) (old new all : ℕ) → whole ≡ now ++ rest
    → new ≡ old + length now → old + length whole ≡ all → new + length rest ≡ all
count_step now rest whole old new all parts e told =
    omega (arith, ap length parts, length-append now rest)

at_most_one : (b : Bool) (t : Tuple) → length (cond b (t ∷ []) []) ≤ 1
at_most_one true t = omega arith
at_most_one false t = omega arith

pub few_moving : (tuple : Tuple) → length (where_moving tuple) ≤ 1
few_moving tuple = at_most_one _ tuple

-- two bytes hold a number modulo 65536
low_bytes : (n : ℕ) → uint16 (n % 65536) ≡ uint16 n
low_bytes n =
    let high : n % 65536 / 256 % 256 ≡ n / 256 % 256 = omega arith in
    let low : n % 65536 % 256 ≡ n % 256 = omega arith in
    λ i. high i ∷ low i ∷ []

pub offset_bytes : (m n : ℕ) → m ≡ 4 + n → uint16 (m % 65536) ≡ uint16 (4 + n)
offset_bytes m n is = low_bytes m ∙ ap uint16 is
