-- Which points are named, one after another, and how many they are.
use Rattle.std.proofs.Common.{◌≡◌, ℕ, suc, ◌+◌, ◌<◌, ◌≤◌, ℤ, Bool, true, false, not}
use Rattle.std.proofs.Common.{List, [], ◌∷◌, ◌++◌, length, map, get_or, take, drop, refl, ap, sym}
use Rattle.std.proofs.Common.{◌∙◌, arith, append_assoc}
use Rattle.std.specs.List.{items_where_true, zip}
use Rattle.std.proofs.lemmas.List.{drop_more, length-append, length-map, length-take-le}
use Rattle.std.proofs.lemmas.List.{length-drop}
use Rattle.std.proofs.lemmas.List.Sums.{sum_by-cons}
use Rattle.delta_infer.specs.declared.moved.MovedPoint.{MovedPoint}
use Rattle.delta_infer.specs.Moved.{moved_points}
use Rattle.delta_infer.specs.Omitted.{marks_after, contour_marks, can_be_left_out, omitted}
use Rattle.gvar_writer.specs.PackedPoints.{differences}
use Rattle.gvar_writer.specs.TupleData.{is_moved, count_of, named_points, numbers_from}

-- ---- items of named points

two_more : {A : Type 0} (named : List Bool) (xs : List A) (i : ℕ) (d : A) → i < length named
    → i < length xs → items_where_true (drop i named) (drop i xs)
    ≡ items_where_true (get_or named i false ∷ drop (i + 1) named)
    (get_or xs i d ∷ drop (i + 1) xs)
two_more named xs i d in_named in_xs =
    ap (λ bs. items_where_true bs (drop i xs)) (drop_more named i false in_named)
    ∙ ap (items_where_true (get_or named i false ∷ drop (i + 1) named)) (drop_more xs i d in_xs)

pub item_named : {A : Type 0} (named : List Bool) (xs old new all : List A) (i : ℕ) (d : A)
    → i < length named → i < length xs → get_or named i false ≡ true
    → new ≡ old ++ get_or xs i d ∷ []
    → old ++ items_where_true (drop i named) (drop i xs) ≡ all
    → new ++ items_where_true (drop (i + 1) named) (drop (i + 1) xs) ≡ all
item_named {A} named xs old new all i d in_named in_xs is e told =
    let x : A = get_or xs i d in
    let bs : List Bool = drop (i + 1) named in
    let rest : List A = drop (i + 1) xs in
    ap (λ written. written ++ items_where_true bs rest) e
    ∙ append_assoc old (x ∷ []) (items_where_true bs rest)
    ∙ ap (λ b. old ++ items_where_true (b ∷ bs) (x ∷ rest)) (sym is)
    ∙ ap (λ more. old ++ more) (sym (two_more named xs i d in_named in_xs))
    ∙ told

pub item_left_out : {A : Type 0} (named : List Bool) (xs old all : List A) (i : ℕ) (d : A)
    → i < length named → i < length xs → get_or named i false ≡ false
    → old ++ items_where_true (drop i named) (drop i xs) ≡ all
    → old ++ items_where_true (drop (i + 1) named) (drop (i + 1) xs) ≡ all
item_left_out {A} named xs old all i d in_named in_xs is told =
    let x : A = get_or xs i d in
    let bs : List Bool = drop (i + 1) named in
    let rest : List A = drop (i + 1) xs in
    ap (λ b. old ++ items_where_true (b ∷ bs) (x ∷ rest)) (sym is)
    ∙ ap (λ more. old ++ more) (sym (two_more named xs i d in_named in_xs))
    ∙ told

-- ---- how many

pub length_zip : {A B : Type 0} (xs : List A) (ys : List B) → length ys ≡ length xs
    → length (zip xs ys) ≡ length xs
length_zip [] ys e = refl
length_zip (x ∷ xs) [] e = absurd (omega arith)
length_zip (x ∷ xs) (y ∷ ys) e = ap suc (length_zip xs ys (omega arith))

pub length_differences : (before : ℕ) (numbers : List ℕ)
    → length (differences before numbers) ≡ length numbers
length_differences before [] = refl
length_differences before (number ∷ numbers) = ap suc (length_differences number numbers)

pub length_numbers : (number : ℕ) (named : List Bool)
    → length (numbers_from number named) ≤ length named
length_numbers number [] = omega arith
length_numbers number (true ∷ named) = omega (arith, length_numbers (number + 1) named)
length_numbers number (false ∷ named) = omega (arith, length_numbers (number + 1) named)

length_after : (points : List MovedPoint) (marks : List Bool) (rest : List MovedPoint)
    → length (marks_after points marks rest) ≡ length marks + length rest
length_after points marks [] = omega arith
length_after points marks (point ∷ rest) = omega (
  arith,
  length_after points (marks ++ can_be_left_out points marks ∷ []) rest,
  length-append marks (can_be_left_out points marks ∷ []),
)

length_moved : (contour deltas : List (ℤ × ℤ)) → length deltas ≡ length contour
    → length (moved_points contour deltas) ≡ length contour
length_moved [] deltas e = refl
length_moved (point ∷ contour) [] e = absurd (omega arith)
length_moved (point ∷ contour) (delta ∷ deltas) e = ap suc (length_moved contour deltas (omega
    arith))

length_omitted : (contours : List (List (ℤ × ℤ))) (deltas : List (ℤ × ℤ))
    → length deltas ≡ count_of contours → length (omitted contours deltas) ≡ count_of contours
length_omitted [] deltas e = refl
length_omitted (contour ∷ contours) deltas e =
    let n : ℕ = length contour in
    let all : count_of (contour ∷ contours) ≡ n + count_of contours = sum_by-cons length contour
    contours in
    let own : length (take n deltas) ≡ n = length-take-le n deltas (omega arith) in
    let rest : length (drop n deltas) ≡ count_of contours = omega (arith, length-drop n deltas) in
    let points : List MovedPoint = moved_points contour (take n deltas) in
    omega (
      arith,
      length-append (contour_marks points) (omitted contours (drop n deltas)),
      length_after points [] points,
      length_moved contour (take n deltas) own,
      length_omitted contours (drop n deltas) rest,
    )

pub length_named : (contours : List (List (ℤ × ℤ))) (deltas : List (ℤ × ℤ))
    → count_of contours ≤ length deltas
    → length (named_points contours deltas) ≡ length deltas
length_named contours deltas few =
    let n : ℕ = count_of contours in
    let marks : List Bool = omitted contours (take n deltas) in
    omega (
      arith,
      length-append (map not marks) (map is_moved (drop n deltas)),
      length-map marks not,
      length-map (drop n deltas) is_moved,
      length-drop n deltas,
      length_omitted contours (take n deltas) (length-take-le n deltas few),
    )
