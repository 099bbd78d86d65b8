-- One step of the loops over points and over contours.
use Rattle.std.proofs.Common.{◌≡◌, ℕ, ◌+◌, ◌-◌, ◌<◌, ◌≤◌, Bool, List, [], ◌∷◌, ◌++◌, length, get_or}
use Rattle.std.proofs.Common.{map, take, drop, refl, sym, ap, ◌∙◌, arith, append_assoc, append-nil}
use Rattle.std.proofs.Common.{drop-drop, ℤ, pos}
use Rattle.std.specs.List.{sum_by}
use Rattle.std.proofs.lemmas.List.{at_drop_more, drop_all, length-drop}
use Rattle.std.proofs.lemmas.List.Sums.{sum_by-cons}
use Rattle.delta_infer.specs.declared.moved.MovedPoint.{MovedPoint}
use Rattle.delta_infer.specs.Moved.{moved_points}
use Rattle.delta_infer.specs.Omitted.{contour_marks, omitted}

-- a point with its delta, before those that are left
pub moved_step : (points deltas : List (ℤ × ℤ)) (i : ℕ) (d e : ℤ × ℤ)
    (old new all : List MovedPoint) → i < length points → length deltas ≡ length points
    → new ≡ old ++ (record {
      x = (get_or points i d).0;
      y = (get_or points i d).1;
      dx
          = (get_or deltas i e).0;
      dy = (get_or deltas i e).1;
    }) ∷ []
    → old ++ moved_points (drop i points) (drop i deltas) ≡ all
    → new ++ moved_points (drop (i + 1) points) (drop (i + 1) deltas) ≡ all
moved_step points deltas i d e old new all h same is told =
    let p : ℤ × ℤ = get_or points i d in
    let q : ℤ × ℤ = get_or deltas i e in
    ap (λ ps. ps ++ moved_points (drop (i + 1) points) (drop (i + 1) deltas)) is
    ∙ append_assoc old (record { x = p.0; y = p.1; dx = q.0; dy = q.1 } ∷ [])
    (moved_points (drop (i + 1) points) (drop (i + 1) deltas))
    ∙ ap (λ ps. old ++ ps) (sym (at_drop_more (λ ds. moved_points (p ∷ drop (i + 1) points) ds)
    deltas i e (omega arith)))
    ∙ ap (λ ps. old ++ ps) (sym (at_drop_more (λ ps. moved_points ps (drop i deltas)) points i d h))
    ∙ told

pub moved_all : (points deltas : List (ℤ × ℤ)) (i : ℕ) (old all : List MovedPoint)
    → length points ≤ i → old ++ moved_points (drop i points) (drop i deltas) ≡ all → old ≡ all
moved_all points deltas i old all h told =
    sym (append-nil old) ∙ ap (λ ps. old ++ moved_points ps (drop i deltas))
    (sym (drop_all i points h)) ∙ told

-- a contour's marks, before those of the contours that are left
pub contour_step : {C : Type 0} (points_of : C → List (ℤ × ℤ)) (contours : List C) (i : ℕ)
    (item : C) (deltas part : List (ℤ × ℤ)) (from n : ℕ) (old new all : List Bool)
    → i < length contours → item ≡ get_or contours i item → n ≡ length (points_of item)
    → part ≡ take n (drop from deltas) → new
    ≡ old ++ contour_marks (moved_points (points_of item) part)
    → old ++ omitted (map points_of (drop i contours)) (drop from deltas) ≡ all
    → new ++ omitted (map points_of (drop (i + 1) contours)) (drop (from + n) deltas) ≡ all
contour_step {C} points_of contours i item deltas part from n old new all h is sized cut e told =
    let rest : List (List (ℤ × ℤ)) = map points_of (drop (i + 1) contours) in
    let left : List (ℤ × ℤ) = drop from deltas in
    let marks : List Bool = contour_marks (moved_points (points_of item) (take n left)) in
    let F : List C → List Bool = λ cs. omitted (map points_of cs) left in
    ap (λ ms. ms ++ omitted rest (drop (from + n) deltas))
    (e ∙ ap (λ ds. old ++ contour_marks (moved_points (points_of item) ds)) cut)
    ∙ append_assoc old marks (omitted rest (drop (from + n) deltas))
    ∙ ap (λ ds. old ++ (marks ++ omitted rest ds)) (sym (drop-drop n from deltas))
    ∙ ap (λ k. old ++ (contour_marks (moved_points (points_of item) (take k left))
    ++ omitted rest (drop k left))) sized
    ∙ ap (λ c. old ++ (contour_marks (moved_points (points_of c) (take (length (points_of c)) left))
    ++ omitted rest (drop (length (points_of c)) left))) is
    ∙ ap (λ ms. old ++ ms) (sym (at_drop_more F contours i item h))
    ∙ told

pub sizes_step : {C : Type 0} (size : C → ℕ) (contours : List C) (i : ℕ) (item : C)
    → i < length contours → item ≡ get_or contours i item
    → sum_by size (drop i contours) ≡ size item + sum_by size (drop (i + 1) contours)
sizes_step size contours i item lt is =
    at_drop_more (sum_by size) contours i item lt
    ∙ sum_by-cons size (get_or contours i item) (drop (i + 1) contours)
    ∙ ap (λ c. size c + sum_by size (drop (i + 1) contours)) (sym is)

pub contours_all : {C : Type 0} (points_of : C → List (ℤ × ℤ)) (contours : List C) (i : ℕ)
    (deltas : List (ℤ × ℤ)) (old all : List Bool) → length contours ≤ i
    → old ++ omitted (map points_of (drop i contours)) deltas ≡ all → old ≡ all
contours_all points_of contours i deltas old all h told =
    sym (append-nil old) ∙ ap (λ cs. old ++ omitted (map points_of cs) deltas)
    (sym (drop_all i contours h)) ∙ told

pub sizes_of : {C : Type 0} (points_of : C → List (ℤ × ℤ)) (contours : List C)
    → sum_by (λ contour. length (points_of contour)) contours
    ≡ sum_by length (map points_of contours)
sizes_of points_of [] = refl
sizes_of points_of (contour ∷ contours) =
    sum_by-cons (λ c. length (points_of c)) contour contours
    ∙ ap (λ k. length (points_of contour) + k) (sizes_of points_of contours)
    ∙ sym (sum_by-cons length (points_of contour) (map points_of contours))
