-- The laws of the marks.
use Rattle.std.proofs.Common.{◌≡◌, ℕ, zero, suc, ◌+◌, ◌-◌, ◌<◌, ◌≤◌, Bool, true, false, ◌&&◌, List}
use Rattle.std.proofs.Common.{[], ◌∷◌, ◌++◌, length, get_or, take, drop, refl, sym, ap, subst, ◌∙◌}
use Rattle.std.proofs.Common.{arith, zero-add, append_assoc, append-nil, ℤ, pos, ◌*ℤ◌}
use Rattle.std.specs.Prelude.{if◌then◌else◌}
use Rattle.std.specs.Ordering.{int_eq}
use Rattle.std.specs.List.{sum_by}
use Rattle.std.proofs.lemmas.Bool.Decides.{Decides-int_eq}
use Rattle.std.proofs.lemmas.List.{length-append, length-drop, length-take-le, take-append-le}
use Rattle.std.proofs.lemmas.List.Sums.{sum_by-cons}
use Rattle.std.proofs.Math.Seq.{take-append_seam, drop-append_seam}
use borrow.Author.Count.{below_more}
use Rattle.delta_infer.specs.declared.moved.MovedPoint.{MovedPoint}
use Rattle.delta_infer.specs.Moved.{moved_points, move_in_x, move_in_y}
use Rattle.delta_infer.specs.Inferred.{MarkedPoint, inferred, is_exact, all_exact, all_exact_after}
use Rattle.delta_infer.specs.Inferred.{named}
use Rattle.delta_infer.specs.Omitted.{with_marks, can_be_left_out, marks_after, contour_marks}
use Rattle.delta_infer.specs.Omitted.{omitted}
use Rattle.delta_infer.specs.Laws.{NothingChanges, AreContourMarks, AreMarks}

left : (a b : Bool) → (a && b) ≡ true → a ≡ true
left true b e = refl
left false b e = e

right : (a b : Bool) → (a && b) ≡ true → b ≡ true
right true b e = e
right false b e = cc

-- ---- a point that has no mark yet is named

named_mark : (points : List MovedPoint) (marks : List Bool)
    → with_marks points (marks ++ false ∷ []) ≡ with_marks points marks
named_mark [] marks = refl
named_mark (p ∷ points) [] = refl
named_mark (p ∷ points) (m ∷ marks) = ap (λ (ms : List MarkedPoint). record
    { point = p; left_out = m } ∷ ms) (named_mark points marks)

all_named : (earlier : List MarkedPoint) (points : List MovedPoint)
    → all_exact_after earlier (with_marks points []) ≡ true
all_named earlier [] = refl
all_named earlier (p ∷ points) = all_named (earlier ++ named p ∷ []) points

exact_next : (points : List MovedPoint) (marks : List Bool) (mark : Bool)
    → can_be_left_out points marks ≡ mark → all_exact (with_marks points marks) ≡ true
    → all_exact (with_marks points (marks ++ mark ∷ [])) ≡ true
exact_next points marks true e so = e
exact_next points marks false e so = ap all_exact (named_mark points marks) ∙ so

exact_after : (points : List MovedPoint) (marks : List Bool) (rest : List MovedPoint)
    → all_exact (with_marks points marks) ≡ true
    → all_exact (with_marks points (marks_after points marks rest)) ≡ true
exact_after points marks [] so = so
exact_after points marks (p ∷ rest) so =
    exact_after points (marks ++ can_be_left_out points marks ∷ []) rest
    (exact_next points marks (can_be_left_out points marks) refl so)

-- a point that is left out is exact
exact_point : (before earlier later : List MarkedPoint) (point : MovedPoint)
    → all_exact_after before (earlier ++ record { point = point; left_out = true } ∷ later) ≡ true
    → is_exact (later ++ (before ++ earlier)) point ≡ true
exact_point before [] later point e =
    ap (λ ms. is_exact (later ++ ms) point) (append-nil before)
    ∙ left (is_exact (later ++ before) point)
    (all_exact_after (before ++ record { point = point; left_out = true } ∷ []) later) e
exact_point before (m ∷ earlier) later point e =
    let rest = earlier ++ record { point = point; left_out = true } ∷ later in
    let here : Bool = if m.left_out then is_exact (rest ++ before) m.point else true in
    ap (λ ms. is_exact (later ++ ms) point) (sym (append_assoc before (m ∷ []) earlier))
    ∙ exact_point (before ++ m ∷ []) earlier later point
    (right here (all_exact_after (before ++ m ∷ []) rest) e)

exact_values : (others : List MarkedPoint) (point : MovedPoint) → is_exact others point ≡ true
    → (inferred move_in_x others point.x ≡ pos 65536 *ℤ point.dx)
    × (inferred move_in_y others point.y ≡ pos 65536 *ℤ point.dy)
exact_values others point e =
    let x : Bool = int_eq (inferred move_in_x others point.x) (pos 65536 *ℤ point.dx) in
    let y : Bool = int_eq (inferred move_in_y others point.y) (pos 65536 *ℤ point.dy) in (
      (Decides-int_eq (inferred move_in_x others point.x) (pos 65536 *ℤ point.dx)).0 (left x y e),
      (Decides-int_eq (inferred move_in_y others point.y) (pos 65536 *ℤ point.dy)).0
          (right x y e),
    )

nothing_changes : (contour : List MarkedPoint) → all_exact contour ≡ true → NothingChanges contour
nothing_changes contour e earlier later point is =
    exact_values (later ++ earlier) point (exact_point [] earlier later point
    (ap all_exact (sym is) ∙ e))

-- ---- each mark is what the marks before it make it

abbrev EachFollows : List MovedPoint → List Bool → Type 0
EachFollows points marks = (k : ℕ) → k < length marks
    → get_or marks k false ≡ can_be_left_out points (take k marks)

at_end : (marks : List Bool) (mark : Bool) → get_or (marks ++ mark ∷ []) (length marks) false ≡ mark
at_end [] mark = refl
at_end (m ∷ marks) mark = at_end marks mark

within : (marks more : List Bool) (k : ℕ) → k < length marks
    → get_or (marks ++ more) k false ≡ get_or marks k false
within [] more k h = absurd (omega arith)
within (m ∷ marks) more zero h = refl
within (m ∷ marks) more (suc k) h = within marks more k (omega arith)

follows_next : (points : List MovedPoint) (marks : List Bool) → EachFollows points marks
    → EachFollows points (marks ++ can_be_left_out points marks ∷ [])
follows_next points marks so k h =
    let mark : Bool = can_be_left_out points marks in
    let new : List Bool = marks ++ mark ∷ [] in
    let count : length new ≡ length marks + 1 = length-append marks (mark ∷ []) in
    let P : ℕ → Type 0 = λ j. get_or new j false ≡ can_be_left_out points (take j new) in
    below_more P (length marks)
    (λ j less. within marks (mark ∷ []) j less ∙ so j less
    ∙ ap (can_be_left_out points) (sym (take-append-le j marks (mark ∷ []) (omega arith))))
    (at_end marks mark ∙ ap (can_be_left_out points) (sym (take-append_seam marks (mark ∷ []))))
    k (omega arith)

follows_after : (points : List MovedPoint) (marks : List Bool) (rest : List MovedPoint)
    → EachFollows points marks → EachFollows points (marks_after points marks rest)
follows_after points marks [] so = so
follows_after points marks (p ∷ rest) so
    = follows_after points (marks ++ can_be_left_out points marks ∷ []) rest
    (follows_next points marks so)

length_after : (points : List MovedPoint) (marks : List Bool) (rest : List MovedPoint)
    → length (marks_after points marks rest) ≡ length marks + length rest
length_after points marks [] = omega arith
length_after points marks (p ∷ rest) =
    let mark : Bool = can_be_left_out points marks in
    length_after points (marks ++ mark ∷ []) rest ∙ omega (arith, length-append marks (mark ∷ []))

pub contour_laws : (points : List MovedPoint) → AreContourMarks points (contour_marks points)
contour_laws points = record {
  as_many = length_after points [] points ∙ zero-add (length points);
  each = follows_after points [] points (λ k h. absurd (omega arith));
  nothing_changes = nothing_changes (with_marks points (contour_marks points))
      (exact_after points [] points (all_named [] points));
}

-- ---- all contours

length_moved : (contour deltas : List (ℤ × ℤ)) → length deltas ≡ length contour
    → length (moved_points contour deltas) ≡ length contour
length_moved [] deltas e = refl
length_moved (p ∷ contour) [] e = absurd (omega arith)
length_moved (p ∷ contour) (d ∷ deltas) e = let rest = length_moved contour deltas (omega arith)
    in omega arith

pub omitted_laws : (contours : List (List (ℤ × ℤ))) (deltas : List (ℤ × ℤ))
    → length deltas ≡ sum_by length contours → AreMarks contours deltas (omitted contours deltas)
omitted_laws [] deltas e = refl
omitted_laws (contour ∷ contours) deltas e =
    let n : ℕ = length contour in
    let points : List MovedPoint = moved_points contour (take n deltas) in
    let marks : List Bool = contour_marks points in
    let more : List Bool = omitted contours (drop n deltas) in
    let sizes : length deltas ≡ n + sum_by length contours = e ∙ sum_by-cons length contour contours
    in
    let count : length marks ≡ n = (contour_laws points).as_many
    ∙ length_moved contour (take n deltas) (length-take-le n deltas (omega arith)) in
    let front : take n (marks ++ more) ≡ marks = ap (λ k. take k (marks ++ more)) (sym count)
    ∙ take-append_seam marks more in
    let back : drop n (marks ++ more) ≡ more = ap (λ k. drop k (marks ++ more)) (sym count)
    ∙ drop-append_seam marks more in (
      (let P : List Bool → Type 0 = AreContourMarks points
          in subst P (sym front) (contour_laws points)),
      (let Q : List Bool → Type 0 = AreMarks contours (drop n deltas)
          in subst Q (sym back) (omitted_laws contours (drop n deltas)
          (omega (arith, length-drop n deltas)))),
    )
