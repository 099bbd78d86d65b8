-- What the search keeps of the marks so far, and that one run of points decides the next mark.
use Rattle.std.proofs.Common.{◌≡◌, ℕ, zero, suc, ◌+◌, ◌-◌, ◌<◌, ◌≤◌, Bool, true, false, ◌&&◌}
use Rattle.std.proofs.Common.{nat_lt, nat_eq, List, [], ◌∷◌, ◌++◌, length, get_or, take, drop, refl}
use Rattle.std.proofs.Common.{sym, ap, subst, ◌∙◌, arith, append_assoc, append-nil, cond}
use Rattle.std.specs.Prelude.{if◌then◌else◌, ◌==◌}
use Rattle.std.specs.List.{list_all}
use Rattle.std.proofs.lemmas.Bool.Decides.{nat_tests}
use Rattle.std.proofs.lemmas.List.{take_more, length-append, length-drop, length-take-le}
use Rattle.std.proofs.lemmas.List.{get_or-drop, drop_all, at_drop_more}
use Rattle.std.proofs.lemmas.List.Folds.{list_all-append}
use Rattle.delta_infer.specs.declared.moved.MovedPoint.{MovedPoint}
use Rattle.delta_infer.specs.Inferred.{MarkedPoint, named, all_exact}
use Rattle.delta_infer.specs.Omitted.{with_marks, can_be_left_out, marks_after, contour_marks}
use Rattle.delta_infer.specs.Parts.{is_between, is_still, no_point, point_at, run_of, point_before}
use Rattle.delta_infer.specs.Parts.{run_fits, run_after}
use Rattle.delta_infer.specs.declared.left_out.Run.{Run}
use Rattle.delta_infer.proofs.Walks.{Walk, none_yet, some_named, step, walk, finish, walk-append}
use Rattle.delta_infer.proofs.Walks.{all_between, all_exact-walk}

abbrev marked : MovedPoint → Bool → MarkedPoint
marked point mark = record { point = point; left_out = mark }

with_marks-append : (points rest : List MovedPoint) (marks more : List Bool)
    → length marks ≡ length points → with_marks (points ++ rest) (marks ++ more)
    ≡ with_marks points marks ++ with_marks rest more
with_marks-append [] rest [] more e = refl
with_marks-append [] rest (m ∷ marks) more e = absurd (omega arith)
with_marks-append (p ∷ points) rest [] more e = absurd (omega arith)
with_marks-append (p ∷ points) rest (m ∷ marks) more e =
    ap (λ (ms : List MarkedPoint). marked p m ∷ ms)
    (with_marks-append points rest marks more (omega arith))

and-true : (a : Bool) → (a && true) ≡ a
and-true true = refl
and-true false = refl

-- the last of some points, after one
abbrev last_of : MovedPoint → List MovedPoint → MovedPoint
last_of point [] = point
last_of point (next ∷ points) = last_of next points

last_of-at : (point : MovedPoint) (points : List MovedPoint)
    → last_of point points ≡ get_or (point ∷ points) (length points) no_point
last_of-at point [] = refl
last_of-at point (next ∷ points) = last_of-at next points

-- points that are all named leave no run
walk-named : (front : List MovedPoint) (first : MovedPoint) (ok : Bool) (before : MovedPoint)
    (points : List MovedPoint) → walk (some_named front first ok before []) (with_marks points [])
    ≡ some_named front first ok (last_of before points) []
walk-named front first ok before [] = refl
walk-named front first ok before (p ∷ points) =
    ap (λ b. walk (some_named front first b p []) (with_marks points [])) (and-true ok)
    ∙ walk-named front first ok p points

-- what is kept of the points before `at`
abbrev pub reached : List MovedPoint → ℕ → ℕ → ℕ → Walk
reached points first zero at = none_yet (take at points)
reached points first (suc before) at =
    some_named (take first points) (point_at points first) true (point_at points before)
    (take (at - suc before) (drop (suc before) points))

pub record IsReached (points : List MovedPoint) (marks : List Bool) (first start at : ℕ)
    : Type 0 where
  pub as_many : length marks ≡ at
  pub begun : start ≤ at
  pub front_begun : first ≤ at
  pub walked : walk (none_yet []) (with_marks (take at points) marks)
      ≡ reached points first start at
  -- the run would fit were the next point named
  pub ready : at < length points → all_between (point_before points start) (point_at points at)
      (take (at - start) (drop start points)) ≡ true
  -- the points before the first named one fit while the last point is named
  pub front : 0 < start → all_between (point_at points (length points - 1)) (point_at points first)
      (take first points) ≡ true

-- the points in three parts
split_at : (points : List MovedPoint) (at : ℕ) → at < length points
    → points ≡ take at points ++ point_at points at ∷ drop (at + 1) points
split_at [] at h = absurd (omega arith)
split_at (p ∷ points) zero h = refl
split_at (p ∷ points) (suc at) h =
    let next : suc (at + 1) ≡ suc at + 1 = omega arith in
    ap (λ (ps : List MovedPoint). p ∷ ps) (split_at points at (omega arith))
    ∙ ap (λ n. p ∷ (take at points ++ point_at points at ∷ drop n (p ∷ points))) next

-- the walk over the points so far with the next one's mark
abbrev onward : List MovedPoint → ℕ → ℕ → ℕ → Bool → Walk
onward points first start at mark = step (reached points first start at)
    (marked (point_at points at) mark)

walk_onward : (points : List MovedPoint) (marks : List Bool) (first start at : ℕ) (mark : Bool)
    (rest : List MovedPoint) → IsReached points marks first start at → at < length points
    → walk (none_yet []) (with_marks (take at points ++ point_at points at ∷ rest)
    (marks ++ mark ∷ [])) ≡ walk (onward points first start at mark) (with_marks rest [])
walk_onward points marks first start at mark rest so within =
    let front : List MovedPoint = take at points in
    let as_many : length marks ≡ length front = so.as_many
    ∙ sym (length-take-le at points (omega arith)) in
    let tail : List MarkedPoint = marked (point_at points at) mark ∷ with_marks rest [] in
    ap (walk (none_yet [])) (with_marks-append front (point_at points at ∷ rest) marks (mark ∷ [])
    as_many)
    ∙ walk-append (none_yet []) (with_marks front marks) tail
    ∙ ap (λ w. walk w tail) so.walked

-- the next point can be left out exactly where the walk from there ends well
can_onward : (points : List MovedPoint) (marks : List Bool) (first start at : ℕ)
    → IsReached points marks first start at → at < length points
    → can_be_left_out points marks ≡ finish
    (walk (onward points first start at true) (with_marks (drop (at + 1) points) []))
can_onward points marks first start at so within =
    all_exact-walk (with_marks points (marks ++ true ∷ []))
    ∙ ap (λ ps. finish (walk (none_yet []) (with_marks ps (marks ++ true ∷ []))))
    (split_at points at within)
    ∙ ap finish (walk_onward points marks first start at true (drop (at + 1) points) so within)

-- one more point in a run
run_more : (points : List MovedPoint) (start at : ℕ) → start ≤ at → at < length points
    → take (at - start) (drop start points) ++ point_at points at ∷ [] ≡ run_of points start at
run_more points start at begun within =
    let rest : List MovedPoint = drop start points in
    let here : get_or rest (at - start) no_point
    ≡ point_at points at = get_or-drop start points (at - start) no_point
    ∙ ap (point_at points) (omega arith) in
    let next : at - start + 1 ≡ at + 1 - start = omega arith in
    ap (λ p. take (at - start) rest ++ p ∷ []) (sym here)
    ∙ sym (take_more rest (at - start) no_point (omega (arith, length-drop start points)))
    ∙ ap (λ n. take n rest) next

-- ---- the last point of all, and the next one

last_after : (points : List MovedPoint) (at : ℕ) (next : MovedPoint) (others : List MovedPoint)
    → drop (at + 1) points ≡ next ∷ others
    → last_of next others ≡ point_at points (length points - 1)
last_after points at next others e =
    let count : length points - (at + 1) ≡ suc (length others) = sym (length-drop (at + 1) points)
    ∙ ap length e in
    last_of-at next others
    ∙ ap (λ ps. get_or ps (length others) no_point) (sym e)
    ∙ get_or-drop (at + 1) points (length others) no_point
    ∙ ap (point_at points) (omega arith)

next_after : (points : List MovedPoint) (at : ℕ) (next : MovedPoint) (others : List MovedPoint)
    → drop (at + 1) points ≡ next ∷ others → next ≡ point_at points (at + 1)
next_after points at next others e =
    ap (λ ps. get_or ps 0 no_point) (sym e) ∙ get_or-drop (at + 1) points 0 no_point
    ∙ ap (point_at points) (omega arith)

before_first : (points : List MovedPoint) (before : ℕ)
    → point_before points (suc before) ≡ point_at points before
before_first points before =
    let test : (suc before == 0) ≡ false = grind (arith, nat_tests) in
    ap (λ b. if b then point_at points (length points - 1) else point_at points (suc before - 1))
    test ∙ ap (point_at points) (omega arith)

run_first : (points : List MovedPoint) (at : ℕ) → at < length points
    → take at points ++ point_at points at ∷ [] ≡ run_of points 0 at
run_first points at within = sym (take_more points at no_point within)
    ∙ ap (λ n. take n points) (omega arith)

-- ---- what one try answers

abbrev all_in : MovedPoint → MovedPoint → List MovedPoint → Bool
all_in before after points = list_all (is_between before after) points

-- where points follow
fits_inside : (points : List MovedPoint) (marks : List Bool) (first start at : ℕ)
    (next : MovedPoint) (others : List MovedPoint) → IsReached points marks first start at
    → at < length points → drop (at + 1) points ≡ next ∷ others
    → can_be_left_out points marks ≡ all_in (point_before points start) (point_at points (at + 1))
    (run_of points start at)
fits_inside points marks first zero at next others so within e =
    let run : List MovedPoint = take at points ++ point_at points at ∷ [] in
    can_onward points marks first zero at so within
    ∙ ap (λ ps. finish (walk (none_yet run) (with_marks ps []))) e
    ∙ ap finish (walk-named run next true next others)
    ∙ ap (λ z. all_in z next run) (last_after points at next others e)
    ∙ ap (λ n. all_in (point_before points 0) n run) (next_after points at next others e)
    ∙ ap (all_in (point_before points 0) (point_at points (at + 1))) (run_first points at within)
fits_inside points marks first (suc before) at next others so within e =
    let front : List MovedPoint = take first points in
    let first_point : MovedPoint = point_at points first in
    let run : List MovedPoint = take (at - suc before) (drop (suc before) points)
    ++ point_at points at ∷ [] in
    let q : MovedPoint = point_at points before in
    can_onward points marks first (suc before) at so within
    ∙ ap (λ ps. finish (walk (some_named front first_point true q run) (with_marks ps []))) e
    ∙ ap finish (walk-named front first_point (all_in q next run) next others)
    ∙ ap (λ z. all_in q next run && all_in z first_point front) (last_after points at next others e)
    ∙ ap (λ b. all_in q next run && b) (so.front (omega arith))
    ∙ and-true (all_in q next run)
    ∙ ap (λ n. all_in q n run) (next_after points at next others e)
    ∙ ap (all_in q (point_at points (at + 1))) (run_more points (suc before) at so.begun within)
    ∙ ap (λ b. all_in b (point_at points (at + 1)) (run_of points (suc before) at))
    (sym (before_first points before))

-- and at the contour's end
fits_last : (points : List MovedPoint) (marks : List Bool) (first start at : ℕ)
    → IsReached points marks first start at → at < length points → drop (at + 1) points ≡ []
    → can_be_left_out points marks ≡ (if start == 0 then list_all is_still (run_of points start at)
    else (all_in (point_at points (start - 1)) (point_at points first) (run_of points start at)
    && all_in (point_at points (start - 1)) (point_at points first) (take first points)))
fits_last points marks first zero at so within e =
    let run : List MovedPoint = take at points ++ point_at points at ∷ [] in
    can_onward points marks first zero at so within
    ∙ ap (λ ps. finish (walk (none_yet run) (with_marks ps []))) e
    ∙ ap (list_all is_still) (run_first points at within)
fits_last points marks first (suc before) at so within e =
    let front : List MovedPoint = take first points in
    let first_point : MovedPoint = point_at points first in
    let q : MovedPoint = point_at points before in
    let run : List MovedPoint = take (at - suc before) (drop (suc before) points)
    ++ point_at points at ∷ [] in
    let whole = run_more points (suc before) at so.begun within in
    let fewer : before ≡ suc before - 1 = omega arith in
    let test : (suc before == 0) ≡ false = grind (arith, nat_tests) in
    can_onward points marks first (suc before) at so within
    ∙ ap (λ ps. finish (walk (some_named front first_point true q run) (with_marks ps []))) e
    ∙ list_all-append (is_between q first_point) run front
    ∙ ap (λ r. all_in q first_point r && all_in q first_point front) whole
    ∙ ap (λ k. all_in (point_at points k) first_point (run_of points (suc before) at)
    && all_in (point_at points k) first_point front) fewer
    ∙ ap (λ b. if b then list_all is_still (run_of points (suc before) at) else
    (all_in (point_at points (suc before - 1)) first_point (run_of points (suc before) at)
    && all_in (point_at points (suc before - 1)) first_point front)) (sym test)

-- the run's test tells whether the next point can be left out
pub run_fits-can : (points : List MovedPoint) (marks : List Bool) (first start at : ℕ)
    → IsReached points marks first start at → at < length points
    → run_fits points first start at ≡ can_be_left_out points marks
run_fits-can points marks first start at so within =
    let within_rest : length (drop (at + 1) points)
    ≡ length points - (at + 1) = length-drop (at + 1) points in
    elim (drop (at + 1) points) as (λ rest. drop (at + 1) points ≡ rest
    → run_fits points first start at ≡ can_be_left_out points marks) [
      | [] ↦ λ e.
          let none : length (drop (at + 1) points) ≡ 0 = ap length e in
          let last : nat_lt at (length points - 1) ≡ false = grind (arith, nat_tests) in
          ap (λ b. if b then all_in (point_before points start) (point_at points (at + 1))
          (run_of points start at) else (if start == 0 then list_all is_still
          (run_of points start at) else (all_in (point_at points (start - 1))
          (point_at points first) (run_of points start at)
          && all_in (point_at points (start - 1)) (point_at points first) (take first points))))
          last
          ∙ sym (fits_last points marks first start at so within e)
      | (next ∷ others) ↦ λ e.
          let some : length (drop (at + 1) points) ≡ suc (length others) = ap length e in
          let more : nat_lt at (length points - 1) ≡ true = grind (arith, nat_tests) in
          ap (λ b. if b then all_in (point_before points start) (point_at points (at + 1))
          (run_of points start at) else (if start == 0 then list_all is_still
          (run_of points start at) else (all_in (point_at points (start - 1))
          (point_at points first) (run_of points start at)
          && all_in (point_at points (start - 1)) (point_at points first) (take first points))))
          more
          ∙ sym (fits_inside points marks first start at next others so within e)
    ] refl

-- the run's test inside the contour, as the next step needs it
run_fits-inside : (points : List MovedPoint) (first start at : ℕ) → at + 1 < length points
    → run_fits points first start at ≡ all_in (point_before points start) (point_at points (at + 1))
    (run_of points start at)
run_fits-inside points first start at more =
    let test : nat_lt at (length points - 1) ≡ true = grind (arith, nat_tests) in
    ap (λ b. if b then all_in (point_before points start) (point_at points (at + 1))
    (run_of points start at) else (if start == 0 then list_all is_still (run_of points start at)
    else (all_in (point_at points (start - 1)) (point_at points first) (run_of points start at)
    && all_in (point_at points (start - 1)) (point_at points first) (take first points)))) test

-- ---- one step of the search

walked_on : (points : List MovedPoint) (marks : List Bool) (first start at : ℕ) (mark : Bool)
    → IsReached points marks first start at → at < length points
    → walk (none_yet []) (with_marks (take (at + 1) points) (marks ++ mark ∷ []))
    ≡ onward points first start at mark
walked_on points marks first start at mark so within =
    ap (λ ps. walk (none_yet []) (with_marks ps (marks ++ mark ∷ [])))
    (take_more points at no_point within)
    ∙ walk_onward points marks first start at mark [] so within

-- the point is left out
left_out_walk : (points : List MovedPoint) (first start at : ℕ) → start ≤ at → at < length points
    → onward points first start at true ≡ reached points first start (at + 1)
left_out_walk points first zero at begun within
    = ap none_yet (sym (take_more points at no_point within))
left_out_walk points first (suc before) at begun within =
    ap (some_named (take first points) (point_at points first) true (point_at points before))
    (run_more points (suc before) at begun within)

pub left_out_next : (points : List MovedPoint) (marks : List Bool) (first start at : ℕ)
    → IsReached points marks first start at → at < length points
    → run_fits points first start at ≡ true
    → IsReached points (marks ++ true ∷ []) first start (at + 1)
left_out_next points marks first start at so within fits = record {
  as_many = omega (arith, so.as_many, length-append marks (true ∷ []));
  begun = omega (arith, so.begun);
  front_begun = omega (arith, so.front_begun);
  walked = walked_on points marks first start at true so within
      ∙ left_out_walk points first start at so.begun within;
  ready = λ more. sym (run_fits-inside points first start at more) ∙ fits;
  front = so.front;
}

-- the point is named, and is the first that is
pub first_next : (points : List MovedPoint) (marks : List Bool) (first at : ℕ)
    → IsReached points marks first 0 at → at < length points
    → IsReached points (marks ++ false ∷ []) at (at + 1) (at + 1)
first_next points marks first at so within =
    let none : suc at ≡ at + 1 = omega arith in
    let same : at ≡ at - 0 = omega arith in
    let nothing : (n : ℕ) (ps : List MovedPoint) → n ≡ 0
    → take n ps ≡ [] = λ n ps e. ap (λ k. take k ps) e in
    record {
      as_many = omega (arith, so.as_many, length-append marks (false ∷ []));
      begun = omega arith;
      front_begun = omega arith;
      walked =
          walked_on points marks first 0 at false so within
          ∙ ap (some_named (take at points) (point_at points at) true (point_at points at))
          (sym (nothing (at + 1 - suc at) (drop (suc at) points) (omega arith)))
          ∙ ap (λ n. reached points at n (at + 1)) none;
      ready = λ more. ap (all_in (point_before points (at + 1)) (point_at points (at + 1)))
          (nothing (at + 1 - (at + 1)) (drop (at + 1) points) (omega arith));
      front = λ some. ap (λ n. all_in (point_at points (length points - 1)) (point_at points at)
          (take n points)) same ∙ so.ready within;
    }

-- or another was before it
pub named_next : (points : List MovedPoint) (marks : List Bool) (first before at : ℕ)
    → IsReached points marks first (suc before) at → at < length points
    → IsReached points (marks ++ false ∷ []) first (at + 1) (at + 1)
named_next points marks first before at so within =
    let none : suc at ≡ at + 1 = omega arith in
    let nothing : (n : ℕ) (ps : List MovedPoint) → n ≡ 0
    → take n ps ≡ [] = λ n ps e. ap (λ k. take k ps) e in
    record {
      as_many = omega (arith, so.as_many, length-append marks (false ∷ []));
      begun = omega arith;
      front_begun = omega (arith, so.front_begun);
      walked =
          walked_on points marks first (suc before) at false so within
          ∙ ap (λ b. some_named (take first points) (point_at points first) b (point_at points at)
          []) (ap (λ p. all_in p (point_at points at)
          (take (at - suc before) (drop (suc before) points)))
          (sym (before_first points before)) ∙ so.ready within)
          ∙ ap (some_named (take first points) (point_at points first) true (point_at points at))
          (sym (nothing (at + 1 - suc at) (drop (suc at) points) (omega arith)))
          ∙ ap (λ n. reached points first n (at + 1)) none;
      ready = λ more. ap (all_in (point_before points (at + 1)) (point_at points (at + 1)))
          (nothing (at + 1 - (at + 1)) (drop (at + 1) points) (omega arith));
      front = λ some. so.front (omega arith);
    }

-- ---- the whole search

pub record IsTried (points : List MovedPoint) (old items : List Bool) (first start at : ℕ)
    : Type 0 where
  pub marks : List Bool
  pub added : items ≡ old ++ marks
  pub told : marks_after points marks (drop at points) ≡ contour_marks points
  pub so : IsReached points marks first start at

pub tried_first : (points : List MovedPoint) (old : List Bool) → IsTried points old old 0 0 0
tried_first points old = record {
  marks = [];
  added = sym (append-nil old);
  told = refl;
  so = record {
    as_many = refl;
    begun = omega arith;
    front_begun = omega arith;
    walked = refl;
    ready = λ within. refl;
    front = λ some. absurd (omega arith);
  };
}

told_on : (points : List MovedPoint) (marks : List Bool) (at : ℕ) (mark : Bool) → at < length points
    → mark ≡ can_be_left_out points marks → marks_after points marks (drop at points)
    ≡ contour_marks points → marks_after points (marks ++ mark ∷ []) (drop (at + 1) points)
    ≡ contour_marks points
told_on points marks at mark within is told =
    ap (λ m. marks_after points (marks ++ m ∷ []) (drop (at + 1) points)) is
    ∙ sym (at_drop_more (marks_after points marks) points at no_point within)
    ∙ told

is_tried : (points : List MovedPoint) (old items : List Bool) (first start at first' start' : ℕ)
    (mark : Bool) (new : List Bool) (was : IsTried points old items first start at)
    → at < length points → new ≡ items ++ mark ∷ [] → mark ≡ run_fits points first start at
    → IsReached points (was.marks ++ mark ∷ []) first' start' (at + 1)
    → IsTried points old new first' start' (at + 1)
is_tried points old items first start at first' start' mark new was within e is next = record {
  marks = was.marks ++ mark ∷ [];
  added = e ∙ ap (λ ms. ms ++ mark ∷ []) was.added ∙ append_assoc old was.marks (mark ∷ []);
  told = told_on points was.marks at mark within
      (is ∙ run_fits-can points was.marks first start at was.so within) was.told;
  so = next;
}

tried_named : (points : List MovedPoint) (old items new : List Bool) (first start at : ℕ)
    → IsTried points old items first start at → at < length points → new ≡ items ++ false ∷ []
    → false ≡ run_fits points first start at
    → IsTried points old new (if start == 0 then at else first) (at + 1) (at + 1)
tried_named points old items new first zero at was within e is =
    is_tried points old items first 0 at at (at + 1) false new was within e is
    (first_next points was.marks first at was.so within)
tried_named points old items new first (suc before) at was within e is =
    let test : (suc before == 0) ≡ false = grind (arith, nat_tests) in
    let P : Bool → Type 0 = λ b. IsTried points old new (if b then at else first) (at + 1) (at + 1)
    in
    subst P (sym test) (is_tried points old items first (suc before) at first (at + 1) false new was
    within e is (named_next points was.marks first before at was.so within))

-- a mark more
pub tried_next : (points : List MovedPoint) (old items new : List Bool) (run : Run) (at : ℕ)
    (mark : Bool) → IsTried points old items run.first run.start at → at < length points
    → new ≡ items ++ mark ∷ [] → mark ≡ run_fits points run.first run.start at
    → IsTried points old new (run_after run at mark).first (run_after run at mark).start (at + 1)
tried_next points old items new run at true was within e is =
    is_tried points old items run.first run.start at run.first run.start true new was within e is
    (left_out_next points was.marks run.first run.start at was.so within (sym is))
tried_next points old items new run at false was within e is =
    tried_named points old items new run.first run.start at was within e is

pub tried_all : (points : List MovedPoint) (old items : List Bool) (first start at : ℕ)
    → IsTried points old items first start at → length points ≤ at
    → items ≡ old ++ contour_marks points
tried_all points old items first start at was past =
    was.added ∙ ap (λ ms. old ++ ms) (ap (marks_after points was.marks)
    (sym (drop_all at points past)) ∙ was.told)
