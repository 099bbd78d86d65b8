-- Where no point moves, each point is left out.
use Rattle.std.proofs.Common.{◌≡◌, ℕ, ◌+◌, ◌-◌, ◌/◌, Bool, true, false, ◌&&◌, List, [], ◌∷◌, ◌++◌}
use Rattle.std.proofs.Common.{length, take, replicate, refl, sym, ap, ◌∙◌, arith, append_assoc}
use Rattle.std.proofs.Common.{append-nil, ℤ, pos, negsuc, ◌+ℤ◌, ◌-ℤ◌, ◌*ℤ◌, neg_ℤ, int_le, int_lt}
use Rattle.std.specs.Prelude.{if◌then◌else◌}
use Rattle.std.specs.List.{list_all}
use Rattle.std.specs.Ordering.{int_eq}
use Rattle.std.proofs.lemmas.Int.{ints}
use Rattle.std.proofs.lemmas.List.{take_all}
use Rattle.std.proofs.lemmas.List.Folds.{list_all-append}
use Rattle.std.proofs.lemmas.Bool.Decides.{Decides-int_eq}
use Rattle.fixed_math.specs.FixedPoint.{floor_quotient}
use Rattle.delta_infer.specs.declared.moved.MovedPoint.{MovedPoint}
use Rattle.delta_infer.specs.declared.moved.Move.{Move}
use Rattle.delta_infer.specs.Moved.{move_in_x, move_in_y}
use Rattle.delta_infer.specs.Inferred.{MarkedPoint, inferred_between, inferred_rising, mean, named}
use Rattle.delta_infer.specs.Omitted.{with_marks, can_be_left_out, marks_after, contour_marks}
use Rattle.delta_infer.specs.Parts.{is_between, is_still}
use Rattle.delta_infer.proofs.Walks.{Walk, none_yet, some_named, step, walk, finish, all_between}
use Rattle.delta_infer.proofs.Walks.{all_exact-walk}

left : (a b : Bool) → (a && b) ≡ true → a ≡ true
left true b e = refl
left false b e = e

right : (a b : Bool) → (a && b) ≡ true → b ≡ true
right true b e = e
right false b e = cc

both : (a b : Bool) → a ≡ true → b ≡ true → (a && b) ≡ true
both a b e f = ap (λ x. x && b) e ∙ f

if_same : (t : Bool) (x y v : ℤ) → x ≡ v → y ≡ v → (if t then x else y) ≡ v
if_same true x y v e f = e
if_same false x y v e f = f

no_product : (z : ℤ) → (pos 0 *ℤ z) ≡ pos 0
no_product z = omega (arith, ints)

no_quotient : (w : ℤ) → floor_quotient (pos 0) w ≡ pos 0
no_quotient (pos d) = omega (arith, ints)
no_quotient (negsuc d) = omega (arith, ints)

abbrev unmoved : ℤ → Move
unmoved a = record { at = a; delta = pos 0 }

mean_still : (a b c : ℤ) → mean (unmoved a) (unmoved b) c ≡ pos 0
mean_still a b c =
    ap (λ z. floor_quotient (pos 65536 *ℤ (z +ℤ (pos 0 *ℤ (c -ℤ a)))) (b -ℤ a))
    (no_product (b -ℤ c))
    ∙ ap (λ z. floor_quotient (pos 65536 *ℤ (pos 0 +ℤ z)) (b -ℤ a)) (no_product (c -ℤ a))
    ∙ no_quotient (b -ℤ a)

rising_still : (a b c : ℤ) → inferred_rising (unmoved a) (unmoved b) c ≡ pos 0
rising_still a b c =
    if_same (int_le c a) (pos 0) (if int_le b c then pos 0 else mean (unmoved a) (unmoved b) c)
    (pos 0) refl
    (if_same (int_le b c) (pos 0) (mean (unmoved a) (unmoved b) c) (pos 0) refl (mean_still a b c))

between_still : (a b c : ℤ) → inferred_between (unmoved a) (unmoved b) c ≡ pos 0
between_still a b c =
    if_same (int_lt a b) (inferred_rising (unmoved a) (unmoved b) c)
    (if int_lt b a then inferred_rising (unmoved b) (unmoved a) c else pos 0) (pos 0)
    (rising_still a b c)
    (if_same (int_lt b a) (inferred_rising (unmoved b) (unmoved a) c) (pos 0) (pos 0)
    (rising_still b a c) refl)

none_of : (z : ℤ) → int_eq (pos 0) (pos 65536 *ℤ z) ≡ true → z ≡ pos 0
none_of z e = let same : pos 0 ≡ (pos 65536 *ℤ z) = (Decides-int_eq (pos 0) (pos 65536 *ℤ z)).0 e
    in omega (arith, ints)

still_x : (p : MovedPoint) → is_still p ≡ true → p.dx ≡ pos 0
still_x p e = none_of p.dx (left (int_eq (pos 0) (pos 65536 *ℤ p.dx))
    (int_eq (pos 0) (pos 65536 *ℤ p.dy)) e)

still_y : (p : MovedPoint) → is_still p ≡ true → p.dy ≡ pos 0
still_y p e = none_of p.dy (right (int_eq (pos 0) (pos 65536 *ℤ p.dx))
    (int_eq (pos 0) (pos 65536 *ℤ p.dy)) e)

abbrev moving : ℤ → ℤ → Move
moving a d = record { at = a; delta = d }

inferred_still : (a b c d e z : ℤ) → d ≡ pos 0 → e ≡ pos 0 → z ≡ pos 0
    → int_eq (inferred_between (moving a d) (moving b e) c) (pos 65536 *ℤ z) ≡ true
inferred_still a b c d e z f g h =
    ap (λ k. int_eq (inferred_between (moving a k) (moving b e) c) (pos 65536 *ℤ z)) f
    ∙ ap (λ k. int_eq (inferred_between (moving a (pos 0)) (moving b k) c) (pos 65536 *ℤ z)) g
    ∙ ap (λ k. int_eq (inferred_between (unmoved a) (unmoved b) c) (pos 65536 *ℤ k)) h
    ∙ ap (λ k. int_eq k (pos 0)) (between_still a b c)

is_between_still : (b a p : MovedPoint) → is_still b ≡ true → is_still a ≡ true → is_still p ≡ true
    → is_between b a p ≡ true
is_between_still b a p e f g =
    both (int_eq (inferred_between (move_in_x b) (move_in_x a) p.x) (pos 65536 *ℤ p.dx))
    (int_eq (inferred_between (move_in_y b) (move_in_y a) p.y) (pos 65536 *ℤ p.dy))
    (inferred_still b.x a.x p.x b.dx a.dx p.dx (still_x b e) (still_x a f) (still_x p g))
    (inferred_still b.y a.y p.y b.dy a.dy p.dy (still_y b e) (still_y a f) (still_y p g))

all_between_still : (b a : MovedPoint) (points : List MovedPoint) → is_still b ≡ true
    → is_still a ≡ true → list_all is_still points ≡ true → all_between b a points ≡ true
all_between_still b a [] e f g = refl
all_between_still b a (p ∷ points) e f g =
    both (is_between b a p) (all_between b a points)
    (is_between_still b a p e f (left (is_still p) (list_all is_still points) g))
    (all_between_still b a points e f (right (is_still p) (list_all is_still points) g))

record AreStill (front : List MovedPoint) (first : MovedPoint) (ok : Bool) (before : MovedPoint)
    (run : List MovedPoint) : Type 0 where
  front_still : list_all is_still front ≡ true
  first_still : is_still first ≡ true
  all_ok : ok ≡ true
  before_still : is_still before ≡ true
  run_still : list_all is_still run ≡ true

abbrev IsStillWalk : Walk → Type 0
IsStillWalk (none_yet run) = list_all is_still run ≡ true
IsStillWalk (some_named front first ok before run) = AreStill front first ok before run

one_more : (points : List MovedPoint) (p : MovedPoint) → list_all is_still points ≡ true
    → is_still p ≡ true → list_all is_still (points ++ p ∷ []) ≡ true
one_more points p e f = list_all-append is_still points (p ∷ [])
    ∙ both (list_all is_still points) (is_still p && true) e (both (is_still p) true f refl)

step_still : (w : Walk) (p : MovedPoint) (mark : Bool) → IsStillWalk w → is_still p ≡ true
    → IsStillWalk (step w (record { point = p; left_out = mark }))
step_still (none_yet run) p true so e = one_more run p so e
step_still (none_yet run) p false so e = record
    { front_still = so; first_still = e; all_ok = refl; before_still = e; run_still = refl }
step_still (some_named front first ok before run) p true so e =
    record {
      front_still = so.front_still;
      first_still = so.first_still;
      all_ok
          = so.all_ok;
      before_still = so.before_still;
      run_still = one_more run p so.run_still e;
    }
step_still (some_named front first ok before run) p false so e =
    record {
      front_still = so.front_still;
      first_still = so.first_still;
      all_ok = both ok (all_between before p run) so.all_ok
          (all_between_still before p run so.before_still e so.run_still);
      before_still = e;
      run_still = refl;
    }

walk_still : (w : Walk) (points : List MovedPoint) (marks : List Bool) → IsStillWalk w
    → list_all is_still points ≡ true → IsStillWalk (walk w (with_marks points marks))
walk_still w [] marks so e = so
walk_still w (p ∷ points) [] so e =
    let own = left (is_still p) (list_all is_still points) e in
    walk_still (step w (named p)) points [] (step_still w p false so own)
    (right (is_still p) (list_all is_still points) e)
walk_still w (p ∷ points) (m ∷ marks) so e =
    let own = left (is_still p) (list_all is_still points) e in
    walk_still (step w (record { point = p; left_out = m })) points marks (step_still w p m so own)
    (right (is_still p) (list_all is_still points) e)

finish_still : (w : Walk) → IsStillWalk w → finish w ≡ true
finish_still (none_yet run) so = so
finish_still (some_named front first ok before run) so =
    both ok (all_between before first (run ++ front)) so.all_ok
    (all_between_still before first (run ++ front) so.before_still so.first_still
    (list_all-append is_still run front ∙ both (list_all is_still run) (list_all is_still front)
    so.run_still so.front_still))

can_still : (points : List MovedPoint) (marks : List Bool) → list_all is_still points ≡ true
    → can_be_left_out points marks ≡ true
can_still points marks e =
    all_exact-walk (with_marks points (marks ++ true ∷ []))
    ∙ finish_still (walk (none_yet []) (with_marks points (marks ++ true ∷ [])))
    (walk_still (none_yet []) points (marks ++ true ∷ []) refl e)

after_still : (points : List MovedPoint) (marks : List Bool) (rest : List MovedPoint)
    → list_all is_still points ≡ true → marks_after points marks rest
    ≡ marks ++ replicate (length rest) true
after_still points marks [] e = sym (append-nil marks)
after_still points marks (p ∷ rest) e =
    ap (λ m. marks_after points (marks ++ m ∷ []) rest) (can_still points marks e)
    ∙ after_still points (marks ++ true ∷ []) rest e
    ∙ append_assoc marks (true ∷ []) (replicate (length rest) true)

pub marks_still : (points : List MovedPoint) → list_all is_still points ≡ true
    → contour_marks points ≡ replicate (length points) true
marks_still points e = after_still points [] points e

-- a list that is filled up
pub filled : (old : List Bool) (n m : ℕ) → n ≡ length old + m
    → take n old ++ replicate (n - length old) true ≡ old ++ replicate m true
filled old n m e =
    let more : n - length old ≡ m = omega arith in
    ap (λ xs. xs ++ replicate (n - length old) true) (take_all n old (omega arith))
    ∙ ap (λ k. old ++ replicate k true) more
