-- A walk along a contour that keeps, of the points so far, only what the later ones need: those
-- before the first named point, that point, whether the runs between named points are exact, the
-- last named point, and the run after it.
use Rattle.std.proofs.Common.{◌≡◌, Bool, true, false, ◌&&◌, List, [], ◌∷◌, ◌++◌, refl, sym, ap, ◌∙◌}
use Rattle.std.proofs.Common.{Option, Some, None, append_assoc, append-nil, ℤ, pos, ◌*ℤ◌}
use Rattle.std.specs.List.{list_all}
use Rattle.std.specs.Prelude.{if◌then◌else◌}
use Rattle.std.specs.Ordering.{int_eq}
use Rattle.std.proofs.lemmas.List.Folds.{list_all-append}
use Rattle.delta_infer.specs.declared.moved.MovedPoint.{MovedPoint}
use Rattle.delta_infer.specs.declared.moved.Move.{Move}
use Rattle.delta_infer.specs.Moved.{move_in_x, move_in_y}
use Rattle.delta_infer.specs.Inferred.{MarkedPoint, named, or_else, first_named, last_named}
use Rattle.delta_infer.specs.Inferred.{inferred_from, inferred, is_exact, all_exact_after}
use Rattle.delta_infer.specs.Inferred.{all_exact}
use Rattle.delta_infer.specs.Parts.{is_between, is_still}

-- ---- tests and options

and-true : (a : Bool) → (a && true) ≡ a
and-true true = refl
and-true false = refl

and_assoc : (a b c : Bool) → ((a && b) && c) ≡ (a && (b && c))
and_assoc true b c = refl
and_assoc false b c = refl

and_comm : (a b : Bool) → (a && b) ≡ (b && a)
and_comm true true = refl
and_comm true false = refl
and_comm false true = refl
and_comm false false = refl

and_shift : (a b c d : Bool) → ((a && (b && true)) && (c && d)) ≡ (a && ((b && c) && d))
and_shift true true c d = refl
and_shift true false c d = refl
and_shift false b c d = refl

or_else-none : (o : Option MovedPoint) → or_else o None ≡ o
or_else-none (Some p) = refl
or_else-none None = refl

or_else-assoc : (a b c : Option MovedPoint) → or_else (or_else a b) c ≡ or_else a (or_else b c)
or_else-assoc (Some p) b c = refl
or_else-assoc None b c = refl

abbrev pub or_point : Option MovedPoint → MovedPoint → MovedPoint
or_point (Some point) other = point
or_point None other = other

turned : (a b : Option MovedPoint) (p : MovedPoint) → or_else a b ≡ Some p
    → or_else b a ≡ Some (or_point b p)
turned a (Some q) p e = refl
turned a None p e = sym (or_else-none a) ∙ e

none_left : (a b : Option MovedPoint) → or_else a b ≡ None → a ≡ None
none_left None b e = refl
none_left (Some p) b e = cc

none_right : (a b : Option MovedPoint) → or_else a b ≡ None → b ≡ None
none_right None b e = e
none_right (Some p) b e = cc

none_both : (a b : Option MovedPoint) → a ≡ None → b ≡ None → or_else a b ≡ None
none_both None b e f = f
none_both (Some p) b e f = cc

or_point-some : (o : Option MovedPoint) (p q : MovedPoint) → o ≡ Some p → or_point o q ≡ p
or_point-some o p q e = ap (λ x. or_point x q) e

or_point-or_else : (o : Option MovedPoint) (p b : MovedPoint)
    → or_point (or_else o (Some p)) b ≡ or_point o p
or_point-or_else (Some q) p b = refl
or_point-or_else None p b = refl

or_else-last : (o : Option MovedPoint) (p : MovedPoint) → or_else o (Some p) ≡ Some (or_point o p)
or_else-last (Some q) p = refl
or_else-last None p = refl

-- ---- the first and the last named point

pub first_named-append : (xs ys : List MarkedPoint)
    → first_named (xs ++ ys) ≡ or_else (first_named xs) (first_named ys)
first_named-append [] ys = refl
first_named-append (m ∷ xs) ys =
    elim m.left_out as (λ v. (if v then first_named (xs ++ ys) else Some m.point)
    ≡ or_else (if v then first_named xs else Some m.point) (first_named ys)) [
      | true ↦ first_named-append xs ys
      | false ↦ refl
    ]

pub last_named-append : (xs ys : List MarkedPoint)
    → last_named (xs ++ ys) ≡ or_else (last_named ys) (last_named xs)
last_named-append [] ys = sym (or_else-none (last_named ys))
last_named-append (m ∷ xs) ys =
    let own : Option MovedPoint = if m.left_out then None else Some m.point in
    ap (λ o. or_else o own) (last_named-append xs ys)
    ∙ or_else-assoc (last_named ys) (last_named xs) own

-- where none is the first, none is the last, and the other way round
last_none : (xs : List MarkedPoint) → first_named xs ≡ None → last_named xs ≡ None
last_none [] e = refl
last_none (m ∷ xs) e =
    elim m.left_out as (λ v. (if v then first_named xs else Some m.point) ≡ None
    → or_else (last_named xs) (if v then None else Some m.point) ≡ None) [
      | true ↦ λ f. or_else-none (last_named xs) ∙ last_none xs f
      | false ↦ λ f. cc
    ] e

last_some : (xs : List MarkedPoint) (f : MovedPoint) → first_named xs ≡ Some f
    → (l : MovedPoint) × (last_named xs ≡ Some l)
last_some [] f e = cc
last_some (m ∷ xs) f e =
    elim m.left_out as (λ v. (if v then first_named xs else Some m.point) ≡ Some f
    → (l : MovedPoint) × (or_else (last_named xs) (if v then None else Some m.point) ≡ Some l)) [
      | true ↦ λ g. let rest = last_some xs f g in (rest.0, or_else-none (last_named xs) ∙ rest.1)
      | false ↦ λ g. (or_point (last_named xs) m.point, or_else-last (last_named xs) m.point)
    ] e

-- ---- one pass, by the named points around

abbrev pub all_between : MovedPoint → MovedPoint → List MovedPoint → Bool
all_between before after points = list_all (is_between before after) points

abbrev pub fits_from : MovedPoint → MovedPoint → List MarkedPoint → Bool
fits_from before first [] = true
fits_from before first (m ∷ rest) =
    if m.left_out then is_between before (or_point (first_named rest) first) m.point
    && fits_from before first rest else fits_from m.point first rest

-- the test of a point by its two options
abbrev exact_by : Option MovedPoint → Option MovedPoint → MovedPoint → Bool
exact_by before after point =
    int_eq (inferred_from move_in_x before after point.x) (pos 65536 *ℤ point.dx)
    && int_eq (inferred_from move_in_y before after point.y) (pos 65536 *ℤ point.dy)

exact_between : (others : List MarkedPoint) (before after point : MovedPoint)
    → last_named others ≡ Some before → first_named others ≡ Some after
    → is_exact others point ≡ is_between before after point
exact_between others before after point e f =
    ap (λ o. exact_by o (first_named others) point) e ∙ ap (λ o. exact_by (Some before) o point) f

inferred-none : (axis : MovedPoint → Move) (before : Option MovedPoint) (c : ℤ)
    → inferred_from axis before None c ≡ pos 0
inferred-none axis (Some p) c = refl
inferred-none axis None c = refl

exact_still : (others : List MarkedPoint) (point : MovedPoint) → first_named others ≡ None
    → is_exact others point ≡ is_still point
exact_still others point e =
    ap (λ o. exact_by (last_named others) o point) e
    ∙ ap (λ z. int_eq z (pos 65536 *ℤ point.dx)
    && int_eq (inferred_from move_in_y (last_named others) None point.y)
    (pos 65536 *ℤ point.dy)) (inferred-none move_in_x (last_named others) point.x)
    ∙ ap (λ z. int_eq (pos 0) (pos 65536 *ℤ point.dx) && int_eq z (pos 65536 *ℤ point.dy))
    (inferred-none move_in_y (last_named others) point.y)

all_exact-fits : (earlier rest : List MarkedPoint) (first last : MovedPoint)
    → first_named (earlier ++ rest) ≡ Some first → last_named (earlier ++ rest) ≡ Some last
    → all_exact_after earlier rest ≡ fits_from (or_point (last_named earlier) last) first rest
all_exact-fits earlier [] first last e f = refl
all_exact-fits earlier (m ∷ later) first last e f =
    let more : (earlier ++ m ∷ []) ++ later
    ≡ earlier ++ m ∷ later = append_assoc earlier (m ∷ []) later in
    let rest : all_exact_after (earlier ++ m ∷ []) later
    ≡ fits_from (or_point (last_named (earlier ++ m ∷ [])) last) first later =
    all_exact-fits (earlier ++ m ∷ []) later first last (ap first_named more ∙ e)
    (ap last_named more ∙ f) in
    let first_parts : or_else (first_named earlier) (first_named (m ∷ later))
    ≡ Some first = sym (first_named-append earlier (m ∷ later)) ∙ e in
    let last_parts : or_else (last_named (m ∷ later)) (last_named earlier)
    ≡ Some last = sym (last_named-append earlier (m ∷ later)) ∙ f in
    let before_more : last_named (earlier ++ m ∷ [])
    ≡ or_else (or_else None (if m.left_out then None else Some m.point)) (last_named earlier)
    = last_named-append earlier (m ∷ []) in
    elim m.left_out as (λ v. or_else (first_named earlier)
    (if v then first_named later else Some m.point) ≡ Some first
    → or_else (or_else (last_named later) (if v then None else Some m.point))
    (last_named earlier) ≡ Some last → last_named (earlier ++ m ∷ [])
    ≡ or_else (or_else None (if v then None else Some m.point)) (last_named earlier)
    → ((if v then is_exact (later ++ earlier) m.point else true)
    && all_exact_after (earlier ++ m ∷ []) later)
    ≡ (if v then is_between (or_point (last_named earlier) last)
    (or_point (first_named later) first) m.point
    && fits_from (or_point (last_named earlier) last) first later else fits_from m.point first
    later)) [
      | true ↦ λ g h b.
          let h2 : or_else (last_named later) (last_named earlier)
          ≡ Some last = ap (λ o. or_else o (last_named earlier))
          (sym (or_else-none (last_named later))) ∙ h in
          let after : first_named (later ++ earlier)
          ≡ Some (or_point (first_named later) first) = first_named-append later earlier
          ∙ turned (first_named earlier) (first_named later) first g in
          let before : last_named (later ++ earlier)
          ≡ Some (or_point (last_named earlier) last) = last_named-append later earlier
          ∙ turned (last_named later) (last_named earlier) last h2 in
          ap (λ x. x && all_exact_after (earlier ++ m ∷ []) later)
          (exact_between (later ++ earlier) (or_point (last_named earlier) last)
          (or_point (first_named later) first) m.point before after)
          ∙ ap (λ x. is_between (or_point (last_named earlier) last)
          (or_point (first_named later) first) m.point && x)
          (rest ∙ ap (λ o. fits_from (or_point o last) first later) b)
      | false ↦ λ g h b. rest ∙ ap (λ o. fits_from (or_point o last) first later) b
    ] first_parts last_parts before_more

abbrev points_of : List MarkedPoint → List MovedPoint
points_of [] = []
points_of (m ∷ rest) = m.point ∷ points_of rest

all_exact-still : (earlier rest : List MarkedPoint) → first_named (earlier ++ rest) ≡ None
    → all_exact_after earlier rest ≡ list_all is_still (points_of rest)
all_exact-still earlier [] e = refl
all_exact-still earlier (m ∷ later) e =
    let more : (earlier ++ m ∷ []) ++ later
    ≡ earlier ++ m ∷ later = append_assoc earlier (m ∷ []) later in
    let rest : all_exact_after (earlier ++ m ∷ []) later
    ≡ list_all is_still (points_of later)
    = all_exact-still (earlier ++ m ∷ []) later (ap first_named more ∙ e) in
    let parts : or_else (first_named earlier) (first_named (m ∷ later))
    ≡ None = sym (first_named-append earlier (m ∷ later)) ∙ e in
    let none_before : first_named earlier ≡ None
    = none_left (first_named earlier) (first_named (m ∷ later)) parts in
    elim m.left_out as (λ v. or_else (first_named earlier)
    (if v then first_named later else Some m.point) ≡ None
    → ((if v then is_exact (later ++ earlier) m.point else true)
    && all_exact_after (earlier ++ m ∷ []) later)
    ≡ (is_still m.point && list_all is_still (points_of later))) [
      | true ↦ λ g.
          let none_after : first_named later ≡ None
          = none_right (first_named earlier) (first_named later) g in
          let none : first_named (later ++ earlier) ≡ None = first_named-append later earlier
          ∙ none_both (first_named later) (first_named earlier) none_after none_before in
          ap (λ x. x && all_exact_after (earlier ++ m ∷ []) later)
          (exact_still (later ++ earlier) m.point none)
          ∙ ap (λ x. is_still m.point && x) rest
      | false ↦ λ g. let no : Some m.point ≡ None
          = none_right (first_named earlier) (Some m.point) g in cc
    ] parts

-- ---- the walk

pub data Walk : Type 0 where
  none_yet : List MovedPoint → Walk
  some_named : List MovedPoint → MovedPoint → Bool → MovedPoint → List MovedPoint → Walk

abbrev pub step : Walk → MarkedPoint → Walk
step (none_yet run) m = if m.left_out then none_yet (run ++ m.point ∷ []) else some_named run
    m.point true m.point []
step (some_named front first ok before run) m =
    if m.left_out then some_named front first ok before (run ++ m.point ∷ []) else some_named front
    first (ok && all_between before m.point run) m.point []

abbrev pub walk : Walk → List MarkedPoint → Walk
walk w [] = w
walk w (m ∷ rest) = walk (step w m) rest

abbrev pub finish : Walk → Bool
finish (none_yet run) = list_all is_still run
finish (some_named front first ok before run) = ok && all_between before first (run ++ front)

pub walk-append : (w : Walk) (xs ys : List MarkedPoint) → walk w (xs ++ ys) ≡ walk (walk w xs) ys
walk-append w [] ys = refl
walk-append w (m ∷ xs) ys = walk-append (step w m) xs ys

finish-some : (front : List MovedPoint) (first : MovedPoint) (ok : Bool) (before : MovedPoint)
    (run : List MovedPoint) (rest : List MarkedPoint)
    → finish (walk (some_named front first ok before run) rest)
    ≡ (ok && (all_between before (or_point (first_named rest) first) run
    && (fits_from before first rest && all_between (or_point (last_named rest) before) first
    front)))
finish-some front first ok before run []
    = ap (λ x. ok && x) (list_all-append (is_between before first) run front)
finish-some front first ok before run (m ∷ rest) =
    elim m.left_out as (λ v. finish (walk (if v then some_named front first ok before
    (run ++ m.point ∷ []) else some_named front first (ok && all_between before m.point run)
    m.point []) rest) ≡ (ok && (all_between before
    (or_point (if v then first_named rest else Some m.point) first) run
    && ((if v then is_between before (or_point (first_named rest) first) m.point
    && fits_from before first rest else fits_from m.point first rest)
    && all_between (or_point (or_else (last_named rest) (if v then None else Some m.point))
    before) first front)))) [
      | true ↦
          let next = or_point (first_named rest) first in
          let last = all_between (or_point (last_named rest) before) first front in
          finish-some front first ok before (run ++ m.point ∷ []) rest
          ∙ ap (λ x. ok && (x && (fits_from before first rest && last)))
          (list_all-append (is_between before next) run (m.point ∷ []))
          ∙ ap (λ x. ok && x) (and_shift (all_between before next run)
          (is_between before next m.point) (fits_from before first rest) last)
          ∙ ap (λ o. ok && (all_between before next run
          && ((is_between before next m.point && fits_from before first rest)
          && all_between (or_point o before) first front)))
          (sym (or_else-none (last_named rest)))
      | false ↦
          finish-some front first (ok && all_between before m.point run) m.point [] rest
          ∙ and_assoc ok (all_between before m.point run)
          (fits_from m.point first rest && all_between (or_point (last_named rest) m.point)
          first front)
          ∙ ap (λ p. ok && (all_between before m.point run
          && (fits_from m.point first rest && all_between p first front)))
          (sym (or_point-or_else (last_named rest) m.point before))
    ]

finish-none : (run : List MovedPoint) (rest : List MarkedPoint) → first_named rest ≡ None
    → finish (walk (none_yet run) rest) ≡ list_all is_still (run ++ points_of rest)
finish-none run [] e = ap (list_all is_still) (sym (append-nil run))
finish-none run (m ∷ rest) e =
    elim m.left_out as (λ v. (if v then first_named rest else Some m.point) ≡ None
    → finish (walk (if v then none_yet (run ++ m.point ∷ []) else some_named run m.point true
    m.point []) rest) ≡ list_all is_still (run ++ m.point ∷ points_of rest)) [
      | true ↦ λ g. finish-none (run ++ m.point ∷ []) rest g
          ∙ ap (list_all is_still) (append_assoc run (m.point ∷ []) (points_of rest))
      | false ↦ λ g. cc
    ] e

finish-first : (run : List MovedPoint) (rest : List MarkedPoint) (first last : MovedPoint)
    → first_named rest ≡ Some first → last_named rest ≡ Some last
    → finish (walk (none_yet run) rest) ≡ (all_between last first run && fits_from last first rest)
finish-first run [] first last e f = cc
finish-first run (m ∷ rest) first last e f =
    elim m.left_out as (λ v. (if v then first_named rest else Some m.point) ≡ Some first
    → or_else (last_named rest) (if v then None else Some m.point) ≡ Some last
    → finish (walk (if v then none_yet (run ++ m.point ∷ []) else some_named run m.point true
    m.point []) rest) ≡ (all_between last first run
    && (if v then is_between last (or_point (first_named rest) first) m.point
    && fits_from last first rest else fits_from m.point first rest))) [
      | true ↦ λ g h.
          finish-first (run ++ m.point ∷ []) rest first last g
          (sym (or_else-none (last_named rest)) ∙ h)
          ∙ ap (λ x. x && fits_from last first rest)
          (list_all-append (is_between last first) run (m.point ∷ [])
          ∙ ap (λ x. all_between last first run && x)
          (and-true (is_between last first m.point)))
          ∙ and_assoc (all_between last first run) (is_between last first m.point)
          (fits_from last first rest)
          ∙ ap (λ p. all_between last first run
          && (is_between last p m.point && fits_from last first rest))
          (sym (or_point-some (first_named rest) first first g))
      | false ↦ λ g h.
          let is_first : m.point ≡ first = cc in
          let is_last : or_point (last_named rest) m.point
          ≡ last = let both : Some (or_point (last_named rest) m.point)
          ≡ Some last = sym (or_else-last (last_named rest) m.point) ∙ h in cc in
          finish-some run m.point true m.point [] rest
          ∙ and_comm (fits_from m.point m.point rest)
          (all_between (or_point (last_named rest) m.point) m.point run)
          ∙ ap (λ p. all_between p m.point run && fits_from m.point m.point rest) is_last
          ∙ ap (λ p. all_between last p run && fits_from m.point p rest) is_first
    ] e f

-- the walk finds whether all are exact
pub all_exact-walk : (contour : List MarkedPoint)
    → all_exact contour ≡ finish (walk (none_yet []) contour)
all_exact-walk contour =
    elim (first_named contour) as (λ o. first_named contour ≡ o
    → all_exact contour ≡ finish (walk (none_yet []) contour)) [
      | None ↦ λ e. all_exact-still [] contour e ∙ sym (finish-none [] contour e)
      | Some first ↦ λ e. let last = last_some contour first e
          in all_exact-fits [] contour first last.0 e last.1
          ∙ sym (finish-first [] contour first last.0 e last.1)
    ] refl
