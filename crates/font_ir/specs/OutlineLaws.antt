-- An outline's points and bounds, point by point.
use Rattle.std.proofs.Common.{◌≡◌, ℕ, ◌+◌, ◌<◌, ◌≤◌, ℤ, pos, List, [], ◌∷◌, length, map, get_or}
use Rattle.std.proofs.Common.{drop, Option, None, Some, refl, sym, ap, ◌∙◌, arith, length-append}
use Rattle.std.specs.Prelude.{IfSome}
use Rattle.std.proofs.lemmas.List.{length-map, at_drop_more}
use Rattle.std.proofs.lemmas.List.Sums.{sum_by-cons}
use Rattle.std.proofs.lemmas.List.Elements.{recursion_from_All}
use Rattle.std.specs.List.{All, AllByRecursion, fold}
use Rattle.std.specs.Int.{int_min, int_max}
use Rattle.font_ir.specs.declared.glyph.DrawnPoint.{DrawnPoint}
use Rattle.font_ir.specs.declared.glyph.Contour.{Contour}
use Rattle.font_ir.specs.declared.outline.StoredPoint.{StoredPoint}
use Rattle.font_ir.specs.FlatGlyphs.{point_count}
use Rattle.font_ir.specs.Extremes.{least, greatest}
use Rattle.font_ir.specs.Outlines.{stored_point, stored_contours, stored_points, AreBounds}
use Rattle.font_ir.specs.Outlines.{bounds_of, widened_by, widened_by_all}
use Rattle.font_ir.specs.ExtremesLaws.{least_is, greatest_is}

-- ---- points

-- storing keeps how many points each contour has
pub stored_counts : (contours : List Contour)
    → map length (stored_contours contours) ≡ map (λ contour. length contour.points) contours
stored_counts [] = refl
stored_counts (contour ∷ contours) = ap (λ n. n ∷ map length (stored_contours contours))
    (length-map contour.points stored_point)
    ∙ ap (λ ns. length contour.points ∷ ns) (stored_counts contours)

-- and how many there are
pub stored_count : (contours : List Contour)
    → length (stored_points contours) ≡ point_count contours
stored_count [] = refl
stored_count (contour ∷ contours) = omega (
  arith,
  stored_count contours,
  length-append (map stored_point contour.points)
      (stored_points contours),
  length-map contour.points stored_point,
  sum_by-cons
      (λ c. length c.points) contour contours,
)

-- no more contours than points
few_by_recursion : (contours : List Contour)
    → AllByRecursion (λ contour. 0 < length contour.points) contours
    → length contours ≤ point_count contours
few_by_recursion [] h = omega arith
few_by_recursion (contour ∷ contours) h = omega
    (arith, few_by_recursion contours h.1, h.0, sum_by-cons (λ c. length c.points) contour contours)

pub few_contours : (contours : List Contour) → All (λ contour. 0 < length contour.points) contours
    → length contours ≤ point_count contours
few_contours contours h = few_by_recursion contours
    (recursion_from_All (λ contour. 0 < length contour.points) contours h)

-- ---- bounds

-- the bounds are the least and the greatest coordinates
pub bounds_are : (points : List StoredPoint) → IfSome (bounds_of points) (AreBounds points)
bounds_are [] = tt
bounds_are (point ∷ points) = record {
  x_min = least_is point.x (map (λ p. p.x) points);
  y_min = least_is point.y (map (λ p. p.y) points);
  x_max = greatest_is point.x (map (λ p. p.x) points);
  y_max = greatest_is point.y (map (λ p. p.y) points);
}

-- the sides of points that have bounds
abbrev pub sides_of : List StoredPoint → List ℤ
sides_of points = least (map (λ p. p.x) points) ∷ least (map (λ p. p.y) points)
    ∷ greatest (map (λ p. p.x) points) ∷ greatest (map (λ p. p.y) points) ∷ []

pub sides_are : (points : List StoredPoint) (sides : List ℤ) → bounds_of points ≡ Some sides
    → sides ≡ sides_of points
sides_are [] sides e = absurd cc
sides_are (point ∷ points) sides e = let same : sides ≡ sides_of (point ∷ points) = cc in same

widened_sides : (a b c d : ℤ) (ps : List StoredPoint)
    → widened_by_all (Some (a ∷ b ∷ c ∷ d ∷ [])) ps
    ≡ Some (fold int_min a (map (λ p. p.x) ps) ∷ fold int_min b (map (λ p. p.y) ps)
    ∷ fold int_max c (map (λ p. p.x) ps) ∷ fold int_max d (map (λ p. p.y) ps) ∷ [])
widened_sides a b c d [] = refl
widened_sides a b c d (p ∷ ps) = widened_sides (int_min a p.x) (int_min b p.y) (int_max c p.x)
    (int_max d p.y) ps

-- widening from nothing gives the bounds
pub widened_all : (ps : List StoredPoint) → widened_by_all None ps ≡ bounds_of ps
widened_all [] = refl
widened_all (p ∷ ps) = widened_sides p.x p.y p.x p.y ps

-- the sides one by one
pub widened_is : (bounds : Option (List ℤ)) (sides : List ℤ) (point : StoredPoint) (a b c d : ℤ)
    → bounds ≡ Some sides
    → a ≡ int_min (get_or sides 0 (pos 0)) point.x → b ≡ int_min (get_or sides 1 (pos 0)) point.y
    → c ≡ int_max (get_or sides 2 (pos 0)) point.x
    → d ≡ int_max (get_or sides 3 (pos 0)) point.y
    → Some (a ∷ b ∷ c ∷ d ∷ []) ≡ widened_by bounds point
widened_is bounds sides point a b c d e ea eb ec ed =
    (λ i. Some (ea i ∷ eb i ∷ ec i ∷ ed i ∷ [])) ∙ sym (ap (λ known. widened_by known point) e)

-- one more point
pub widened_more : (points : List DrawnPoint) (i : ℕ) (d : DrawnPoint)
    (bounds next all : Option (List ℤ)) (point : StoredPoint) → i < length points
    → point ≡ stored_point (get_or points i d) → next ≡ widened_by bounds point
    → widened_by_all bounds (map stored_point (drop i points)) ≡ all
    → widened_by_all next (map stored_point (drop (i + 1) points)) ≡ all
widened_more points i d bounds next all point within is e told =
    ap (λ b. widened_by_all b (map stored_point (drop (i + 1) points)))
    (e ∙ ap (widened_by bounds) is)
    ∙ sym (at_drop_more (λ ps. widened_by_all bounds (map stored_point ps)) points i d within)
    ∙ told
