-- A glyph's contours at a place of the design space: as it draws them there, where it has the
-- place; else each coordinate is what its variation model gives there (OpenType 1.9, "Font
-- variations common table formats"; the model is fontc's own).
use Rattle.std.specs.Prelude.{ℕ, Bool, not, ◌&&◌, List, [], map, slice_index_or, pos, position}
use Rattle.std.specs.Prelude.{Option, Some, None, true, is_some}
use Rattle.std.specs.List.{list_all}
use Rattle.std.specs.Cmp.Lexicographic.{pointwise}
use Rattle.std.specs.Ordering.{int_eq}
use Rattle.fixed_math.specs.declared.F2Dot14.{F2Dot14}
use Rattle.font_ir.specs.declared.glyph.DrawnPoint.{DrawnPoint}
use Rattle.font_ir.specs.declared.glyph.Contour.{Contour}
use Rattle.font_ir.specs.declared.glyph.FlatGlyph.{FlatGlyph}
use Rattle.variation_model.specs.Deltas.{deltas_of, is_storable, value_of}
use Rattle.variation_model.specs.Supports.{supports_of}
use Rattle.component_flatten.specs.Numbered.{numbered}
use Rattle.component_flatten.specs.Transforms.{point_at}
use Rattle.component_flatten.specs.declared.between.PointDeltas.{PointDeltas}
use Rattle.component_flatten.specs.declared.between.ContourDeltas.{ContourDeltas}

-- ---- which place it is

abbrev pub same_number : F2Dot14 → F2Dot14 → Bool
same_number a b = int_eq a.0 b.0

abbrev pub same_place : List F2Dot14 → List F2Dot14 → Bool
same_place a b = pointwise same_number a b

-- the number of a place among a glyph's places
abbrev pub number_of : FlatGlyph → List F2Dot14 → Option ℕ
number_of glyph at = position (λ place. same_place place at) glyph.places

-- ---- between its places

-- what is looked up past the ends
abbrev pub origin : DrawnPoint
origin = record { x = record { 0 = pos 0 }; y = record { 0 = pos 0 }; on = true }

abbrev pub contour_in : List Contour → ℕ → Contour
contour_in contours c = slice_index_or contours c (record { points = [] })

abbrev pub point_in : List Contour → ℕ → ℕ → DrawnPoint
point_in contours c j = slice_index_or (contour_in contours c).points j origin

-- where one point is at each of the glyph's places
abbrev pub over_places : FlatGlyph → ℕ → ℕ → List DrawnPoint
over_places glyph c j = map (λ contours. point_in contours c j) glyph.drawn

-- the deltas of a point that is so at each of the places, whole numbers without bounds
abbrev pub deltas_over : List (List F2Dot14) → List DrawnPoint → Bool → PointDeltas
deltas_over places points on = record {
  x = deltas_of places (map (λ point. point.x) points);
  y = deltas_of places (map (λ point. point.y) points);
  on = on;
}

-- the deltas of each point over the glyph's places
abbrev pub point_deltas : FlatGlyph → ℕ → ℕ → DrawnPoint → PointDeltas
point_deltas glyph c j first = deltas_over glyph.places (over_places glyph c j) first.on

abbrev pub contour_deltas : FlatGlyph → ℕ → Contour → ContourDeltas
contour_deltas glyph c contour = record {
  points = numbered (point_deltas glyph c) 0 contour.points;
}

-- the contours at the glyph's first place: they have the same points at all of them
abbrev pub first_drawn : FlatGlyph → List Contour
first_drawn glyph = slice_index_or glyph.drawn 0 []

abbrev pub glyph_deltas : FlatGlyph → List ContourDeltas
glyph_deltas glyph = numbered (contour_deltas glyph) 0 (first_drawn glyph)

-- what the deltas give at a place
abbrev pub point_between : List (List F2Dot14) → List F2Dot14 → PointDeltas → DrawnPoint
point_between places at deltas = point_at deltas.on (record {
  x = value_of (supports_of places) deltas.x at;
  y = value_of (supports_of places) deltas.y at;
})

abbrev pub contour_between : List (List F2Dot14) → List F2Dot14 → ContourDeltas → Contour
contour_between places at deltas = record { points = map (point_between places at) deltas.points }

abbrev pub between : FlatGlyph → List F2Dot14 → List Contour
between glyph at = map (contour_between glyph.places at) (glyph_deltas glyph)

-- ---- at any place

abbrev pub placed_at : FlatGlyph → List F2Dot14 → Option ℕ → List Contour
placed_at glyph at (Some k) = slice_index_or glyph.drawn k []
placed_at glyph at None = between glyph at

abbrev pub placed : FlatGlyph → List F2Dot14 → List Contour
placed glyph at = placed_at glyph at (number_of glyph at)

-- ---- whether its deltas can be stored

abbrev pub is_storable_point : PointDeltas → Bool
is_storable_point deltas = list_all is_storable deltas.x && list_all is_storable deltas.y

abbrev pub are_storable : List ContourDeltas → Bool
are_storable contours = list_all (λ contour. list_all is_storable_point contour.points) contours

-- whether the glyph has all of these places
abbrev pub has_places : List (List F2Dot14) → FlatGlyph → Bool
has_places places glyph = list_all (λ at. is_some (number_of glyph at)) places

-- whether it lacks one of them, and a delta of it is outside an i16
abbrev pub has_large_deltas : List (List F2Dot14) → FlatGlyph → Bool
has_large_deltas places glyph = not (has_places places glyph)
    && not (are_storable (glyph_deltas glyph))
