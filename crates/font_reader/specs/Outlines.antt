-- The points of a simple glyph (OpenType 1.9, "glyf", "Simple Glyph Description"): a flag for each
-- point, where a flag may stand for several points; then how far each point is from the one before
-- it in x; then the same in y.
use Rattle.std.specs.Prelude.{◌≡◌, ℕ, zero, suc, ℤ, pos, ◌+◌, ◌-◌, ◌*◌, ◌/◌, ◌%◌, ◌+ℤ◌, ◌-ℤ◌, Bool}
use Rattle.std.specs.Prelude.{List, [], ◌∷◌, take, Option, Some, None, Result, Ok, Err, nat_eq}
use Rattle.std.specs.Prelude.{nat_lt}
use Rattle.std.specs.Prelude.{if◌then◌else◌, ⊤}
use Rattle.font_reader.specs.declared.faults.FontFault.{FontFault}
use Rattle.font_reader.specs.declared.faults.FaultKind.TheVariants.{BadFormat}
use Rattle.font_reader.specs.declared.fields.Table.{Table}
use Rattle.font_reader.specs.declared.outlines.Axis.{Axis}
use Rattle.font_reader.specs.declared.outlines.FlagRun.{FlagRun}
use Rattle.font_reader.specs.declared.outlines.Sizes.{Sizes}
use Rattle.font_reader.specs.declared.outlines.Stroke.{Stroke}
use Rattle.font_reader.specs.declared.outlines.Contour.{Contour}
use Rattle.font_reader.specs.Fields.{◌>>=◌, fault, read_byte, read_i16, read_u16}
use Rattle.font_reader.specs.Fold.{folded}
use Rattle.font_reader.specs.Search.{first_found}

-- ---- flags

abbrev pub has_bit : ℕ → ℕ → Bool
has_bit flag bit = nat_eq ((flag / bit) % 2) 1

-- a flag that is read, with its repeats where bit 3 says that there are some; bit 7 has no meaning
unfoldable pub read_flag : List ℕ → Table → ℕ → Result FlagRun FontFault
read_flag bytes glyf at = do
  flag ← read_byte bytes glyf at
  (if nat_lt 127 flag then Err (fault BadFormat (glyf.offset + at)) else
      (if has_bit flag 8
      then (read_byte bytes glyf (at + 1) >>= λ repeats.
      Ok (record { at = at + 2; left = repeats; flag = flag }))
      else Ok (record { at = at + 1; left = 0; flag = flag })))

-- the flag of the next point
unfoldable pub next_flag : List ℕ → Table → FlagRun → Result FlagRun FontFault
next_flag bytes glyf run = if nat_lt 0 run.left
    then Ok (record { at = run.at; left = run.left - 1; flag = run.flag })
    else read_flag bytes glyf run.at

-- ---- differences: an axis has a bit for one byte, and a bit that is then the sign, and else says
-- that the point is where the one before it is

unfoldable pub size_of : Axis → ℕ → ℕ
size_of axis flag = if has_bit flag axis.short then 1 else (if has_bit flag axis.same then 0 else 2)

unfoldable pub short_difference : List ℕ → Table → Axis → ℕ → ℕ → Result ℤ FontFault
short_difference bytes glyf axis flag at = do
  size ← read_byte bytes glyf at
  (if has_bit flag axis.same then Ok (pos size) else Ok (pos 0 -ℤ pos size))

unfoldable pub difference : List ℕ → Table → Axis → ℕ → ℕ → Result ℤ FontFault
difference bytes glyf axis flag at = if has_bit flag axis.short
    then short_difference bytes glyf axis flag at
    else (if has_bit flag axis.same then Ok (pos 0) else read_i16 bytes glyf at)

abbrev pub in_x : Axis
in_x = record { short = 2; same = 16 }

abbrev pub in_y : Axis
in_y = record { short = 4; same = 32 }

-- ---- where the differences in x and in y begin

unfoldable pub with_size : List ℕ → Table → ℕ → Sizes → Result Sizes FontFault
with_size bytes glyf i sizes = do
  run ← next_flag bytes glyf sizes.run
  Ok (record { run = run; bytes = sizes.bytes + size_of in_x run.flag })

abbrev pub flags_from : ℕ → FlagRun
flags_from flags = record { at = flags; left = 0; flag = 0 }

unfoldable pub sizes_of : List ℕ → Table → ℕ → ℕ → Result Sizes FontFault
sizes_of bytes glyf flags points =
    folded (with_size bytes glyf) 0 points (record { run = flags_from flags; bytes = 0 })

-- ---- the coordinates of so many points

unfoldable pub next_point : List ℕ → Table → Axis → Stroke → Result Stroke FontFault
next_point bytes glyf axis stroke = do
  run ← next_flag bytes glyf stroke.run
  step ← difference bytes glyf axis run.flag stroke.at
  Ok (record {
    run = run;
    at = stroke.at + size_of axis run.flag;
    value = stroke.value +ℤ step;
  })

abbrev pub put_first : ℤ → Result (List ℤ) FontFault → Result (List ℤ) FontFault
put_first x (Ok xs) = Ok (x ∷ xs)
put_first x (Err e) = Err e

abbrev pub coordinates : List ℕ → Table → Axis → ℕ → Stroke → Result (List ℤ) FontFault
coordinates bytes glyf axis zero stroke = Ok []
coordinates bytes glyf axis (suc left) stroke = elim (next_point bytes glyf axis stroke) [
  | Ok next ↦ put_first next.value (coordinates bytes glyf axis left next)
  | Err e ↦ Err e
]

abbrev pub stroke_from : ℕ → ℕ → Stroke
stroke_from flags at = record { run = flags_from flags; at = at; value = pos 0 }

-- ---- the contour of a point: from the point after the end of the one before it, to its end

abbrev pub contour_start : List ℕ → Table → ℕ → ℕ → Result ℕ FontFault
contour_start bytes glyf at zero = Ok 0
contour_start bytes glyf at (suc i) = do
  end ← read_u16 bytes glyf (at + 10 + 2 * i)
  Ok (end + 1)

-- the first one that ends at the point or after it
unfoldable pub contour_with : List ℕ → Table → ℕ → ℕ → ℕ → Result (Option Contour) FontFault
contour_with bytes glyf at index i = do
  last ← read_u16 bytes glyf (at + 10 + 2 * i)
  (if nat_lt last index then Ok None else (contour_start bytes glyf at i >>= λ first.
      Ok (Some (record { first = first; last = last }))))

abbrev pub contour_or : ℕ → Option Contour → Contour
contour_or index (Some contour) = contour
contour_or index None = record { first = index; last = index }

unfoldable pub contour_of : List ℕ → Table → ℕ → ℕ → ℕ → Result Contour FontFault
contour_of bytes glyf at contours index = do
  found ← first_found (contour_with bytes glyf at index) 0 contours
  Ok (contour_or index found)

-- ---- the outline: the instructions stand before the flags

unfoldable pub flags_place : List ℕ → Table → ℕ → ℕ → Result ℕ FontFault
flags_place bytes glyf at contours = do
  instructions ← read_u16 bytes glyf (at + 10 + 2 * contours)
  Ok (at + 12 + 2 * contours + instructions)

unfoldable pub xs_of : List ℕ → Table → ℕ → Sizes → ℕ → Result (List ℤ) FontFault
xs_of bytes glyf flags sizes points =
    coordinates bytes glyf in_x points (stroke_from flags sizes.run.at)

unfoldable pub ys_of : List ℕ → Table → ℕ → Sizes → ℕ → Result (List ℤ) FontFault
ys_of bytes glyf flags sizes points =
    coordinates bytes glyf in_y points (stroke_from flags (sizes.run.at + sizes.bytes))

unfoldable pub outline_of : List ℕ → Table → ℕ → ℕ → ℕ → Result (List ℤ × List ℤ) FontFault
outline_of bytes glyf at contours points = do
  flags ← flags_place bytes glyf at contours
  sizes ← sizes_of bytes glyf flags points
  xs ← xs_of bytes glyf flags sizes points
  ys ← ys_of bytes glyf flags sizes points
  Ok (xs, ys)

-- ---- what a room holds after it was filled: so many coordinates, unless there was a fault

abbrev pub FillsOne : Result ⊤ FontFault → ℕ → List ℤ → Result (List ℤ) FontFault → Type 0
FillsOne (Ok u) count out definition = definition ≡ Ok (take count out)
FillsOne (Err e) count out definition = definition ≡ Err e

abbrev pub FillsBoth : Result ⊤ FontFault → ℕ → List ℤ → List ℤ
    → Result (List ℤ × List ℤ) FontFault → Type 0
FillsBoth (Ok u) count xs ys definition = definition ≡ Ok (take count xs, take count ys)
FillsBoth (Err e) count xs ys definition = definition ≡ Err e
