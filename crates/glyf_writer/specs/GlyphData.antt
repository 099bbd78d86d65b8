-- The bytes of a simple glyph (OpenType 1.9, "glyf", "Glyph Headers" and "Simple Glyph
-- Description"). Which of the many spellings of an outline is written, and the padding, are fontc's
-- own: each coordinate takes as few bytes as it can, and each run of equal flags is written as a
-- repeat.
use Rattle.std.specs.Prelude.{ℕ, ◌+◌, ◌-◌, ◌/◌, ◌%◌, ℤ, pos, Bool, List, [], ◌∷◌, ◌++◌, map, length}
use Rattle.std.specs.Prelude.{replicate, nat_lt, ◌==◌, if◌then◌else◌, unsigned_abs, int_lt, bit_or}
use Rattle.std.specs.List.{flat_map}
use Rattle.font_ir.specs.declared.outline.StoredPoint.{StoredPoint}
use Rattle.table_bytes.specs.DataTypes.{uint16, int16, padded}
use Rattle.glyf_writer.specs.declared.outline.Step.{Step}
use Rattle.font_ir.specs.Extremes.{least, greatest}
use Rattle.font_ir.specs.Outlines.{all_points}
use Rattle.glyf_writer.specs.Outlines.{steps_of, end_points}

-- ---- flags

-- Of a flag, the bits of one coordinate: `short` says that the difference takes one byte, and
-- `same` that it is 0 and takes none or, beside `short`, that it is above 0.
abbrev pub coordinate_flag : ℕ → ℕ → ℤ → ℕ
coordinate_flag short same z =
    if unsigned_abs z == 0 then same else (if nat_lt 255 (unsigned_abs z) then 0 else
    (if int_lt z (pos 0) then short else bit_or short same))

-- bit 0: on the curve; bits 1 and 4: short and same of x; bits 2 and 5: those of y
abbrev pub flag_of : Step → ℕ
flag_of step = bit_or (bit_or (if step.on then 1 else 0) (coordinate_flag 2 16 step.dx))
    (coordinate_flag 4 32 step.dy)

-- in a font with axes bit 6 (contours may overlap) is set in the first flag
abbrev pub marked : Bool → List ℕ → List ℕ
marked variable [] = []
marked variable (flag ∷ flags) = (if variable then bit_or flag 64 else flag) ∷ flags

abbrev pub flags_of : Bool → List Step → List ℕ
flags_of variable steps = marked variable (map flag_of steps)

-- the runs of equal numbers, each as long as can be: the number, and how often it stands there
abbrev pub onto_runs : ℕ → List (ℕ × ℕ) → List (ℕ × ℕ)
onto_runs x [] = (x, 1) ∷ []
onto_runs x (run ∷ runs) = if x == run.0 then (x, run.1 + 1) ∷ runs else (x, 1) ∷ run ∷ runs

abbrev pub longest_runs : List ℕ → List (ℕ × ℕ)
longest_runs [] = []
longest_runs (x ∷ xs) = onto_runs x (longest_runs xs)

-- a run, cut after each 256
abbrev pub cut_at_256 : (ℕ × ℕ) → List (ℕ × ℕ)
cut_at_256 run = replicate (run.1 / 256) (run.0, 256)
    ++ (if run.1 % 256 == 0 then [] else (run.0, run.1 % 256) ∷ [])

-- a flag that stands once is written as it is; one that stands more often with bit 3 set, and then
-- how many more follow
abbrev pub flag_bytes : (ℕ × ℕ) → List ℕ
flag_bytes piece = if piece.1 == 1 then piece.0 ∷ [] else bit_or piece.0 8 ∷ (piece.1 - 1) ∷ []

abbrev pub with_repeats : List ℕ → List ℕ
with_repeats flags = flat_map (λ run. flat_map flag_bytes (cut_at_256 run)) (longest_runs flags)

-- ---- coordinates

-- a difference of 0 takes no byte, one of up to 255 in size that size as a byte, and any other an
-- int16
abbrev pub coordinate_bytes : ℤ → List ℕ
coordinate_bytes z =
    if unsigned_abs z == 0 then [] else (if nat_lt 255 (unsigned_abs z) then int16 z else
    unsigned_abs z ∷ [])

-- ---- the whole

pub record SimpleGlyph : Type 0 where
  pub contour_count : ℕ
  pub x_min : ℤ
  pub y_min : ℤ
  pub x_max : ℤ
  pub y_max : ℤ
  pub end_points : List ℕ
  pub instruction_length : ℕ
  -- one per point
  pub flags : List ℕ
  pub x_differences : List ℤ
  pub y_differences : List ℤ

abbrev pub glyph_of : Bool → List (List StoredPoint) → SimpleGlyph
glyph_of variable outline = record {
  contour_count = length outline;
  x_min = least (map (λ point. point.x) (all_points outline));
  y_min = least (map (λ point. point.y) (all_points outline));
  x_max = greatest (map (λ point. point.x) (all_points outline));
  y_max = greatest (map (λ point. point.y) (all_points outline));
  end_points = end_points (map length outline);
  instruction_length = 0;
  flags = flags_of variable (steps_of (all_points outline));
  x_differences = map (λ step. step.dx) (steps_of (all_points outline));
  y_differences = map (λ step. step.dy) (steps_of (all_points outline));
}

abbrev pub glyph_bytes : SimpleGlyph → List ℕ
glyph_bytes glyph =
    uint16 glyph.contour_count
    ++ int16 glyph.x_min ++ int16 glyph.y_min ++ int16 glyph.x_max ++ int16 glyph.y_max
    ++ flat_map uint16 glyph.end_points
    ++ uint16 glyph.instruction_length
    ++ with_repeats glyph.flags
    ++ flat_map coordinate_bytes glyph.x_differences
    ++ flat_map coordinate_bytes glyph.y_differences

-- what is stored of an outline, with zeros up to a multiple of four bytes; nothing where it has no
-- point
abbrev pub simple_data : Bool → List (List StoredPoint) → List ℕ
simple_data variable outline = if length (all_points outline) == 0 then [] else padded
    (glyph_bytes (glyph_of variable outline))
