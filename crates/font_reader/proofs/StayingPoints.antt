-- A glyph without tuples has its stored points at every place.
use Rattle.std.proofs.Common.{◌≡◌, inl, inr, ℕ, ℤ, ◌+◌, Bool, true, false, List, length, Ok, Err}
use Rattle.std.proofs.Common.{Result, refl, ap}
use Rattle.std.specs.Prelude.{nat_lt, if◌then◌else◌}
use Rattle.fixed_math.specs.declared.F2Dot14.{F2Dot14}
use Rattle.font_reader.specs.declared.faults.FontFault.{FontFault}
use Rattle.font_reader.specs.declared.faults.FaultKind.TheVariants.{NoPoint}
use Rattle.font_reader.specs.declared.packed.Target.{Target}
use Rattle.font_reader.specs.declared.points.Point.{Point}
use Rattle.font_reader.specs.declared.shapes.Shape.{Shape}
use Rattle.font_reader.specs.Fields.{◌>>=◌, fault}
use Rattle.font_reader.specs.Laws.{HasNoTuples, stored_in, stored_point}
use Rattle.font_reader.specs.Points.{contour_for, outline_for, point_at, point_of, point_with}
use Rattle.font_reader.specs.Points.{stored_place}
use Rattle.font_reader.specs.Shapes.{own_points, shape_of}
use Rattle.font_reader.specs.Tuples.{no_offset, point_offset}
use Rattle.font_reader.specs.Versions.{axes_for, glyph_among, glyph_count}
use Rattle.font_reader.proofs.LawProofs.{stays_without_table, stays_without_tuples}

-- what comes after a value may be another that is the same of it
bind_same : {A B : Type 0} (r : Result A FontFault) (f g : A → Result B FontFault)
    → ((x : A) → r ≡ Ok x → f x ≡ g x) → (r >>= f) ≡ (r >>= g)
bind_same (Ok x) f g h = h x refl
bind_same (Err e) f g h = refl

clash : (f : FontFault) (glyphs : ℕ) → ◌≡◌ {A = Result ℕ FontFault} (Err f) (Ok glyphs) → ⊥
clash f glyphs e = cc

-- how many glyphs there are, where there is this one
picked : (b : Bool) (count glyphs : ℕ) (f : FontFault)
    → ◌≡◌ {A = Result ℕ FontFault} (if b then Ok count else Err f) (Ok glyphs)
    → ◌≡◌ {A = Result ℕ FontFault} (Ok count) (Ok glyphs)
picked true count glyphs f e = e
picked false count glyphs f e = absurd (clash f glyphs e)

counted_by : (r : Result ℕ FontFault) (gid glyphs : ℕ)
    → (r >>= λ count. if nat_lt gid count then Ok count else Err (fault NoPoint gid)) ≡ Ok glyphs
    → r ≡ Ok glyphs
counted_by (Ok count) gid glyphs e = picked (nat_lt gid count) count glyphs (fault NoPoint gid) e
counted_by (Err f) gid glyphs e = absurd (clash f glyphs e)

counted : (bytes : List ℕ) (gid glyphs : ℕ) → glyph_among bytes gid ≡ Ok glyphs
    → glyph_count bytes ≡ Ok glyphs
unfolding glyph_among
counted bytes gid glyphs e = counted_by (glyph_count bytes) gid glyphs e

offset_stays : (bytes : List ℕ) (gid glyphs : ℕ) (target : Target) (place : List F2Dot14)
    (xs ys : List ℤ) → HasNoTuples bytes gid (length place) → glyph_count bytes ≡ Ok glyphs
    → point_offset bytes gid glyphs target place xs ys ≡ Ok no_offset
offset_stays bytes gid glyphs target place xs ys (inl e) count =
    stays_without_table bytes gid glyphs target place xs ys e
offset_stays bytes gid glyphs target place xs ys (inr has) count =
    stays_without_tuples bytes has.0 gid glyphs target place xs ys has.1 (has.2 glyphs count)

stays_in : (bytes : List ℕ) (gid glyphs : ℕ) (shape : Shape) (index : ℕ) (place : List F2Dot14)
    → HasNoTuples bytes gid (length place) → glyph_count bytes ≡ Ok glyphs
    → point_of bytes gid glyphs shape index place ≡ stored_in bytes gid shape index
unfolding point_of point_with
stays_in bytes gid glyphs shape index place none count =
    bind_same (outline_for bytes shape index) _ _
    (λ outline read. bind_same (contour_for bytes shape index) _ _
    (λ contour found. bind_same (stored_place bytes gid shape index outline.0 outline.1) _ _
    (λ stored is. rw (offset_stays bytes gid glyphs _ place outline.0 outline.1 none count) refl)))

pub points_stay : (bytes : List ℕ) (gid index : ℕ) (place : List F2Dot14)
    → HasNoTuples bytes gid (length place)
    → point_at bytes gid index place ≡ stored_point bytes gid index (length place)
unfolding point_at
points_stay bytes gid index place none =
    bind_same (axes_for bytes (length place)) _ _
    (λ axes same. bind_same (glyph_among bytes gid) _ _
    (λ glyphs among. bind_same (shape_of bytes gid) _ _
    (λ shape read. ap (λ (r : Result Point FontFault).
    if nat_lt index (own_points shape + 4) then r else Err (fault NoPoint index))
    (stays_in bytes gid glyphs shape index place none (counted bytes gid glyphs among)))))
