-- What the definitions read of the points of three small fonts.
use Rattle.std.proofs.Common.{◌≡◌, ℕ, ℤ, pos, List, [], ◌∷◌, map, Result, Ok, Err, refl}
use Rattle.fixed_math.specs.declared.F2Dot14.{F2Dot14}
use Rattle.font_reader.specs.declared.faults.FontFault.{FontFault}
use Rattle.font_reader.specs.declared.faults.FaultKind.TheVariants.{BadFormat, NoPoint}
use Rattle.font_reader.specs.declared.faults.FaultKind.TheVariants.{CoordCount}
use Rattle.font_reader.specs.declared.fields.Table.{Table}
use Rattle.font_reader.specs.declared.packed.DeltaRun.{DeltaRun}
use Rattle.font_reader.specs.declared.points.Point.{Point}
use Rattle.font_reader.specs.Advances.{metric_count, stored_advance}
use Rattle.font_reader.specs.Directory.{entry_table, entry_tag, table_in_entry, table_of}
use Rattle.font_reader.specs.Directory.{whole_entries}
use Rattle.font_reader.specs.Fields.{read_u32, fault}
use Rattle.font_reader.specs.Fields.{u16_at, u32_at, read_byte, read_i8, read_u16, read_i16}
use Rattle.font_reader.specs.Inferred.{rising, inferred}
use Rattle.font_reader.specs.Outlines.{contour_of, flags_place, xs_of, ys_of, outline_of}
use Rattle.font_reader.specs.Outlines.{difference, with_size, sizes_of, next_point, contour_with}
use Rattle.font_reader.specs.Outlines.{read_flag, next_flag, size_of, short_difference}
use Rattle.font_reader.specs.Packed.{deltas_from, deltas_of}
use Rattle.font_reader.specs.Packed.{named_points, delta_control, delta_of_width, next_delta}
use Rattle.font_reader.specs.Packed.{with_named, chosen, next_control, point_step, next_named}
use Rattle.font_reader.specs.Points.{outline_at, outline_for, contour_at, contour_for}
use Rattle.font_reader.specs.Points.{phantom_place, component_place, stored_place, point_with}
use Rattle.font_reader.specs.Points.{point_of, point_at}
use Rattle.font_reader.specs.Shapes.{component_count, simple_shape, composite_shape, shape_at}
use Rattle.font_reader.specs.Shapes.{glyph_data, points_to, simple_points, last_component}
use Rattle.font_reader.specs.Shapes.{shape_in, shape_of, own_points, room_for}
use Rattle.font_reader.specs.Tuples.{shared_points, tuple_points, offset_by, tuple_offset}
use Rattle.font_reader.specs.Tuples.{variations_of, peak_place, tuple_header, tuple_side}
use Rattle.font_reader.specs.Tuples.{with_tuple, glyph_offset, offset_in, point_offset}
use Rattle.font_reader.specs.Tuples.{with_tuple_axis, tuple_scalar, listed_points, points_at}
use Rattle.font_reader.specs.Tuples.{tuple_count, tuple_index}
use Rattle.font_reader.specs.Versions.{axes_in, axis_count, axes_for}
use Rattle.font_reader.specs.Versions.{expect_u16, expect_u32, required, glyph_count, glyph_among}
use Rattle.font_reader.proofs.Fonts.{triangle, varying_triangle, composite}

abbrev weight : ℤ → List F2Dot14
weight number = record { 0 = number } ∷ []

abbrev point : ℕ → ℕ → Result Point FontFault
point x y = Ok (record { x = pos x; y = pos y })

pub record Points : Type 0 where
  pub one_master : map (λ i. point_at triangle 1 i []) (0 ∷ 1 ∷ 4 ∷ 6 ∷ 7 ∷ [])
      ≡ point 16384000 45875200 ∷ point 0 0 ∷ point 32768000 0 ∷ point 0 0
      ∷ Err (fault NoPoint 7) ∷ []
  pub half_way : map (λ i. point_at varying_triangle 1 i (weight (pos 8192)))
      (0 ∷ 1 ∷ 4 ∷ 7 ∷ []) ≡ point 16711680 45875200 ∷ point 0 0 ∷ point 33423360 0
      ∷ Err (fault NoPoint 7) ∷ []
  pub at_the_end : point_at varying_triangle 1 0 (weight (pos 16384)) ≡ point 17039360 45875200
  pub no_coordinates : point_at varying_triangle 9 0 [] ≡ Err (fault CoordCount 1)
  pub no_glyph : point_at varying_triangle 9 0 (weight (pos 0)) ≡ Err (fault NoPoint 9)
  pub component : point_at composite 2 0 [] ≡ point 6553600 0

pub points : Points
unfolding rising inferred read_flag next_flag size_of short_difference difference with_size
    sizes_of next_point contour_with contour_of flags_place xs_of ys_of outline_of with_named
    chosen next_control point_step next_named named_points delta_control delta_of_width next_delta
    deltas_from deltas_of outline_at outline_for contour_at contour_for phantom_place
    component_place stored_place point_with point_of point_at variations_of peak_place
    tuple_header tuple_side with_tuple_axis tuple_scalar listed_points points_at shared_points
    tuple_points offset_by tuple_offset with_tuple glyph_offset offset_in point_offset u16_at
    u32_at read_byte read_i8 read_u16 read_i16 read_u32 entry_table entry_tag table_in_entry
    table_of whole_entries expect_u16 expect_u32 required glyph_count glyph_among axes_in
    axis_count axes_for tuple_count tuple_index glyph_data points_to simple_points last_component
    component_count simple_shape composite_shape shape_at shape_in shape_of own_points room_for
    metric_count stored_advance
points = record {
  one_master = refl;
  half_way = refl;
  at_the_end = refl;
  no_coordinates = refl;
  no_glyph = refl;
  component = refl;
}

-- ---- reserved bits of a tuple's data, in tables of two bytes and of one

abbrev table_of_size : ℕ → Table
table_of_size size = record { offset = 0; length = size }

abbrev bad_format : {A : Type 0} → Result A FontFault
bad_format = Err (fault BadFormat 0)

abbrev run_of : ℕ → ℕ → ℕ → DeltaRun
run_of at left width = record { at = at; left = left; width = width; before = pos 0; after = pos 0 }

pub record ReservedBits : Type 0 where
  pub of_count : map (λ high. tuple_count (high ∷ 1 ∷ []) (table_of_size 2) 0)
      (143 ∷ 144 ∷ 160 ∷ 192 ∷ []) ≡ Ok 36609 ∷ bad_format ∷ bad_format ∷ bad_format ∷ []
  pub of_index : map (λ high. tuple_index (high ∷ 0 ∷ []) (table_of_size 2) 0)
      (239 ∷ 16 ∷ 240 ∷ []) ≡ Ok 61184 ∷ bad_format ∷ bad_format ∷ []
  pub of_run : map (λ control. delta_control (control ∷ []) (table_of_size 1) (run_of 0 0 0))
      (63 ∷ 64 ∷ 191 ∷ 192 ∷ 255 ∷ []) ≡ Ok (run_of 1 64 1) ∷ Ok (run_of 1 1 2)
      ∷ Ok (run_of 1 64 0) ∷ bad_format ∷ bad_format ∷ []

pub reserved_bits : ReservedBits
unfolding read_byte read_u16 u16_at tuple_count tuple_index delta_control
reserved_bits = record { of_count = refl; of_index = refl; of_run = refl }
