-- What the definitions read in two small fonts, and of the first bytes of one of them.
use Rattle.std.proofs.Common.{◌≡◌, ℤ, pos, List, [], ◌∷◌, take, map, Some, None, Ok, Err, refl}
use Rattle.std.specs.Prelude.{codes}
use Rattle.fixed_math.specs.declared.F2Dot14.{F2Dot14}
use Rattle.font_reader.specs.declared.faults.FaultKind.TheVariants.{NotSfnt, OutOfTable, NoPoint}
use Rattle.font_reader.specs.declared.faults.FaultKind.TheVariants.{CoordCount}
use Rattle.font_reader.specs.Advances.{metric_count, stored_advance, advance_delta_in}
use Rattle.font_reader.specs.Advances.{advance_delta, advance_at}
use Rattle.font_reader.specs.Cmap.{subtable_in, subtable_of, glyph_in_group, glyph_in_groups}
use Rattle.font_reader.specs.Cmap.{glyph_by_segment, glyph_in_segment, glyph_in_segments}
use Rattle.font_reader.specs.Cmap.{glyph_by_basic, glyph_by, code_of}
use Rattle.font_reader.specs.Directory.{whole_entries, entry_tag, entry_table, table_in_entry}
use Rattle.font_reader.specs.Directory.{table_of, is_sfnt, cut_table, font_fault}
use Rattle.font_reader.specs.Fields.{u16_at, u32_at, read_byte, read_i8, read_u16, read_i16}
use Rattle.font_reader.specs.Fields.{read_u32, fault}
use Rattle.font_reader.specs.Names.{after_name, name_span, name_after, name_in, name_place}
use Rattle.font_reader.specs.Names.{name_of}
use Rattle.font_reader.specs.Stores.{region_side, with_axis, region_scalar, row_delta, row_region}
use Rattle.font_reader.specs.Stores.{with_region, known_regions, row_sum, row_value, store_value}
use Rattle.font_reader.specs.Versions.{expect_u16, expect_u32, required, glyph_count, glyph_among}
use Rattle.font_reader.specs.Versions.{axes_in, axis_count, axes_for}
use Rattle.font_reader.specs.Metrics.{metric_field, metric_tag, stored_metric, value_in_record}
use Rattle.font_reader.specs.Metrics.{metric_delta_in, metric_delta, metric_at}
use Rattle.font_reader.specs.Shapes.{glyph_data, points_to, simple_points, last_component}
use Rattle.font_reader.specs.Shapes.{component_count, simple_shape, composite_shape, shape_at}
use Rattle.font_reader.specs.Shapes.{shape_in, shape_of, own_points, room_for}
use Rattle.font_reader.proofs.Fonts.{triangle, varying_triangle, composite, x_heights}

abbrev weight : ℤ → List F2Dot14
weight number = record { 0 = number } ∷ []

pub record Rows : Type 0 where
  pub whole : font_fault triangle ≡ None
  pub prefixes : map (λ n. font_fault (take n triangle))
      (0 ∷ 11 ∷ 12 ∷ 27 ∷ 28 ∷ 171 ∷ 172 ∷ 252 ∷ 600 ∷ 727 ∷ [])
      ≡ Some (fault NotSfnt 0) ∷ Some (fault NotSfnt 0) ∷ Some (fault OutOfTable 12) ∷
      Some (fault OutOfTable 12) ∷ Some (fault OutOfTable 28) ∷ Some (fault OutOfTable 156) ∷
      Some (fault OutOfTable 12) ∷ Some (fault OutOfTable 12) ∷ Some (fault OutOfTable 140) ∷
      Some (fault OutOfTable 156) ∷ []
  pub codes_read : map (code_of triangle) (65 ∷ 66 ∷ 65535 ∷ 65601 ∷ [])
      ≡ Ok 1 ∷ Ok 0 ∷ Ok 0 ∷ Ok 0 ∷ []
  pub names_read : map (name_of triangle) (0 ∷ 1 ∷ 2 ∷ [])
      ≡ Ok (codes ".notdef") ∷ Ok (65 ∷ []) ∷ Err (fault NoPoint 2) ∷ []
  pub advances_read : map (advance_at varying_triangle 1)
      (weight (pos 0) ∷ weight (pos 4096) ∷ weight (pos 8192) ∷ weight (pos 16384) ∷ [] ∷ [])
      ≡ Ok (pos 32768000) ∷ Ok (pos 33095680) ∷ Ok (pos 33423360) ∷ Ok (pos 34078720)
      ∷ Err (fault CoordCount 1) ∷ []
  pub rooms : map (room_for triangle) (0 ∷ 1 ∷ 2 ∷ []) ≡ Ok 4 ∷ Ok 7 ∷ Err (fault NoPoint 2) ∷ []
  pub components : map (room_for composite) (1 ∷ 2 ∷ []) ≡ Ok 7 ∷ Ok 5 ∷ []
  pub x_height : metric_delta_in x_heights (record { offset = 0; length = 52 }) 2020108148
      (weight (pos 16384)) ≡ Ok (pos 655360)

pub rows : Rows
unfolding metric_count stored_advance advance_delta_in advance_delta advance_at subtable_in
    subtable_of glyph_in_group glyph_in_groups glyph_by_segment glyph_in_segment glyph_in_segments
    glyph_by_basic glyph_by code_of whole_entries entry_tag entry_table table_in_entry table_of
    is_sfnt cut_table font_fault u16_at u32_at read_byte read_i8 read_u16 read_i16 read_u32
    after_name name_span name_after name_in name_place region_side with_axis region_scalar
    row_delta row_region with_region known_regions row_sum row_value store_value expect_u16
    expect_u32 required glyph_count glyph_among axes_in axis_count axes_for
    metric_field metric_tag stored_metric value_in_record metric_delta_in metric_delta metric_at
    glyph_data points_to simple_points last_component component_count simple_shape
    composite_shape shape_at shape_in shape_of own_points room_for
rows = record {
  whole = refl;
  prefixes = refl;
  codes_read = refl;
  names_read = refl;
  advances_read = refl;
  rooms = refl;
  components = refl;
  x_height = refl;
}
