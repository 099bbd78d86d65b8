-- What a proof by computation unfolds to compute the header and the index of a source that is
-- written out. Only such proofs need this module.
use Rattle.std.specs.Prelude.{⊤}
use Rattle.source_values.specs.OnLiterals.{values_on_literals}
use Rattle.source_axes.specs.OnLiterals.{axes_on_literals}
use Rattle.source_masters.specs.OnLiterals.{masters_on_literals}
use Rattle.axis_space.specs.Placing.{place_of, placed}
use Rattle.axis_space.specs.Repeats.{first_repeat}
use Rattle.axis_space.specs.UnmappedAxes.{first_unmapped}
use Rattle.font_ir.specs.AxisMaps.{pairs_of}
use Rattle.glyphs_source.specs.HeaderReading.{version_failures, name_and_numbers_failures}
use Rattle.glyphs_source.specs.HeaderReading.{design_failures, feature_forms_failures, top_failures}
use Rattle.glyphs_source.specs.HeaderReading.{count_failures, source_failure, origin_at}
use Rattle.glyphs_source.specs.HeaderReading.{placed_masters, place_failure_of, place_under}
use Rattle.glyphs_source.specs.HeaderReading.{header_record, judged_header, header_by, header_of}
use Rattle.glyphs_source.specs.IndexReading.{codes_failures, glyph_parts_failures}
use Rattle.glyphs_source.specs.IndexReading.{glyph_list_failures, code_at, codes_at, glyph_codes}
use Rattle.glyphs_source.specs.IndexReading.{glyph_name, is_exported, entry_of, glyph_numbers}
use Rattle.glyphs_source.specs.IndexReading.{index_of}

unfoldable pub header_on_literals : ⊤
unfolding values_on_literals axes_on_literals masters_on_literals place_of placed first_repeat
    first_unmapped pairs_of version_failures name_and_numbers_failures design_failures
    feature_forms_failures top_failures count_failures source_failure origin_at placed_masters
    place_failure_of place_under header_record judged_header header_by header_of
header_on_literals = tt

unfoldable pub index_on_literals : ⊤
unfolding values_on_literals codes_failures glyph_parts_failures glyph_list_failures code_at
    codes_at glyph_codes glyph_name is_exported entry_of glyph_numbers index_of
index_on_literals = tt
