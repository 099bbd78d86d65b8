-- What a proof unfolds to compute the tables of a font whose glyphs are written out.
use Rattle.std.specs.Prelude.{⊤}
use Rattle.std.specs.Fmt.{digits}
use Rattle.variation_model.specs.Places.{order_of}
use Rattle.variation_model.specs.Supports.{supports_of}
use Rattle.variation_model.specs.Deltas.{deltas_of}
use Rattle.metrics_tables.specs.Nesting.{depth_within}
use Rattle.metrics_tables.specs.Os2.{weight_fields, script_fields, class_fields, line_fields}
use Rattle.metrics_tables.specs.Os2.{code_page_fields, letter_fields, code_fields, master_fields}
use Rattle.metrics_tables.specs.Os2.{os2_table}
use Rattle.metrics_tables.specs.Post.{memory_fields, underline_fields, post_head, names_part}
use Rattle.character_codes.specs.CharacterCodes.{codes_of}
use Rattle.cmap_writer.specs.Cmap.{table_of}
use Rattle.cmap_writer.specs.Subtables.{entry_selector, search_fields, format_4_head, later_arrays}
use Rattle.cmap_writer.specs.Subtables.{format_4, format_12_head, format_12}
use Rattle.name_tables.specs.Names.{record_fields, name_head, name_table}
use Rattle.name_tables.specs.Texts.{utf16_bytes, version_text, postscript_text}

unfoldable pub tables_on_literals : ⊤
unfolding digits order_of supports_of deltas_of depth_within weight_fields script_fields class_fields
    line_fields code_page_fields letter_fields code_fields master_fields os2_table memory_fields
    underline_fields post_head names_part codes_of table_of entry_selector search_fields format_4_head
    later_arrays format_4 format_12_head format_12 record_fields name_head name_table utf16_bytes
    version_text postscript_text
tables_on_literals = tt
