-- What a proof unfolds to compute the font of a source that is written out.
use Rattle.std.specs.Prelude.{⊤}
use lib.Utf8.{encode}
use Rattle.std.specs.Str.{is_utf8, chars}
use Rattle.std.specs.Str.Lossy.{utf8_valid_len}
use Rattle.plist_reader.specs.Characters.{is_space, is_word, octal_value, hex_value, byte_of}
use Rattle.plist_reader.specs.Escapes.{character_of, escape_begun, escape_unit, escape_digit}
use Rattle.plist_reader.specs.Escapes.{escape_next}
use Rattle.plist_reader.specs.Reading.{start, value_ended, key_ended, text_ended, unexpected_rule}
use Rattle.plist_reader.specs.Reading.{text_begun, bracket_opened, value_begun, list_closed}
use Rattle.plist_reader.specs.Reading.{dictionary_closed, between, in_word, in_quoted, in_bytes}
use Rattle.plist_reader.specs.Reading.{in_half, step, whole, finish, read_of}
use Rattle.glyphs_source.specs.OnLiterals.{header_on_literals, index_on_literals}
use Rattle.glyphs_layers.specs.OnLiterals.{glyphs_on_literals}
use Rattle.component_flatten.specs.Flattening.{flat_record, flat_of}
use Rattle.font_assembly.specs.Checksum.{total}
use Rattle.font_assembly.specs.File.{entry_selector, directory_head, directory_entry}
use Rattle.font_assembly.specs.File.{unadjusted_file, file}
use Rattle.metrics_tables.specs.Tables.{head_table, hhea_table, maxp_table}
use Rattle.job_graph.specs.Rounds.{limit}
use Rattle.font_graph.specs.Descent.{ends_within}
use Rattle.font_graph.specs.Graph.{on, settle, flat_within}
use Rattle.font_graph.specs.Verdicts.{verdict}
use Rattle.font_graph.specs.Direct.{direct, drawn_within}
use Rattle.font_plan.specs.Direct.{direct_font}
use Rattle.font_plan.specs.Font.{font_of}
use Rattle.font_plan.specs.Jobs.{tree_of}

unfoldable pub font_on_literals : ⊤
unfolding is_utf8 chars utf8_valid_len encode is_space is_word octal_value hex_value byte_of
    character_of escape_begun escape_unit escape_digit escape_next start value_ended key_ended
    text_ended unexpected_rule text_begun bracket_opened value_begun list_closed dictionary_closed
    between in_word in_quoted in_bytes in_half step whole finish read_of header_on_literals
    index_on_literals glyphs_on_literals flat_record flat_of total entry_selector directory_head
    directory_entry unadjusted_file file head_table hhea_table maxp_table direct
    direct_font drawn_within limit on settle ends_within flat_within verdict tree_of font_of
font_on_literals = tt
