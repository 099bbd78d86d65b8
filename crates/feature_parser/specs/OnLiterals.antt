-- What a proof by computation unfolds to read a text that is written out. Only such proofs need
-- this module.
use Rattle.std.specs.Prelude.{⊤}
use Rattle.feature_tokens.specs.Bytes.{starts_name, belongs}
use Rattle.feature_tokens.specs.Tokens.{name_length, marked_piece, piece_of, tokens_of}
use Rattle.feature_tokens.specs.Words.{is_word, block_word, flag_word, rule_word, keyword_of}
use Rattle.feature_tokens.specs.Words.{digits_value, signed, number_of, lexeme_of, words_of}
use Rattle.rule_words.specs.Lines.{placed_items, settled, takes_item, with_item, paired}
use Rattle.rule_words.specs.Lines.{context_of, next_context, by_word, from_word, is_one_glyph}
use Rattle.rule_words.specs.Lines.{is_one_set, by_set, give_item, give_glyph, give_set}
use Rattle.rule_words.specs.Lines.{takes_set, give_value, takes_value, give_number, asks_name}
use Rattle.rule_words.specs.Lines.{give_name, asks_tag, give_tag, is_behind_pos, follows_pos}
use Rattle.rule_words.specs.Lines.{is_position_word, is_no_glyph, give_plain, give_escaped}
use Rattle.rule_words.specs.Lines.{give_class, start_statement, start, give_keyword, give_sign}
use Rattle.rule_words.specs.Lines.{ended_items, entry_of}
use Rattle.feature_grammar.specs.Grammar.{spells}
use Rattle.feature_parser.specs.Reading.{file_of}

unfoldable pub texts_on_literals : ⊤
unfolding starts_name belongs name_length marked_piece piece_of tokens_of is_word block_word
    flag_word rule_word keyword_of digits_value signed number_of lexeme_of words_of
    placed_items settled takes_item with_item paired context_of next_context by_word from_word
    is_one_glyph is_one_set by_set give_item give_glyph give_set takes_set give_value
    takes_value give_number asks_name give_name asks_tag give_tag is_behind_pos follows_pos
    is_position_word is_no_glyph give_plain give_escaped give_class start_statement start
    give_keyword give_sign ended_items entry_of file_of
    spells
texts_on_literals = tt
