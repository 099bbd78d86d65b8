-- The commands as clap reads them, and the words that it is given. What a proof alone needs.
use Rattle.std.specs.Prelude.{◌||◌, ℕ, Bool, true, List, Some, codes}
use Rattle.clap.specs.Words.{App, Rule, Text, new_app, new_rule, with_rule, with_subcommand}
use Rattle.clap.specs.Simple.{on_top}
use Rattle.clap.specs.declared.builder.action.ArgAction.TheVariants.{SetTrue}
use Rattle.command_words.specs.Commands.{is_path, is_source_option}

-- a word is a path or the option
abbrev pub may_be_given : List ℕ → Bool
may_be_given word = is_path word || is_source_option word

abbrev pub word_rule : Text → Rule
word_rule name = record (new_rule name) { required = true }

abbrev pub option_rule : Rule
option_rule = record (new_rule (codes "source")) {
  long = Some (codes "source");
  action = Some SetTrue;
}

abbrev pub with_word : App → Text → App
with_word app name = with_rule app (word_rule name)

abbrev pub build_app : App
build_app = with_word (with_word (new_app (codes "build")) (codes "IN")) (codes "OUT")

abbrev pub inspect_font_app : App
inspect_font_app = with_word (with_word (new_app (codes "inspect")) (codes "KIND")) (codes "FONT")

abbrev pub inspect_app : App
inspect_app = with_word (with_word (with_word inspect_font_app (codes "GID")) (codes "INDEX"))
    (codes "COORDS")

abbrev pub sample_app : App
sample_app = with_rule (with_word (with_word (with_word (new_app (codes "sample"))
    (codes "SEED")) (codes "GLYPHS")) (codes "OUT")) option_rule

abbrev pub program_app : App
program_app = on_top (λ s. record s {
  no_binary_name = true;
  disable_help_flag = true;
  disable_help_subcommand = true;
  subcommand_required = true;
}) (new_app (codes "fontc"))

abbrev pub fontc_app : App
fontc_app = with_subcommand (with_subcommand (with_subcommand program_app build_app.top)
    inspect_app.top) sample_app.top
