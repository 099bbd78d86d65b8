-- The command of what clap has found. What a proof alone needs.
use Rattle.std.specs.Prelude.{Bool, false, List, Option, Some, None, codes}
use Rattle.std.specs.Prelude.{if◌then◌else◌}
use Rattle.clap.specs.Words.{Row, Text, first_of}
use Rattle.command_words.specs.Commands.{Command, is_word, build_of, inspect_of, sample_of}

abbrev pub build_with : Option Text → Option Text → Option Command
build_with (Some source) (Some output) = build_of (codes "build") source output
build_with (Some source) None = None
build_with None output = None

abbrev pub build_in : List Row → Option Command
build_in rows = build_with (first_of (codes "IN") rows) (first_of (codes "OUT") rows)

abbrev pub inspect_words : Option Text → Option Text → Option Text → Option Text → Option Text
    → Option Command
inspect_words (Some kind) (Some font) (Some glyph) (Some index) (Some place) =
    inspect_of (codes "inspect") kind font glyph index place
inspect_words (Some kind) (Some font) (Some glyph) (Some index) None = None
inspect_words (Some kind) (Some font) (Some glyph) None place = None
inspect_words (Some kind) (Some font) None index place = None
inspect_words (Some kind) None glyph index place = None
inspect_words None font glyph index place = None

abbrev pub inspect_in : List Row → Option Command
inspect_in rows = inspect_words (first_of (codes "KIND") rows) (first_of (codes "FONT") rows)
    (first_of (codes "GID") rows) (first_of (codes "INDEX") rows) (first_of (codes "COORDS") rows)

abbrev pub is_true_text : Option Text → Bool
is_true_text (Some text) = is_word text (codes "true")
is_true_text None = false

abbrev pub has_option : List Row → Bool
has_option rows = is_true_text (first_of (codes "source") rows)

abbrev pub sample_words : Bool → Option Text → Option Text → Option Text → Option Command
sample_words writes_text (Some seed) (Some glyphs) (Some output) =
    sample_of writes_text (codes "sample") seed glyphs output
sample_words writes_text (Some seed) (Some glyphs) None = None
sample_words writes_text (Some seed) None output = None
sample_words writes_text None glyphs output = None

abbrev pub sample_in : List Row → Option Command
sample_in rows = sample_words (has_option rows) (first_of (codes "SEED") rows)
    (first_of (codes "GLYPHS") rows) (first_of (codes "OUT") rows)

-- the command of this name, of what was found behind its name
abbrev pub command_named : Text → List Row → Option Command
command_named name rows = if is_word name (codes "build") then build_in rows
    else (if is_word name (codes "inspect") then inspect_in rows
    else (if is_word name (codes "sample") then sample_in rows else None))

-- the command of all that was found
abbrev pub command_in : Option (Text × List Row) → Option Command
command_in None = None
command_in (Some found) = command_named found.0 found.1
