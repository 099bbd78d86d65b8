-- The bytes of feature code: of names, numbers, comments and white space. The Adobe feature file
-- specification, sections 2.a ("Comments"), 2.b ("White space") and 2.f ("Glyphs"), with fontc's
-- own choice of the bytes of a name.
use Rattle.std.specs.Prelude.{ℕ, Bool, ◌&&◌, ◌||◌, not, ◌==◌}
use Rattle.std.specs.Char.{is_ascii_digit, is_ascii_alphabetic}
use Rattle.feature_tokens.specs.declared.bytes.Run.{Run}
use Rattle.feature_tokens.specs.declared.bytes.Run.TheVariants as runs

-- a letter, _ or .
unfoldable pub starts_name : ℕ → Bool
starts_name byte = is_ascii_alphabetic byte || byte == 95 || byte == 46

-- what a run of each kind goes on with. White space: space, tab, carriage return and line feed;
-- the last two end a comment. A name: also digits and -
unfoldable pub belongs : Run → ℕ → Bool
belongs runs.Space byte = byte == 32 || byte == 9 || byte == 13 || byte == 10
belongs runs.Comment byte = not (byte == 13) && not (byte == 10)
belongs runs.Name byte = starts_name byte || is_ascii_digit byte || byte == 45
belongs runs.Digits byte = is_ascii_digit byte
