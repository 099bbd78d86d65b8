-- What a sample writes: its text, or the font of it. fontc's own.
use Rattle.std.specs.Prelude.{◌≡◌, ℕ, Bool, true, false, List, Some, Ok, Err}
use Rattle.sample_maker.specs.SampleText.{sample_text}
use Rattle.refusal_codes.specs.declared.refusal.Refusal.{Refusal}
use Rattle.font_plan.specs.Alone.{SourceBoard}
use Rattle.font_plan.specs.Font.{font_of}
use Rattle.command_words.specs.Commands.{Sample}
use Rattle.fontc_cli.specs.Compiled.{IsBoardOf, jobs_run}

-- the text of the sample that a command names
abbrev pub text_of_sample : Sample → List ℕ
text_of_sample command = sample_text command.seed command.glyphs

-- These bytes, by what the command writes. The text is made by no job. The font is that of the
-- text, made by the jobs of a board over it that has ended.
abbrev pub Makes : Bool → List ℕ → List ℕ → ℕ → Type 0
Makes true text bytes jobs = (bytes ≡ text) × (jobs ≡ 0)
Makes false text bytes jobs = (board : SourceBoard) × IsBoardOf (Some text) bytes board
    × (jobs ≡ jobs_run board)

-- what a command writes: these bytes, which so many jobs made
abbrev pub IsSampled : Sample → List ℕ → ℕ → Type 0
IsSampled command bytes jobs = Makes command.writes_text (text_of_sample command) bytes jobs

-- the font of the text is to be written, and the text is refused so
abbrev pub IsSampleRefused : Sample → Refusal → Type 0
IsSampleRefused command r = (command.writes_text ≡ false)
    × (font_of (text_of_sample command) ≡ Err r)

-- The text is to be written, or it is accepted.
abbrev pub CanBeMade : Bool → List ℕ → Type 0
CanBeMade true text = Unit {0}
CanBeMade false text = (font : List ℕ) × (font_of text ≡ Ok font)

abbrev pub IsSampleMakeable : Sample → Type 0
IsSampleMakeable command = CanBeMade command.writes_text (text_of_sample command)
