-- Why what a sample writes is what it must be.
use Rattle.std.proofs.Common.{◌≡◌, ℕ, true, false, Bool, List, Some, Ok, Err, refl, sym, ap, subst}
use Rattle.std.proofs.Common.{◌∙◌}
use Rattle.refusal_codes.specs.declared.refusal.Refusal.{Refusal}
use Rattle.font_plan.specs.Alone.{SourceBoard, HasEnded}
use Rattle.font_plan.specs.Font.{font_of}
use Rattle.command_words.specs.Commands.{Sample}
use Rattle.fontc_cli.specs.Compiled.{IsBoardOf, jobs_run}
use Rattle.fontc_cli.specs.Sampled.{Makes, IsSampled, IsSampleRefused, text_of_sample}

-- the text that is to be written is made by no job
pub text_is_sampled : (command : Sample) (text : List ℕ) → command.writes_text ≡ true
    → text ≡ text_of_sample command → IsSampled command text 0
text_is_sampled command text of_text is =
    subst (λ (b : Bool). Makes b (text_of_sample command) text 0) (sym of_text) (is, refl)

-- a font is made by the jobs of its board
pub font_is_sampled : (command : Sample) (font : List ℕ) (jobs : ℕ) (board : SourceBoard)
    → command.writes_text ≡ false → IsBoardOf (Some (text_of_sample command)) font board
    → jobs ≡ jobs_run board → IsSampled command font jobs
font_is_sampled command font jobs board of_font is counted =
    subst (λ (b : Bool). Makes b (text_of_sample command) font jobs) (sym of_font)
    (board, is, counted)

-- the board of a compilation of the text
pub board_of_text : (command : Sample) (text font : List ℕ) (board : SourceBoard)
    → text ≡ text_of_sample command → HasEnded board → board.workers ≡ 1 → board.plan ≡ text
    → font_of text ≡ Ok font → IsBoardOf (Some (text_of_sample command)) font board
board_of_text command text font board is ended alone over compiled = record {
  ended = ended;
  one_worker = alone;
  over = over ∙ is;
  verdict = ap font_of over ∙ compiled;
}

pub text_is_refused : (command : Sample) (text : List ℕ) (r : Refusal)
    → command.writes_text ≡ false → text ≡ text_of_sample command → font_of text ≡ Err r
    → IsSampleRefused command r
text_is_refused command text r of_font is refused = (of_font, sym (ap font_of is) ∙ refused)
