-- Why a run has the board that it has.
use Rattle.std.proofs.Common.{◌≡◌, ℕ, false, List, Option, Some, None, IfSome, inl, inr}
use Rattle.std.proofs.Common.{subst, sym, ◌∙◌}
use Rattle.outside_io.specs.Files.{Holding, told_bytes}
use Rattle.whole_files.specs.Printing.{Printed}
use Rattle.refusal_codes.specs.declared.refusal.Refusal.{Refusal}
use Rattle.font_plan.specs.Alone.{SourceBoard}
use Rattle.fontc_cli.specs.Boards.{Begun, NoneBegun, HasBuildBoard, HasSampleBoard, kept_board}
use Rattle.command_words.specs.Commands.{Build, Sample}
use Rattle.fontc_cli.specs.Compiled.{IsBoardOf, jobs_run}
use Rattle.fontc_cli.specs.Runs.{Outside, LeavesFiles, IsTold, WritingEnds, told_of}
use Rattle.fontc_cli.specs.Sampled.{text_of_sample}
use Rattle.fontc_cli.specs.declared.status.Status.{Status}
use Rattle.fontc_cli.specs.declared.status.Status.TheVariants.{Done, Usage, Refused, BadFont}
use Rattle.fontc_cli.specs.declared.status.Status.TheVariants.{ReadFault, WriteFault, ConsoleFault}
use Rattle.fontc_cli.specs.declared.status.Status.TheVariants.{NoMemory}

-- where the font is begun the board is kept
board_kept : (command : Build) (status : Status) (font told : List ℕ) (board : SourceBoard)
    (old new : Outside) → IsBoardOf (told_bytes (old.holds command.source)) font board
    → WritingEnds command.output font told status old new
    → HasBuildBoard command status (kept_board status board) old new
board_kept command NoMemory font told board old new is ends = tt
board_kept command Done font told board old new is ends = (font, is, ends.0.written)
board_kept command ConsoleFault font told board old new is ends = (font, is, ends.0.written)
board_kept command WriteFault font told board old new is ends = (font, is, ends.0.begun)
board_kept command Usage font told board old new is ends = absurd ends
board_kept command (Refused r) font told board old new is ends = absurd ends
board_kept command (BadFont fault) font told board old new is ends = absurd ends
board_kept command ReadFault font told board old new is ends = absurd ends

sample_board_kept : (command : Sample) (status : Status) (font : List ℕ) (board : SourceBoard)
    (old new : Outside) → command.writes_text ≡ false
    → IsBoardOf (Some (text_of_sample command)) font board
    → WritingEnds command.output font (told_of command font (jobs_run board)) status old new
    → HasSampleBoard command status (kept_board status board) old new
sample_board_kept command NoMemory font board old new of_font is ends = inr tt
sample_board_kept command Done font board old new of_font is ends =
    (of_font, (font, is, ends.0.written, ends.1))
sample_board_kept command ConsoleFault font board old new of_font is ends =
    (of_font, (font, is, ends.0.written, ends.1))
sample_board_kept command WriteFault font board old new of_font is ends =
    (of_font, (font, is, ends.0.begun, tt))
sample_board_kept command Usage font board old new of_font is ends = absurd ends
sample_board_kept command (Refused r) font board old new of_font is ends = absurd ends
sample_board_kept command (BadFont fault) font board old new of_font is ends = absurd ends
sample_board_kept command ReadFault font board old new of_font is ends = absurd ends

-- what is refused has none
pub none_told : (r : Refusal) (status : Status) (old new : Printed) → IsTold r status old new
    → NoneBegun status
none_told r status old new (inl told) = subst NoneBegun (sym told.0) tt
none_told r status old new (inr ran_out) = subst NoneBegun (sym ran_out.0) tt

begun_after : (status : Status) (font : List ℕ) (old read new : Holding) → read ≡ old
    → Begun status font read new → Begun status font old new
begun_after status font old read new same begun =
    subst (λ (held : Holding). Begun status font held new) same begun

-- reading changes nothing of it
pub board_after : (command : Build) (status : Status) (board : Option SourceBoard)
    (old read new : Outside) → LeavesFiles old read
    → HasBuildBoard command status board read new → HasBuildBoard command status board old new
board_after command status None old read new same has = has
board_after command status (Some board) old read new same has = (
  has.0,
  subst (λ (held : Holding). IsBoardOf (told_bytes held) has.0 board) (same.paths command.source)
      has.1,
  begun_after status has.0 (old.holds command.output) (read.holds command.output)
      (new.holds command.output) (same.paths command.output) has.2,
)

-- what was read is what the board is over
pub over_told : (told : Option (List ℕ)) (plan source : List ℕ) → plan ≡ source
    → IfSome told (λ bytes. source ≡ bytes) → IfSome told (λ bytes. plan ≡ bytes)
over_told None plan source e is = tt
over_told (Some bytes) plan source e is = e ∙ is

-- a report of a compilation whose font was begun, or for which memory ran out before
pub board_reported : (command : Build) (status : Status) (font line : List ℕ) (board : SourceBoard)
    (old new : Outside) (told : Status) (kept : Option SourceBoard) → told ≡ status
    → kept ≡ kept_board status board
    → IsBoardOf (told_bytes (old.holds command.source)) font board
    → WritingEnds command.output font line status old new
    → HasBuildBoard command told kept old new
board_reported command status font line board old new told kept same is of ends =
    subst (λ (s : Status). HasBuildBoard command s kept old new) (sym same)
    (subst (λ (b : Option SourceBoard). HasBuildBoard command status b old new) (sym is)
    (board_kept command status font line board old new of ends))

-- the same of a sample
pub sample_board_reported : (command : Sample) (status : Status) (font : List ℕ) (jobs : ℕ)
    (board : SourceBoard) (old new : Outside) (told : Status) (kept : Option SourceBoard)
    → told ≡ status → kept ≡ kept_board status board → command.writes_text ≡ false
    → IsBoardOf (Some (text_of_sample command)) font board → jobs ≡ jobs_run board
    → WritingEnds command.output font (told_of command font jobs) status old new
    → HasSampleBoard command told kept old new
sample_board_reported command status font jobs board old new told kept same is of_font of counted
    ends =
    let ends_so = subst (λ (n : ℕ).
    WritingEnds command.output font (told_of command font n) status old new) counted ends in
    subst (λ (s : Status). HasSampleBoard command s kept old new) (sym same)
    (subst (λ (b : Option SourceBoard). HasSampleBoard command status b old new) (sym is)
    (sample_board_kept command status font board old new of_font of ends_so))
