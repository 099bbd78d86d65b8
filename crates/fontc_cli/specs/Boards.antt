-- The board of a run: that of the compilation whose font was written. fontc's own.
use Rattle.std.specs.Prelude.{◌≡◌, ◌⊎◌, ℕ, true, false, List, take, Option, Some, None}
use Rattle.outside_io.specs.Files.{Holding, told_bytes, replaced_by, Leaves}
use Rattle.whole_files.specs.Printing.{Printed, PrintsAll, PrintsPart}
use Rattle.font_plan.specs.Alone.{SourceBoard}
use Rattle.command_words.specs.Commands.{Build, Sample, Command, building, inspecting, sampling}
use Rattle.fontc_cli.specs.Compiled.{IsBoardOf, jobs_run}
use Rattle.fontc_cli.specs.Runs.{Outside, told_of}
use Rattle.fontc_cli.specs.Sampled.{text_of_sample}
use Rattle.fontc_cli.specs.declared.status.Status.{Status}
use Rattle.fontc_cli.specs.declared.status.Status.TheVariants.{Done, Usage, Refused, BadFont}
use Rattle.fontc_cli.specs.declared.status.Status.TheVariants.{ReadFault, WriteFault, ConsoleFault}
use Rattle.fontc_cli.specs.declared.status.Status.TheVariants.{NoMemory}

-- What a status says of a font that was begun to be written: all of it stands in the output, or
-- where a write failed first bytes of it. Of the other statuses no font was begun.
abbrev pub Begun : Status → List ℕ → Holding → Holding → Type 0
Begun Done font old new = Leaves (replaced_by font old) new
Begun ConsoleFault font old new = Leaves (replaced_by font old) new
Begun WriteFault font old new = Leaves old new ⊎ ((n : ℕ) × Leaves (replaced_by (take n font) old) new)
Begun Usage font old new = ⊥
Begun (Refused r) font old new = ⊥
Begun (BadFont fault) font old new = ⊥
Begun ReadFault font old new = ⊥
Begun NoMemory font old new = ⊥

-- no font was begun
abbrev pub NoneBegun : Status → Type 0
NoneBegun Done = ⊥
NoneBegun ConsoleFault = ⊥
NoneBegun WriteFault = ⊥
NoneBegun Usage = Unit {0}
NoneBegun (Refused r) = Unit {0}
NoneBegun (BadFont fault) = Unit {0}
NoneBegun ReadFault = Unit {0}
NoneBegun NoMemory = Unit {0}

-- A build has a board exactly where a font was begun to be written, and it is the board of that
-- font's compilation.
abbrev pub HasBuildBoard : Build → Status → Option SourceBoard → Outside → Outside → Type 0
HasBuildBoard command status None old new = NoneBegun status
HasBuildBoard command status (Some board) old new = (font : List ℕ)
    × IsBoardOf (told_bytes (old.holds command.source)) font board
    × Begun status font (old.holds command.output) (new.holds command.output)

-- where a line is printed, as far as that doesn't fail, it is this one
abbrev pub Tells : Status → List ℕ → Printed → Printed → Type 0
Tells Done line old new = PrintsAll line old new
Tells ConsoleFault line old new = PrintsPart line old new
Tells WriteFault line old new = Unit {0}
Tells Usage line old new = Unit {0}
Tells (Refused r) line old new = Unit {0}
Tells (BadFont fault) line old new = Unit {0}
Tells ReadFault line old new = Unit {0}
Tells NoMemory line old new = Unit {0}

-- A sample has a board exactly where its font, and not its text, was begun to be written: that of
-- the font's compilation. The line that tells of the font tells the jobs of this board.
abbrev pub HasSampleBoard : Sample → Status → Option SourceBoard → Outside → Outside → Type 0
HasSampleBoard command status None old new = (command.writes_text ≡ true) ⊎ NoneBegun status
HasSampleBoard command status (Some board) old new = (command.writes_text ≡ false)
    × ((font : List ℕ) × IsBoardOf (Some (text_of_sample command)) font board
    × Begun status font (old.holds command.output) (new.holds command.output)
    × Tells status (told_of command font (jobs_run board)) old.console new.console)

-- the same of any run: what is neither a build nor a sample has none
abbrev pub HasBoard : Option Command → Status → Option SourceBoard → Outside → Outside → Type 0
HasBoard None status board old new = board ≡ None
HasBoard (Some (building command)) status board old new = HasBuildBoard command status board old new
HasBoard (Some (inspecting command)) status board old new = board ≡ None
HasBoard (Some (sampling command)) status board old new =
    HasSampleBoard command status board old new

-- the board of a compilation whose font was begun
abbrev pub kept_board : Status → SourceBoard → Option SourceBoard
kept_board NoMemory board = None
kept_board Done board = Some board
kept_board ConsoleFault board = Some board
kept_board WriteFault board = Some board
kept_board Usage board = Some board
kept_board (Refused r) board = Some board
kept_board (BadFont fault) board = Some board
kept_board ReadFault board = Some board
