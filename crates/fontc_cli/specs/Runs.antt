-- How a run of a command ends, what it leaves, and what it prints. fontc's own.
use Rattle.std.specs.Prelude.{◌≡◌, ◌⊎◌, ℕ, List, [], take, length, Option, Some, None}
use Rattle.std.specs.Prelude.{Result, Ok, Err, IfSome}
use Rattle.outside_io.specs.Counts.{HasRisen, NoneRises}
use Rattle.outside_io.specs.Files.{Holding, told_bytes, replaced_by, Leaves, LeavesOthers}
use Rattle.outside_io.specs.Files.{LeavesAll}
use Rattle.whole_files.specs.Printing.{Printed, printed, PrintsAll, PrintsPart, Prints}
use Rattle.refusal_codes.specs.declared.refusal.Refusal.{Refusal}
use Rattle.font_plan.specs.Font.{font_of}
use Rattle.font_reader.specs.declared.faults.FontFault.{FontFault}
use Rattle.font_reader.specs.declared.points.Point.{Point}
use Rattle.command_words.specs.Commands.{Build, Inspect, Sample, Command, building, inspecting}
use Rattle.command_words.specs.Commands.{sampling}
use Rattle.fontc_cli.specs.Inspected.{inspected}
use Rattle.fontc_cli.specs.Lines.{lines_of, wrote, point_line, sample_line}
use Rattle.fontc_cli.specs.Sampled.{IsSampled, IsSampleRefused, IsSampleMakeable}
use Rattle.fontc_cli.specs.declared.status.Status.{Status}
use Rattle.fontc_cli.specs.declared.status.Status.TheVariants.{Done, Usage, Refused, BadFont}
use Rattle.fontc_cli.specs.declared.status.Status.TheVariants.{ReadFault, WriteFault, ConsoleFault}
use Rattle.fontc_cli.specs.declared.status.Status.TheVariants.{NoMemory}

-- what a command meets outside: what each path holds, as far as the files tell it, how many reads
-- and writes have failed, and the console
pub record Outside : Type 0 where
  pub holds : List ℕ → Holding
  pub failed_reads : List ℕ → ℕ
  pub failed_writes : List ℕ → ℕ
  pub console : Printed

-- files and a console, by their meanings
abbrev pub outside : {D E : Type 0} → (D → List ℕ → Holding) → (D → List ℕ → ℕ)
    → (D → List ℕ → ℕ) → (E → Option (List ℕ)) → (E → ℕ) → D → E → Outside
outside holds reads writes took failures files console = record {
  holds = holds files;
  failed_reads = reads files;
  failed_writes = writes files;
  console = printed took failures console;
}

-- a fact on files and a console before and after a run
abbrev pub Between : {D E : Type 0} → (Outside → Outside → Type 0) → (D → List ℕ → Holding)
    → (D → List ℕ → ℕ) → (D → List ℕ → ℕ) → (E → Option (List ℕ)) → (E → ℕ) → D → D → E → E
    → Type 0
Between fact holds reads writes took failures files files_after console console_after =
    fact (outside holds reads writes took failures files console)
    (outside holds reads writes took failures files_after console_after)

-- these bytes are the font of what the source's path held, where the files tell it
abbrev pub HoldsFontOf : Holding → List ℕ → Type 0
HoldsFontOf source font = IfSome (told_bytes source) (λ bytes. font_of bytes ≡ Ok font)

-- what the source's path held is refused so, where the files tell it
abbrev pub IsRefused : Holding → Refusal → Type 0
IsRefused source r = IfSome (told_bytes source) (λ bytes. font_of bytes ≡ Err r)

-- it is accepted, and the files tell it
abbrev pub IsAccepted : Holding → Type 0
IsAccepted source = (bytes : List ℕ) × (font : List ℕ) × (told_bytes source ≡ Some bytes)
    × (font_of bytes ≡ Ok font)

-- This path holds exactly these bytes, and every other path is as before. No read and no write of
-- files has failed.
pub record IsWritten (path bytes : List ℕ) (old new : Outside) : Type 0 where
  pub written : Leaves (replaced_by bytes (old.holds path)) (new.holds path)
  pub others : LeavesOthers path old.holds new.holds
  pub reads : NoneRises old.failed_reads new.failed_reads
  pub writes : NoneRises old.failed_writes new.failed_writes

-- A write of this path has failed: it is as before, or holds first bytes of these, which were to be
-- written. Every other path is as before, and no read has failed.
pub record IsPartlyWritten (path bytes : List ℕ) (old new : Outside) : Type 0 where
  pub begun : Leaves (old.holds path) (new.holds path)
      ⊎ ((n : ℕ) × Leaves (replaced_by (take n bytes) (old.holds path)) (new.holds path))
  pub others : LeavesOthers path old.holds new.holds
  pub reads : NoneRises old.failed_reads new.failed_reads
  pub writes : HasRisen (old.failed_writes path) (new.failed_writes path)

-- A read of this path has failed, and no write. No path has changed.
pub record IsUnread (path : List ℕ) (old new : Outside) : Type 0 where
  pub paths : LeavesAll old.holds new.holds
  pub reads : HasRisen (old.failed_reads path) (new.failed_reads path)
  pub writes : NoneRises old.failed_writes new.failed_writes

-- no path has changed, each is as far told as before, and no read and no write has failed
pub record LeavesFiles (old new : Outside) : Type 0 where
  pub paths : LeavesAll old.holds new.holds
  pub reads : NoneRises old.failed_reads new.failed_reads
  pub writes : NoneRises old.failed_writes new.failed_writes

-- What each status of a build says: when it comes, what it leaves, and what the console took. A
-- status of which nothing can hold never comes.
abbrev pub BuildEnds : Build → Status → Outside → Outside → Type 0
BuildEnds command Usage old new = ⊥
BuildEnds command (BadFont fault) old new = ⊥
BuildEnds command Done old new = (font : List ℕ)
    × HoldsFontOf (old.holds command.source) font
    × IsWritten command.output font old new
    × PrintsAll (lines_of (wrote (length font)) Done) old.console new.console
BuildEnds command ConsoleFault old new = (font : List ℕ)
    × HoldsFontOf (old.holds command.source) font
    × IsWritten command.output font old new
    × PrintsPart (lines_of (wrote (length font)) ConsoleFault) old.console new.console
BuildEnds command (Refused r) old new = LeavesFiles old new
    × IsRefused (old.holds command.source) r
    × Prints (lines_of [] (Refused r)) old.console new.console
BuildEnds command ReadFault old new = IsUnread command.source old new
    × Prints (lines_of [] ReadFault) old.console new.console
BuildEnds command WriteFault old new = (font : List ℕ)
    × HoldsFontOf (old.holds command.source) font
    × IsPartlyWritten command.output font old new
    × Prints (lines_of [] WriteFault) old.console new.console
BuildEnds command NoMemory old new = LeavesFiles old new × (new.console ≡ old.console)

-- inspecting what the font's path held gives this point, where the files tell it
abbrev pub GivesPoint : Inspect → Holding → Point → Type 0
GivesPoint command font point = IfSome (told_bytes font)
    (λ bytes. inspected command bytes ≡ Ok point)

-- it has this fault first
abbrev pub IsAtFault : Inspect → Holding → FontFault → Type 0
IsAtFault command font fault = IfSome (told_bytes font)
    (λ bytes. inspected command bytes ≡ Err fault)

-- it gives a point, and the files tell it
abbrev pub IsReadable : Inspect → Holding → Type 0
IsReadable command font = (bytes : List ℕ) × (point : Point) × (told_bytes font ≡ Some bytes)
    × (inspected command bytes ≡ Ok point)

-- What each status of an inspection says: when it comes, and what the console took. All files are
-- left as before.
abbrev pub InspectEnds : Inspect → Status → Outside → Outside → Type 0
InspectEnds command Usage old new = ⊥
InspectEnds command (Refused r) old new = ⊥
InspectEnds command WriteFault old new = ⊥
InspectEnds command Done old new = (point : Point) × LeavesFiles old new
    × GivesPoint command (old.holds command.font) point
    × PrintsAll (lines_of (point_line point) Done) old.console new.console
InspectEnds command ConsoleFault old new = (point : Point) × LeavesFiles old new
    × GivesPoint command (old.holds command.font) point
    × PrintsPart (lines_of (point_line point) ConsoleFault) old.console new.console
InspectEnds command (BadFont fault) old new = LeavesFiles old new
    × IsAtFault command (old.holds command.font) fault
    × Prints (lines_of [] (BadFont fault)) old.console new.console
InspectEnds command ReadFault old new = IsUnread command.font old new
    × Prints (lines_of [] ReadFault) old.console new.console
InspectEnds command NoMemory old new = LeavesFiles old new × (new.console ≡ old.console)

-- the line of a sample of which so many bytes are written, which so many jobs made
abbrev pub told_of : Sample → List ℕ → ℕ → List ℕ
told_of command bytes jobs = sample_line command.seed command.glyphs (length bytes) jobs

-- What each status of a sample says: when it comes, what it leaves, and what the console took.
-- Nothing is read, so no read fails.
abbrev pub SampleEnds : Sample → Status → Outside → Outside → Type 0
SampleEnds command Usage old new = ⊥
SampleEnds command (BadFont fault) old new = ⊥
SampleEnds command ReadFault old new = ⊥
SampleEnds command Done old new = (bytes : List ℕ) × (jobs : ℕ) × IsSampled command bytes jobs
    × IsWritten command.output bytes old new
    × PrintsAll (lines_of (told_of command bytes jobs) Done) old.console new.console
SampleEnds command ConsoleFault old new = (bytes : List ℕ) × (jobs : ℕ)
    × IsSampled command bytes jobs
    × IsWritten command.output bytes old new
    × PrintsPart (lines_of (told_of command bytes jobs) ConsoleFault) old.console new.console
SampleEnds command WriteFault old new = (bytes : List ℕ) × (jobs : ℕ)
    × IsSampled command bytes jobs
    × IsPartlyWritten command.output bytes old new
    × Prints (lines_of [] WriteFault) old.console new.console
SampleEnds command (Refused r) old new = LeavesFiles old new × IsSampleRefused command r
    × Prints (lines_of [] (Refused r)) old.console new.console
SampleEnds command NoMemory old new = LeavesFiles old new × (new.console ≡ old.console)

-- Words that are no command are `Usage`, or memory runs out before that is known. All files are
-- left as before, and where memory ran out the console took nothing.
abbrev pub UsageEnds : Status → Outside → Outside → Type 0
UsageEnds Usage old new = LeavesFiles old new × Prints (lines_of [] Usage) old.console new.console
UsageEnds Done old new = ⊥
UsageEnds (Refused r) old new = ⊥
UsageEnds (BadFont fault) old new = ⊥
UsageEnds ReadFault old new = ⊥
UsageEnds WriteFault old new = ⊥
UsageEnds ConsoleFault old new = ⊥
UsageEnds NoMemory old new = LeavesFiles old new × (new.console ≡ old.console)

-- the same of any words
abbrev pub RunEnds : Option Command → Status → Outside → Outside → Type 0
RunEnds None status old new = UsageEnds status old new
RunEnds (Some (building command)) status old new = BuildEnds command status old new
RunEnds (Some (inspecting command)) status old new = InspectEnds command status old new
RunEnds (Some (sampling command)) status old new = SampleEnds command status old new

-- A build whose source is accepted, and of which no read, no write and no print fails, gives its
-- font, or memory runs out. An inspection of a font that can be read, of which no read and no print
-- fails, gives its point, or memory runs out. A sample whose text is to be written, or accepted, of
-- which no write and no print fails, is written, or memory runs out.
abbrev pub IsComplete : Option Command → Status → Outside → Outside → Type 0
IsComplete None status old new = Unit {0}
IsComplete (Some (inspecting command)) status old new =
    IsReadable command (old.holds command.font)
    → (HasRisen (old.failed_reads command.font) (new.failed_reads command.font) → ⊥)
    → (HasRisen old.console.failures new.console.failures → ⊥)
    → (status ≡ Done) ⊎ (status ≡ NoMemory)
IsComplete (Some (building command)) status old new =
    IsAccepted (old.holds command.source)
    → (HasRisen (old.failed_reads command.source) (new.failed_reads command.source) → ⊥)
    → (HasRisen (old.failed_writes command.output) (new.failed_writes command.output) → ⊥)
    → (HasRisen old.console.failures new.console.failures → ⊥)
    → (status ≡ Done) ⊎ (status ≡ NoMemory)
IsComplete (Some (sampling command)) status old new =
    IsSampleMakeable command
    → (HasRisen (old.failed_writes command.output) (new.failed_writes command.output) → ⊥)
    → (HasRisen old.console.failures new.console.failures → ⊥)
    → (status ≡ Done) ⊎ (status ≡ NoMemory)

-- bytes are written to a path, and then a line is printed that tells of them, or memory runs out
-- before either
abbrev pub WritingEnds : List ℕ → List ℕ → List ℕ → Status → Outside → Outside → Type 0
WritingEnds path bytes told Done old new = IsWritten path bytes old new
    × PrintsAll (lines_of told Done) old.console new.console
WritingEnds path bytes told ConsoleFault old new = IsWritten path bytes old new
    × PrintsPart (lines_of told ConsoleFault) old.console new.console
WritingEnds path bytes told WriteFault old new = IsPartlyWritten path bytes old new
    × Prints (lines_of told WriteFault) old.console new.console
WritingEnds path bytes told NoMemory old new = LeavesFiles old new × (new.console ≡ old.console)
WritingEnds path bytes told Usage old new = ⊥
WritingEnds path bytes told (Refused r) old new = ⊥
WritingEnds path bytes told (BadFont fault) old new = ⊥
WritingEnds path bytes told ReadFault old new = ⊥

-- a refusal is printed, or memory runs out before anything is
abbrev pub IsTold : Refusal → Status → Printed → Printed → Type 0
IsTold r status old new = ((status ≡ Refused r) × Prints (lines_of [] (Refused r)) old new)
    ⊎ ((status ≡ NoMemory) × (new ≡ old))

-- what was read of a font is told, and a status answered: the point is printed, or the fault, or
-- memory runs out before anything is
abbrev pub IsPointTold : Status → Result Point FontFault → Printed → Printed → Type 0
IsPointTold NoMemory read old new = new ≡ old
IsPointTold Done (Ok point) old new = PrintsAll (point_line point) old new
IsPointTold Done (Err fault) old new = ⊥
IsPointTold ConsoleFault (Ok point) old new = PrintsPart (point_line point) old new
IsPointTold ConsoleFault (Err fault) old new = ⊥
IsPointTold (BadFont told) (Ok point) old new = ⊥
IsPointTold (BadFont told) (Err fault) old new = (fault ≡ told)
    × Prints (lines_of [] (BadFont told)) old new
IsPointTold Usage read old new = ⊥
IsPointTold (Refused r) read old new = ⊥
IsPointTold ReadFault read old new = ⊥
IsPointTold WriteFault read old new = ⊥
