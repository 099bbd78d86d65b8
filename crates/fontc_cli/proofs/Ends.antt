-- How a build ends once its source is read, and where that is refused; how a sample ends; and why a
-- run that ends so is complete.
use Rattle.std.proofs.Common.{◌≡◌, ℕ, List, [], length, take, Option, Some, None, IfSome, Ok, Err}
use Rattle.std.proofs.Common.{refl, sym, subst, ◌∙◌, inl, inr, ◌⊎◌, Bool, true, false}
use Rattle.outside_io.specs.Counts.{HasRisen}
use Rattle.outside_io.specs.Files.{Holding, replaced_by, Leaves}
use Rattle.whole_files.specs.Printing.{Printed, PrintsAll, PrintsPart, Prints}
use Rattle.refusal_codes.specs.declared.refusal.Refusal.{Refusal}
use Rattle.font_plan.specs.Font.{font_of}
use Rattle.font_reader.specs.declared.faults.FontFault.{FontFault}
use Rattle.font_reader.specs.declared.points.Point.{Point}
use Rattle.command_words.specs.Commands.{Build, Inspect, Sample, Command, building, inspecting}
use Rattle.command_words.specs.Commands.{sampling}
use Rattle.fontc_cli.specs.Inspected.{inspected}
use Rattle.fontc_cli.specs.Lines.{lines_of, wrote}
use Rattle.fontc_cli.specs.Runs.{Outside, HoldsFontOf, IsRefused, IsWritten, IsPartlyWritten}
use Rattle.fontc_cli.specs.Runs.{IsUnread, LeavesFiles, BuildEnds, SampleEnds, WritingEnds, told_of}
use Rattle.fontc_cli.specs.Runs.{RunEnds, IsComplete, IsTold}
use Rattle.fontc_cli.specs.Sampled.{IsSampled, IsSampleRefused, CanBeMade, text_of_sample}
use Rattle.fontc_cli.specs.declared.status.Status.{Status}
use Rattle.fontc_cli.specs.declared.status.Status.TheVariants.{Done, Usage, Refused, BadFont}
use Rattle.fontc_cli.specs.declared.status.Status.TheVariants.{ReadFault, WriteFault, ConsoleFault}
use Rattle.fontc_cli.specs.declared.status.Status.TheVariants.{NoMemory}

-- A build of which a read of its source comes first, with no fault, ends as the rest of it does:
-- the read changes nothing.

written_after : (path bytes : List ℕ) (old read new : Outside) → LeavesFiles old read
    → IsWritten path bytes read new → IsWritten path bytes old new
written_after path bytes old read new same ends = record {
  written = subst (λ (held : Holding). Leaves (replaced_by bytes held) (new.holds path))
      (same.paths path) ends.written;
  others = λ other differs. subst (λ (held : Holding). Leaves held (new.holds other))
      (same.paths other) (ends.others other differs);
  reads = λ other. ends.reads other ∙ same.reads other;
  writes = λ other. ends.writes other ∙ same.writes other;
}

partly_written_after : (path bytes : List ℕ) (old read new : Outside) → LeavesFiles old read
    → IsPartlyWritten path bytes read new → IsPartlyWritten path bytes old new
partly_written_after path bytes old read new same ends = record {
  begun = subst (λ (held : Holding). Leaves held (new.holds path)
      ⊎ ((n : ℕ) × Leaves (replaced_by (take n bytes) held) (new.holds path)))
      (same.paths path) ends.begun;
  others = λ other differs. subst (λ (held : Holding). Leaves held (new.holds other))
      (same.paths other) (ends.others other differs);
  reads = λ other. ends.reads other ∙ same.reads other;
  writes = subst (λ (count : ℕ). HasRisen count (new.failed_writes path)) (same.writes path)
      ends.writes;
}

font_after : (command : Build) (font : List ℕ) (old read : Outside) → LeavesFiles old read
    → HoldsFontOf (read.holds command.source) font → HoldsFontOf (old.holds command.source) font
font_after command font old read same is =
    subst (λ (held : Holding). HoldsFontOf held font) (same.paths command.source) is

unread_after : (command : Build) (old read new : Outside) → LeavesFiles old read
    → IsUnread command.source read new → IsUnread command.source old new
unread_after command old read new same unread = record {
  paths = λ path. unread.paths path ∙ same.paths path;
  reads = subst (λ (count : ℕ). HasRisen count (new.failed_reads command.source))
      (same.reads command.source) unread.reads;
  writes = λ path. unread.writes path ∙ same.writes path;
}

left_after : (old read new : Outside) → LeavesFiles old read → LeavesFiles read new
    → LeavesFiles old new
left_after old read new same left = record {
  paths = λ path. left.paths path ∙ same.paths path;
  reads = λ path. left.reads path ∙ same.reads path;
  writes = λ path. left.writes path ∙ same.writes path;
}

pub ends_after : (command : Build) (status : Status) (old read new : Outside)
    → LeavesFiles old read → read.console ≡ old.console → BuildEnds command status read new
    → BuildEnds command status old new
ends_after command Done old read new same silent ends = (
  ends.0,
  font_after command ends.0 old read same ends.1,
  written_after command.output ends.0 old read new same ends.2,
  subst (λ (first : Printed). PrintsAll (wrote (length ends.0)) first new.console) silent ends.3,
)
ends_after command ConsoleFault old read new same silent ends = (
  ends.0,
  font_after command ends.0 old read same ends.1,
  written_after command.output ends.0 old read new same ends.2,
  subst (λ (first : Printed). PrintsPart (wrote (length ends.0)) first new.console) silent ends.3,
)
ends_after command Usage old read new same silent ends = absurd ends
ends_after command (BadFont fault) old read new same silent ends = absurd ends
ends_after command (Refused r) old read new same silent ends = (
  left_after old read new same ends.0,
  subst (λ (held : Holding). IsRefused held r) (same.paths command.source) ends.1,
  subst (λ (first : Printed). Prints (lines_of [] (Refused r)) first new.console) silent ends.2,
)
ends_after command ReadFault old read new same silent ends = (
  unread_after command old read new same ends.0,
  subst (λ (first : Printed). Prints (lines_of [] ReadFault) first new.console) silent ends.1,
)
ends_after command WriteFault old read new same silent ends = (
  ends.0,
  font_after command ends.0 old read same ends.1,
  partly_written_after command.output ends.0 old read new same ends.2,
  subst (λ (first : Printed). Prints (lines_of [] WriteFault) first new.console) silent ends.3,
)
ends_after command NoMemory old read new same silent ends
    = (left_after old read new same ends.0, ends.1 ∙ silent)

-- a refusal that is printed, or for which memory runs out, ends a build
pub refused_ends : (command : Build) (r : Refusal) (status : Status) (old new : Outside)
    → LeavesFiles old new → IsRefused (old.holds command.source) r
    → IsTold r status old.console new.console → BuildEnds command status old new
refused_ends command r status old new files refused (inl told) =
    subst (λ (s : Status). BuildEnds command s old new) (sym told.0) (files, refused, told.1)
refused_ends command r status old new files refused (inr ran_out) =
    subst (λ (s : Status). BuildEnds command s old new) (sym ran_out.0) (files, ran_out.1)

-- a font of what was read that is written, or for which memory runs out, ends a build
pub font_written_ends : (command : Build) (font told : List ℕ) (status : Status)
    (old new : Outside) → HoldsFontOf (old.holds command.source) font
    → told ≡ wrote (length font) → WritingEnds command.output font told status old new
    → BuildEnds command status old new
font_written_ends command font told status old new is same ends =
    by status (subst (λ (line : List ℕ). WritingEnds command.output font line status old new) same
    ends)
  where
    by : (s : Status) → WritingEnds command.output font (wrote (length font)) s old new
        → BuildEnds command s old new
    by Done e = (font, is, e.0, e.1)
    by ConsoleFault e = (font, is, e.0, e.1)
    by WriteFault e = (font, is, e.0, e.1)
    by NoMemory e = e
    by Usage e = absurd e
    by (Refused r) e = absurd e
    by (BadFont fault) e = absurd e
    by ReadFault e = absurd e

-- the same of a sample
pub sample_written_ends : (command : Sample) (bytes : List ℕ) (jobs : ℕ) (status : Status)
    (old new : Outside) → IsSampled command bytes jobs
    → WritingEnds command.output bytes (told_of command bytes jobs) status old new
    → SampleEnds command status old new
sample_written_ends command bytes jobs Done old new is e = (bytes, jobs, is, e.0, e.1)
sample_written_ends command bytes jobs ConsoleFault old new is e = (bytes, jobs, is, e.0, e.1)
sample_written_ends command bytes jobs WriteFault old new is e = (bytes, jobs, is, e.0, e.1)
sample_written_ends command bytes jobs NoMemory old new is e = e
sample_written_ends command bytes jobs Usage old new is e = absurd e
sample_written_ends command bytes jobs (Refused r) old new is e = absurd e
sample_written_ends command bytes jobs (BadFont fault) old new is e = absurd e
sample_written_ends command bytes jobs ReadFault old new is e = absurd e

pub sample_refused_ends : (command : Sample) (r : Refusal) (status : Status) (old new : Outside)
    → LeavesFiles old new → IsSampleRefused command r → IsTold r status old.console new.console
    → SampleEnds command status old new
sample_refused_ends command r status old new files refused (inl told) =
    subst (λ (s : Status). SampleEnds command s old new) (sym told.0) (files, refused, told.1)
sample_refused_ends command r status old new files refused (inr ran_out) =
    subst (λ (s : Status). SampleEnds command s old new) (sym ran_out.0) (files, ran_out.1)

-- no source is refused and accepted
not_both : (told : Option (List ℕ)) (r : Refusal) (bytes font : List ℕ)
    → IfSome told (λ source. font_of source ≡ Err r) → told ≡ Some bytes → font_of bytes ≡ Ok font
    → ⊥
not_both told r bytes font refused is_told accepted =
    let refuses : font_of bytes ≡ Err r
    = subst (λ (t : Option (List ℕ)). IfSome t (λ source. font_of source ≡ Err r)) is_told refused
    in
    let clash : Ok font ≡ Err r = sym accepted ∙ refuses in cc

-- no sample is refused that can be made
not_made_and_refused : (writes_text : Bool) (text : List ℕ) (r : Refusal)
    → CanBeMade writes_text text → writes_text ≡ false → font_of text ≡ Err r → ⊥
not_made_and_refused true text r can is refused = cc
not_made_and_refused false text r can is refused =
    let clash : Ok can.0 ≡ Err r = sym can.1 ∙ refused in cc

-- no font has a point and a fault
not_point_and_fault : (told : Option (List ℕ)) (command : Inspect) (fault : FontFault)
    (bytes : List ℕ) (point : Point) → IfSome told (λ font. inspected command font ≡ Err fault)
    → told ≡ Some bytes → inspected command bytes ≡ Ok point → ⊥
not_point_and_fault told command fault bytes point at_fault is_told gives =
    let faults : inspected command bytes ≡ Err fault
    = subst (λ (t : Option (List ℕ)). IfSome t (λ font. inspected command font ≡ Err fault)) is_told
    at_fault in
    let clash : Ok point ≡ Err fault = sym gives ∙ faults in cc

-- a run that ends as it may is complete
pub completes : (command : Option Command) (status : Status) (old new : Outside)
    → RunEnds command status old new → IsComplete command status old new
completes None status old new ends = tt
completes (Some (building command)) Done old new ends = λ accepted reads writes prints. inl refl
completes (Some (building command)) NoMemory old new ends = λ accepted reads writes prints. inr refl
completes (Some (building command)) Usage old new ends = λ accepted reads writes prints. absurd ends
completes (Some (building command)) (BadFont fault) old new ends =
    λ accepted reads writes prints. absurd ends
completes (Some (building command)) (Refused r) old new ends = λ accepted reads writes prints.
    absurd (not_both _ r accepted.0 accepted.1 ends.1 accepted.2 accepted.3)
completes (Some (building command)) ReadFault old new ends = λ accepted reads writes prints.
    absurd (reads ends.0.reads)
completes (Some (building command)) WriteFault old new ends = λ accepted reads writes prints.
    absurd (writes ends.2.writes)
completes (Some (building command)) ConsoleFault old new ends = λ accepted reads writes prints.
    absurd (prints ends.3.1)
completes (Some (inspecting command)) Done old new ends = λ readable reads prints. inl refl
completes (Some (inspecting command)) NoMemory old new ends = λ readable reads prints. inr refl
completes (Some (inspecting command)) Usage old new ends = λ readable reads prints. absurd ends
completes (Some (inspecting command)) (Refused r) old new ends = λ readable reads prints.
    absurd ends
completes (Some (inspecting command)) WriteFault old new ends = λ readable reads prints.
    absurd ends
completes (Some (inspecting command)) (BadFont fault) old new ends = λ readable reads prints.
    absurd (not_point_and_fault _ command fault readable.0 readable.1 ends.1 readable.2 readable.3)
completes (Some (inspecting command)) ReadFault old new ends = λ readable reads prints.
    absurd (reads ends.0.reads)
completes (Some (inspecting command)) ConsoleFault old new ends = λ readable reads prints.
    absurd (prints ends.3.1)
completes (Some (sampling command)) Done old new ends = λ can writes prints. inl refl
completes (Some (sampling command)) NoMemory old new ends = λ can writes prints. inr refl
completes (Some (sampling command)) Usage old new ends = λ can writes prints. absurd ends
completes (Some (sampling command)) (BadFont fault) old new ends = λ can writes prints. absurd ends
completes (Some (sampling command)) ReadFault old new ends = λ can writes prints. absurd ends
completes (Some (sampling command)) (Refused r) old new ends = λ can writes prints.
    absurd (not_made_and_refused command.writes_text (text_of_sample command) r can ends.1.0 ends.1.1)
completes (Some (sampling command)) WriteFault old new ends = λ can writes prints.
    absurd (writes ends.3.writes)
completes (Some (sampling command)) ConsoleFault old new ends = λ can writes prints.
    absurd (prints ends.4.1)
