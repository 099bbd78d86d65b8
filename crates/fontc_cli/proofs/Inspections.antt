-- How an inspection ends once its font is read.
use Rattle.std.proofs.Common.{◌≡◌, ℕ, ◌<◌, List, length, Option, Some, None, IfSome}
use Rattle.std.proofs.Common.{Result, Ok, Err, sym, subst, ap, ◌∙◌, arith}
use Rattle.std.proofs.lemmas.Bool.Decides.{nat_tests}
use Rattle.outside_io.specs.Files.{told_bytes}
use Rattle.font_reader.specs.declared.faults.FontFault.{FontFault}
use Rattle.font_reader.specs.declared.faults.FaultKind.TheVariants.{TooLarge}
use Rattle.font_reader.specs.declared.points.Point.{Point}
use Rattle.font_reader.specs.Fields.{fault}
use Rattle.command_words.specs.Commands.{Inspect}
use Rattle.fontc_cli.specs.Inspected.{font_bytes, inspected}
use Rattle.fontc_cli.specs.Runs.{Outside, LeavesFiles, InspectEnds, IsPointTold}
use Rattle.fontc_cli.specs.declared.status.Status.{Status}
use Rattle.fontc_cli.specs.declared.status.Status.TheVariants.{Done, Usage, Refused, BadFont}
use Rattle.fontc_cli.specs.declared.status.Status.TheVariants.{ReadFault, WriteFault, ConsoleFault}
use Rattle.fontc_cli.specs.declared.status.Status.TheVariants.{NoMemory}

-- what was read is what is inspected
pub read_is_inspected : (command : Inspect) (told : Option (List ℕ)) (font items : List ℕ)
    → font ≡ items → IfSome told (λ bytes. items ≡ bytes)
    → IfSome told (λ bytes. inspected command bytes ≡ inspected command font)
read_is_inspected command None font items same is = tt
read_is_inspected command (Some bytes) font items same is =
    ap (inspected command) (sym (same ∙ is))

-- a font that is too long has that fault
too_large : (command : Inspect) (bytes : List ℕ) → font_bytes < length bytes
    → inspected command bytes ≡ Err (fault TooLarge font_bytes)
unfolding inspected
too_large command bytes long = grind (arith, nat_tests)

pub long_is_too_large : (command : Inspect) (told : Option (List ℕ))
    → IfSome told (λ bytes. font_bytes < length bytes)
    → IfSome told (λ bytes. inspected command bytes ≡ Err (fault TooLarge font_bytes))
long_is_too_large command None long = tt
long_is_too_large command (Some bytes) long = too_large command bytes long

-- a point or a fault that is told ends an inspection, or memory runs out
pub point_told_ends : (command : Inspect) (status : Status) (read : Result Point FontFault)
    (old new : Outside) → LeavesFiles old new
    → IfSome (told_bytes (old.holds command.font)) (λ bytes. inspected command bytes ≡ read)
    → IsPointTold status read old.console new.console → InspectEnds command status old new
point_told_ends command NoMemory read old new files is told = (files, told)
point_told_ends command Done (Ok point) old new files is told = (point, files, is, told)
point_told_ends command Done (Err first) old new files is told = absurd told
point_told_ends command ConsoleFault (Ok point) old new files is told = (point, files, is, told)
point_told_ends command ConsoleFault (Err first) old new files is told = absurd told
point_told_ends command (BadFont other) (Ok point) old new files is told = absurd told
point_told_ends command (BadFont other) (Err first) old new files is told = (
  files,
  subst (λ (f : FontFault). IfSome (told_bytes (old.holds command.font))
      (λ bytes. inspected command bytes ≡ Err f)) told.0 is,
  told.1,
)
point_told_ends command Usage read old new files is told = absurd told
point_told_ends command (Refused r) read old new files is told = absurd told
point_told_ends command ReadFault read old new files is told = absurd told
point_told_ends command WriteFault read old new files is told = absurd told
