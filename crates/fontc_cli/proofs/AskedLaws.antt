-- What a build asks of files: the calls that read its source, and then those that write.
use Rattle.std.proofs.Common.{◌≡◌, List, [], ◌++◌, Option, Some, None, refl, sym, ap, ◌∙◌, subst}
use Rattle.std.proofs.Common.{append_assoc}
use Rattle.std.proofs.lemmas.List.{append-nil}
use Rattle.outside_io.specs.Calls.{Call}
use Rattle.whole_files.specs.Requests.{Since, AreRoomyReads, no_reads}
use Rattle.fontc_cli.specs.Asked.{WritingAsks, BuildAsks, RunAsks}
use Rattle.command_words.specs.Commands.{Build, Command, building, inspecting, sampling}
use Rattle.fontc_cli.specs.declared.status.Status.{Status}
use Rattle.fontc_cli.specs.declared.status.Status.TheVariants.{NoMemory}

pub asked_after : (command : Build) (status : Status) (old read new : Option (List Call))
    → Since (AreRoomyReads command.source) old read
    → Since (WritingAsks command.output status) read new
    → Since (BuildAsks command status) old new
asked_after command status None read new reads writes = tt
asked_after command status (Some before) read new reads writes =
    let wrote = subst (λ (calls : Option (List Call)).
    Since (WritingAsks command.output status) calls new) reads.1 writes in (
      reads.0 ++ wrote.0,
      wrote.1 ∙ ap Some (append_assoc before reads.0 wrote.0),
      (reads.0, wrote.0, refl, reads.2, wrote.2),
    )

-- where memory runs out first, nothing is asked
asks_nothing : (command : Option Command) → RunAsks command NoMemory []
asks_nothing None = refl
asks_nothing (Some (building command)) = ([], [], refl, no_reads, refl)
asks_nothing (Some (inspecting command)) = no_reads
asks_nothing (Some (sampling command)) = refl

pub nothing_asked : (command : Option Command) (status : Status) (calls : Option (List Call))
    → status ≡ NoMemory → Since (RunAsks command status) calls calls
nothing_asked command status None is = tt
nothing_asked command status (Some before) is = (
  [],
  ap Some (sym (append-nil before)),
  subst (λ (s : Status). RunAsks command s []) (sym is) (asks_nothing command),
)
