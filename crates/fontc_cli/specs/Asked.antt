-- What a run asks of files, in order, where they tell it. fontc's own.
use Rattle.std.specs.Prelude.{◌≡◌, ℕ, List, [], ◌++◌, Option, Some, None}
use Rattle.outside_io.specs.Calls.{Call}
use Rattle.whole_files.specs.Requests.{AreRoomyReads, AreWholeOffers}
use Rattle.command_words.specs.Commands.{Build, Command, building, inspecting, sampling}
use Rattle.fontc_cli.specs.declared.status.Status.{Status}
use Rattle.fontc_cli.specs.declared.status.Status.TheVariants.{Done, Usage, Refused, BadFont}
use Rattle.fontc_cli.specs.declared.status.Status.TheVariants.{ReadFault, WriteFault, ConsoleFault}
use Rattle.fontc_cli.specs.declared.status.Status.TheVariants.{NoMemory}

-- What a build asks once its source is read, and a sample asks at all: the output is begun and
-- bytes are offered, or where the run ends before that nothing. So memory never runs out behind a
-- begin.
abbrev pub WritingAsks : List ℕ → Status → List Call → Type 0
WritingAsks output Done calls = (bytes : List ℕ) × AreWholeOffers output bytes calls
WritingAsks output ConsoleFault calls = (bytes : List ℕ) × AreWholeOffers output bytes calls
WritingAsks output WriteFault calls = (bytes : List ℕ) × AreWholeOffers output bytes calls
WritingAsks output Usage calls = calls ≡ []
WritingAsks output (Refused r) calls = calls ≡ []
WritingAsks output (BadFont fault) calls = calls ≡ []
WritingAsks output ReadFault calls = calls ≡ []
WritingAsks output NoMemory calls = calls ≡ []

-- a build reads its source, each read offering enough room, and then writes
abbrev pub BuildAsks : Build → Status → List Call → Type 0
BuildAsks command status calls = (reads : List Call) × (writes : List Call)
    × (calls ≡ reads ++ writes)
    × AreRoomyReads command.source reads × WritingAsks command.output status writes

-- What a run of any words asks: words that are no command ask nothing, an inspection reads its font
-- alone, each read offering enough room, and a sample reads nothing.
abbrev pub RunAsks : Option Command → Status → List Call → Type 0
RunAsks None status calls = calls ≡ []
RunAsks (Some (building command)) status calls = BuildAsks command status calls
RunAsks (Some (inspecting command)) status calls = AreRoomyReads command.font calls
RunAsks (Some (sampling command)) status calls = WritingAsks command.output status calls
