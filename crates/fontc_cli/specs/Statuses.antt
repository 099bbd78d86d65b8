-- The exit status of each way in which a run can end. fontc's own.
use Rattle.std.specs.Prelude.{◌≡◌, ℕ}
use Rattle.std.specs.Process.{exit_status}
use Rattle.std.specs.declared.process.ExitCode.{ExitCode}
use Rattle.fontc_cli.specs.declared.status.Status.{Status}
use Rattle.fontc_cli.specs.declared.status.Status.TheVariants.{Done, Usage, Refused, BadFont}
use Rattle.fontc_cli.specs.declared.status.Status.TheVariants.{ReadFault, WriteFault, ConsoleFault}
use Rattle.fontc_cli.specs.declared.status.Status.TheVariants.{NoMemory}

abbrev pub exit_code : Status → ℕ
exit_code Done = 0
exit_code Usage = 1
exit_code (Refused r) = 2
exit_code (BadFont fault) = 3
exit_code ReadFault = 4
exit_code WriteFault = 5
exit_code ConsoleFault = 6
exit_code NoMemory = 7

-- the program ends with the exit status of a status that is so
abbrev pub ExitsBy : (Status → Type 0) → ExitCode → Type 0
ExitsBy IsSo code = (status : Status) × IsSo status × (exit_status code ≡ exit_code status)
