-- words that aren't read, since memory ran out, ask nothing of files
use Rattle.std.proofs.Common.{ap}
use Rattle.fontc_cli.specs.declared.status.Report.{Report}
use Rattle.fontc_cli.proofs.AskedLaws.{nothing_asked}
use Rattle.fontc_cli.proofs.runs.run_words.Goals as goal

pub returns-in-Err-clause-asked : goal.returns-in-Err-clause-asked
returns-in-Err-clause-asked g c = nothing_asked _ c.of-in-Err.result.status _
    (ap (λ (r : Report). r.status) c.of-in-Err.ensures)
