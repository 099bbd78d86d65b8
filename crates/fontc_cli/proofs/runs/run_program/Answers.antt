-- the status is that of the run
use Rattle.fontc_cli.proofs.runs.run_program.Goals as goal

pub returns-clause-ends : goal.returns-clause-ends
returns-clause-ends g c = (c.run.result.status, c.run.ensures.ends, c.exit.ensures)

pub returns-clause-complete : goal.returns-clause-complete
returns-clause-complete g c = (c.run.result.status, c.run.ensures.complete, c.exit.ensures)

pub returns-clause-asked : goal.returns-clause-asked
returns-clause-asked g c = (c.run.result.status, c.run.ensures.asked, c.exit.ensures)
