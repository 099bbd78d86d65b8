-- a run that ends as it may is complete
use Rattle.fontc_cli.proofs.Ends.{completes}
use Rattle.fontc_cli.proofs.runs.run_alone.Goals as goal

pub returns-clause-complete : goal.returns-clause-complete
returns-clause-complete g c = completes _ _ _ _ c.run_words.ensures.ends
