use Rattle.graph_tests.proofs.HeldLemmas.{held_claim}
use Rattle.graph_tests.proofs.hands.claim_job.Goals as goal

pub returns-in-Run-clause-held : goal.returns-in-Run-clause-held
returns-in-Run-clause-held g c = rw c.in-Run.ensures.answer.2
    (held_claim _ _ _ _ _ c.requires.held c.args.worker c.in-Run.ticket c.in-Run.reads
    (c.in-Run.ensures.answer.1).due)
