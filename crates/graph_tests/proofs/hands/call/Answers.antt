use Rattle.std.proofs.Common.{None, Some, sym, arith}
use Rattle.graph_tests.proofs.HeldLemmas.{hand_within, hand_out, hand_due, hand_read, hand_emptied}
use Rattle.graph_tests.proofs.HeldLemmas.{held_finish}
use Rattle.graph_tests.proofs.hands.call.Goals as goal

pub index_mut-requires : goal.index_mut-requires
index_mut-requires g c = omega (
  arith,
  c.args.hands.now.ok.0,
  hand_within _ _ _ _ _ c.requires.held
      c.args.worker c.requires.known,
)

pub claim_job-requires-clause-free : goal.claim_job-requires-clause-free
claim_job-requires-clause-free g c =
    hand_emptied c.args.hands.now.items c.args.worker c.take.new.self None
    (hand_read c.args.hands.now.items c.args.worker c.index_mut.result.now None
    (hand_within _ _ _ _ _ c.requires.held c.args.worker c.requires.known)
    c.index_mut.ensures.value (sym c.in-None.ensures.value))
    c.take.ensures.after

pub finish_job-requires-clause-out : goal.finish_job-requires-clause-out
finish_job-requires-clause-out g c =
    hand_out _ _ _ _ _ c.requires.held c.args.worker (Some (c.in-Some.ticket, c.in-Some.reads))
    (hand_read c.args.hands.now.items c.args.worker c.index_mut.result.now _
    (hand_within _ _ _ _ _ c.requires.held c.args.worker c.requires.known)
    c.index_mut.ensures.value (sym c.in-Some.ensures.value))

pub finish_job-requires-clause-due : goal.finish_job-requires-clause-due
finish_job-requires-clause-due g c =
    hand_due _ _ _ _ _ c.requires.held c.args.worker c.in-Some.ticket c.in-Some.reads
    (hand_read c.args.hands.now.items c.args.worker c.index_mut.result.now _
    (hand_within _ _ _ _ _ c.requires.held c.args.worker c.requires.known)
    c.index_mut.ensures.value (sym c.in-Some.ensures.value))

pub returns-in_ok-finish_job-in-Some-clause-held : goal.returns-in_ok-finish_job-in-Some-clause-held
returns-in_ok-finish_job-in-Some-clause-held g c
    = rw (c.in_ok-finish_job-in-Some.ensures.finished, c.take.ensures.after)
    (held_finish _ _ _ _ _ c.requires.held c.args.worker c.in-Some.ticket)
