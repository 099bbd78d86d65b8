use Rattle.std.proofs.Common.{ℕ, subst, arith}
use Rattle.std.proofs.Crossing.{crosses}
use denote.Param.Send.{sendable}
use Rattle.turnstile.specs.Passes.{PassView}
use Rattle.turnstile_tests.specs.Turns.{IsDone}
use Rattle.turnstile.specs.Sending.{seat_send}
use Rattle.turnstile_tests.proofs.numbers.all_take_turns.Goals as goal

pub for_each_mut-requires-send-T : goal.for_each_mut-requires-send-T
for_each_mut-requires-send-T g c κs within = search (seat_send, sendable, crosses) depth 40

pub returns-clause-done : goal.returns-clause-done
returns-clause-done g c k d lt =
    let at = (c.for_each_mut.ensures k d (omega (arith, lt, c.for_each_mut.auto.s))).1 in
    subst (λ (p : PassView ℕ ℕ). IsDone c.args.turnstile.now p) at.left at.call.0
