use Rattle.turnstile_tests.proofs.Orders.{one_turn}
use Rattle.turnstile_tests.proofs.numbers.take_turn.Goals as goal

pub returns-clause-so_far : goal.returns-clause-so_far
returns-clause-so_far g c = one_turn c.args.pass.now c.enter-lent.new.pass c.leave.new.pass _ _ _ _
    _ c.enter-lent.ensures.seen c.leave.ensures c.worker.ensures c.requires.so_far
    c.write-next.ensures.written
