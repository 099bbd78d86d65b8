use Rattle.turnstile_tests.proofs.numbers.take_turns.Goals as goal

pub returns-clause-done : goal.returns-clause-done
returns-clause-done g c = let inv = c.loop-turn.invariant
    in (inv.table, inv.free, (c.loop-turn.number, inv.so_far))
