use Rattle.std.proofs.Common.{◌≡◌, ◌≤◌, false}
use Rattle.turnstile_tests.specs.Turns.{numbers_of}
use Rattle.turnstile_tests.proofs.numbers.take_turns.Given as goal

abbrev pub invariant-loop-turn : goal.invariant-loop-turn
invariant-loop-turn g l = record {
  table : l.pass.table ≡ l.turnstile.table;
  free : l.pass.is_out ≡ false;
  worker : l.pass.worker ≡ l.fn.pass.worker;
  so_far : l.pass.mine ≡ numbers_of l.pass.worker l.number;
  few : l.number ≤ l._turn;
}
