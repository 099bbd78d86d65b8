use Rattle.std.proofs.Common.{length, drop}
use Rattle.turnstile.specs.Members.{seen_of}
use Rattle.turnstile.proofs.steps.give_back.Given as goal

abbrev pub ghosts-note : goal.ghosts-note
ghosts-note g a = record {
  list = g.B.Counted.entries a.value.now;
  added = drop (length (seen_of a.seat.now.me.0.members)) (g.B.Counted.entries a.value.now);
}
