use Rattle.std.proofs.Common.{◌≡◌, ℕ, false}
use Rattle.std.proofs.lemmas.List.Elements.{All-weaker}
use Rattle.turnstile.specs.Passes.{PassView}
use Rattle.turnstile_tests.specs.Turns.{IsDone}
use Rattle.turnstile_tests.proofs.numbers.close_list.Goals as goal

pub close-requires-clause-of_this : goal.close-requires-clause-of_this
close-requires-clause-of_this c =
    let t = c.args.turnstile in
    let OfThis : PassView ℕ ℕ → Type 0 = λ p. (p.table ≡ t.table) × (p.is_out ≡ false) in
    All-weaker (IsDone t) OfThis (λ p done. (done.0, done.1)) c.args.passes.items c.requires.done
