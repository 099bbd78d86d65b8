use Rattle.std.proofs.Common.{sym, ap, ◌∙◌, arith}
use Rattle.turnstile.proofs.Allowed.{look_allowed}
use Rattle.turnstile.proofs.steps.wait_for.Goals as goal

pub load-served-requires : goal.load-served-requires
load-served-requires g c =
    let at = c.requires.waiting in
    let words = c.requires.table.1 in
    let inv = c.loop.invariant in
    let me = inv.3 ∙ at.3 in (
      inv.2 ∙ c.requires.table.0,
      omega arith,
      look_allowed g.B.Counted.entries g.B.Counted.root _ _
          _ _ _ at.0 at.1 (ap (λ me. me.0) me) (ap (λ me. me.1) me),
    )

pub loop-preserved-then-looks-lt-LOOKS : goal.loop-preserved-then-looks-lt-LOOKS
loop-preserved-then-looks-lt-LOOKS g c =
    let at = c.requires.waiting in
    let inv = c.loop.invariant in
    let me = inv.3 ∙ at.3 in
    let told = c.load-served.ensures.2 at.0 at.1 (ap (λ me. me.0) me) (ap (λ me. me.1) me) in (
      tt,
      tt,
      c.load-served.ensures.0 ∙ inv.2,
      told.1 (λ e. c.if-served-ticket.false (e ∙ sym at.2))
          ∙ inv.3,
    )

pub loop-preserved : goal.loop-preserved
loop-preserved g c =
    let at = c.requires.waiting in
    let inv = c.loop.invariant in
    let me = inv.3 ∙ at.3 in
    let told = c.load-served.ensures.2 at.0 at.1 (ap (λ me. me.0) me) (ap (λ me. me.1) me) in (
      tt,
      tt,
      c.load-served.ensures.0 ∙ inv.2,
      told.1 (λ e. c.if-served-ticket.false (e ∙ sym at.2))
          ∙ inv.3,
    )
