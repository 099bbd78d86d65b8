use Rattle.std.proofs.Common.{◌++◌, sym, ap, ◌∙◌}
use Rattle.turnstile.specs.Passes.{entered}
use Rattle.turnstile.specs.Entries.{entries_of}
use Rattle.turnstile.proofs.Calls.{member, away, view_of, holds_turn, turn_view}
use Rattle.turnstile.proofs.turnstile.Turnstile.enter.Goals as goal

pub take_turn-ticket-requires-clause-away : goal.take_turn-ticket-requires-clause-away
take_turn-ticket-requires-clause-away g c = (
  member c.pass.inside.worker (g.B.Counted.root c.pass.inside.origin.value.value.value)
      c.pass.inside.seat.me,
  away _ _ _ _ c.pass.invariant
      (ap (λ p. p.is_out) c.pass.view_is ∙ c.requires.free),
)

pub invariant_of-pass : goal.invariant_of-pass
invariant_of-pass g c =
    let free = away _ _ _ _ c.pass.invariant (ap (λ p. p.is_out) c.pass.view_is ∙ c.requires.free)
    in
    holds_turn g.B.Counted.entries g.B.Counted.root _ _ _ _ (c.take_turn-ticket.ensures.turn _ free)

pub returns-clause-seen : goal.returns-clause-seen
returns-clause-seen g c =
    let free = away _ _ _ _ c.pass.invariant (ap (λ p. p.is_out) c.pass.view_is ∙ c.requires.free)
    in
    let turn = c.take_turn-ticket.ensures.turn _ free in
    let list = g.B.Counted.entries c.take_turn-ticket.result.1 in
    let worker = c.pass.inside.worker in
    let root = g.B.Counted.root c.pass.inside.origin.value.value.value in
    let me = c.pass.inside.seat.me in
    turn_view g.B.Counted.entries g.B.Counted.root c.take_turn-ticket.new.seat.table_id _ _ _ _ _
    free turn
    ∙ (ap (λ table. entered list (view_of table worker root me)) c.take_turn-ticket.ensures.table
    ∙ ap (λ p. entered list p) c.pass.view_is)

pub returns-clause-begins : goal.returns-clause-begins
returns-clause-begins g c =
    let free = away _ _ _ _ c.pass.invariant (ap (λ p. p.is_out) c.pass.view_is ∙ c.requires.free)
    in
    let turn = c.take_turn-ticket.ensures.turn _ free in
    (turn.begins.0, turn.begins.1 ∙ ap (λ p. p.seen ++ turn.begins.0) c.pass.view_is)

pub returns-clause-mine : goal.returns-clause-mine
returns-clause-mine g c =
    let free = away _ _ _ _ c.pass.invariant (ap (λ p. p.is_out) c.pass.view_is ∙ c.requires.free)
    in
    let turn = c.take_turn-ticket.ensures.turn _ free in
    let list = g.B.Counted.entries c.take_turn-ticket.result.1 in
    ap (λ p. entries_of p.worker list) (sym c.pass.view_is)
    ∙ (turn.mine ∙ ap (λ p. p.mine) c.pass.view_is)

pub returns-clause-root : goal.returns-clause-root
returns-clause-root g c =
    let free = away _ _ _ _ c.pass.invariant (ap (λ p. p.is_out) c.pass.view_is ∙ c.requires.free)
    in
    (c.take_turn-ticket.ensures.turn _ free).same_root ∙ ap (λ p. p.root) c.pass.view_is
