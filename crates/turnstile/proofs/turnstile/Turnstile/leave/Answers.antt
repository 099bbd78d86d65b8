use Rattle.std.proofs.Common.{sym, ap, ◌∙◌, subst}
use Rattle.turnstile.specs.Passes.{has_left}
use Rattle.turnstile.specs.Entries.{AddsAtMostOne}
use Rattle.turnstile.proofs.Calls.{member, view_of, may_leave, rests_again, left_view}
use Rattle.turnstile.proofs.turnstile.Turnstile.leave.Goals as goal

pub invariant_of-pass : goal.invariant_of-pass
invariant_of-pass g c =
    let list = g.B.Counted.entries c.args.turn.value in
    let may = may_leave g.B.Counted.entries g.B.Counted.root _ _ _ _ _ c.pass.invariant
    (ap (λ p. p.is_out) c.pass.view_is ∙ c.requires.out)
    (subst (λ p. AddsAtMostOne p.worker p.seen list) (sym c.pass.view_is) c.requires.list)
    (c.requires.root ∙ sym (ap (λ p. p.root) c.pass.view_is)) in
    rests_again g.B.Counted.entries g.B.Counted.root _ _ _ (c.give_back.ensures.left _ may)

pub returns : goal.returns
returns g c =
    let list = g.B.Counted.entries c.args.turn.value in
    let may = may_leave g.B.Counted.entries g.B.Counted.root _ _ _ _ _ c.pass.invariant
    (ap (λ p. p.is_out) c.pass.view_is ∙ c.requires.out)
    (subst (λ p. AddsAtMostOne p.worker p.seen list) (sym c.pass.view_is) c.requires.list)
    (c.requires.root ∙ sym (ap (λ p. p.root) c.pass.view_is)) in
    let worker = c.pass.inside.worker in
    let root = g.B.Counted.root c.pass.inside.origin.value.value.value in
    let me = c.pass.inside.seat.me in
    left_view g.B.Counted.entries g.B.Counted.root c.give_back.new.seat.table_id worker
    c.pass.inside.ticket root c.args.turn.value me _ (c.give_back.ensures.left _ may)
    ∙ (ap (λ table. has_left list (view_of table worker root me)) c.give_back.ensures.table
    ∙ ap (λ p. has_left list p) c.pass.view_is)

pub give_back-requires-clause-served : goal.give_back-requires-clause-served
give_back-requires-clause-served g c =
    let list = g.B.Counted.entries c.args.turn.value in (
      member c.pass.inside.worker (g.B.Counted.root c.pass.inside.origin.value.value.value)
          c.pass.inside.seat.me,
      may_leave g.B.Counted.entries g.B.Counted.root _ _ _ _ _ c.pass.invariant
          (ap (λ p. p.is_out) c.pass.view_is ∙ c.requires.out)
          (subst (λ p. AddsAtMostOne p.worker p.seen list) (sym c.pass.view_is) c.requires.list)
          (c.requires.root ∙ sym (ap (λ p. p.root) c.pass.view_is)),
    )
