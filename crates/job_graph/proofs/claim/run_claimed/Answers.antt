use Rattle.std.proofs.Common.{◌≡◌, sym, ap, ◌∙◌}
use Rattle.access_context.specs.Plain.{plain_outcome}
use Rattle.job_graph.specs.Rounds.{outcome_of, IsOutcomeOf}
use Rattle.job_graph.proofs.Due.{if_ok, outcome_done, due_blocked, due_done}
use Rattle.job_graph.proofs.claim.run_claimed.Goals as goal

pub returns-then-not-all_done-clause-in_limit : goal.returns-then-not-all_done-clause-in_limit
returns-then-not-all_done-clause-in_limit g c =
    rw c.new.ensures (due_blocked _ _ c.args.ticket.now c.args.reads.now c.requires
    (sym c.all_done.ensures ∙ c.if-not-all_done.true))

pub returns-clause-outcome : goal.returns-clause-outcome
returns-clause-outcome g c =
    if_ok c.run.result
    (λ o. plain_outcome o ≡ (g.P.Plan.meaning c.args.plan.now).outcome c.id.result.now
    c.args.reads.now)
    (λ o. plain_outcome o ≡ outcome_of g.P.Id.PartialEq.eq (g.P.Plan.meaning c.args.plan.now)
    c.args.ticket.now c.args.reads.now)
    (λ o e. e ∙ ap (λ k. (g.P.Plan.meaning c.args.plan.now).outcome k c.args.reads.now) c.id.ensures
    ∙ sym (outcome_done g.P.Id.PartialEq.eq (g.P.Plan.meaning c.args.plan.now) c.args.ticket.now
    c.args.reads.now (sym c.all_done.ensures ∙ c.if-not-all_done.false)))
    c.run.ensures

pub returns-clause-in_limit : goal.returns-clause-in_limit
returns-clause-in_limit g c =
    if_ok c.run.result
    (λ o. plain_outcome o ≡ (g.P.Plan.meaning c.args.plan.now).outcome c.id.result.now
    c.args.reads.now)
    (λ o. IsOutcomeOf g.P.Id.PartialEq.eq (g.P.Plan.meaning c.args.plan.now) c.args.ticket.now
    (plain_outcome o))
    (λ o e. due_done _ _ c.args.ticket.now c.args.reads.now c.requires
    (sym c.all_done.ensures ∙ c.if-not-all_done.false) (plain_outcome o)
    (e ∙ ap (λ k. (g.P.Plan.meaning c.args.plan.now).outcome k c.args.reads.now) c.id.ensures))
    c.run.ensures
