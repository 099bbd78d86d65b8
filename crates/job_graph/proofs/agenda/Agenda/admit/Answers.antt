use Rattle.std.proofs.Common.{[], ◌∷◌, ◌++◌, refl, ap, ◌∙◌, arith}
use Rattle.job_graph.specs.Rounds.{state_from}
use Rattle.job_graph.proofs.Placing.{agenda_same, agenda_admitted}
use Rattle.job_graph.proofs.agenda.Agenda.admit.Goals as goal

pub returns-in_err-reserve-clause-agenda : goal.returns-in_err-reserve-clause-agenda
returns-in_err-reserve-clause-agenda g c = agenda_same g.Id.PartialEq.eq g.Id.Ord.cmp
    (state_from c.args.jobs.now c.args.values.now) c.args.outs.now c.args.self.now
    c.requires.agenda c.reserve.new.self c.args.self.now.cursors c.reserve.ensures.items refl

pub returns-in_err-push-clause-agenda : goal.returns-in_err-push-clause-agenda
returns-in_err-push-clause-agenda g c = agenda_same g.Id.PartialEq.eq g.Id.Ord.cmp
    (state_from c.args.jobs.now c.args.values.now) c.args.outs.now c.args.self.now
    c.requires.agenda c.reserve.new.self c.push.new.self c.reserve.ensures.items
    c.in_err-push.ensures.items

pub returns-clause-agenda : goal.returns-clause-agenda
returns-clause-agenda g c = agenda_admitted g.Id.PartialEq.eq g.Id.Ord.cmp
    (state_from c.args.jobs.now c.args.values.now) c.args.outs.now c.args.self.now
    c.requires.agenda c.push_reserved.new.self c.push.new.self c.len-number.result
    (omega (arith, c.len-number.ensures, c.args.self.now.cursors.ok.0)) c.requires.more
    (c.push_reserved.ensures.items
    ∙ ap (λ xs. xs ++ c.len-number.result ∷ []) c.reserve.ensures.items)
    c.in_ok-push.ensures.items
