use Rattle.std.proofs.Common.{◌+◌, refl}
use Rattle.job_graph.specs.Rounds.{state_from}
use Rattle.job_graph.proofs.Placing.{agenda_told}
use Rattle.job_graph.proofs.agenda.Agenda.tell.Goals as goal

pub returns-clause-agenda : goal.returns-clause-agenda
returns-clause-agenda g c = agenda_told g.Id.PartialEq.eq g.Id.Ord.cmp
    (state_from c.args.jobs.now c.args.values.now) c.args.outs.now c.args.self.now
    c.requires.agenda c.leave.new.self c.leave.result (c.args.self.now.told + 1) c.id_at-id.result
    c.leave.ensures.within refl c.requires.more c.id_at-id.ensures c.requires.awake
    c.leave.ensures.left c.leave.ensures.kept
