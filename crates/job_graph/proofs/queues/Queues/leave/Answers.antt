use Rattle.std.proofs.Common.{Some, sym, ap, ◌∙◌}
use Rattle.std.proofs.lemmas.Option.{slice_get-get_or}
use Rattle.job_graph.proofs.Standing.{left_kept, left_others}
use Rattle.job_graph.proofs.queues.Queues.leave.Goals as goal

pub returns-clause-kept : goal.returns-clause-kept
returns-clause-kept g c =
    left_kept g.Id.PartialEq.eq g.Id.Ord.cmp c.args.self.now.queues.items c.args.queue
    c.index_mut.result.now c.remove_job.new.queue
    (slice_get-get_or _ _ _ c.requires ∙ ap Some (sym c.index_mut.ensures.value)) c.args.id.now
    c.remove_job.ensures

pub returns-clause-others : goal.returns-clause-others
returns-clause-others g c =
    left_others g.Id.PartialEq.eq g.Id.Ord.cmp c.args.self.now.queues.items c.args.queue
    c.index_mut.result.now c.remove_job.new.queue
    (slice_get-get_or _ _ _ c.requires ∙ ap Some (sym c.index_mut.ensures.value)) c.args.id.now
    c.remove_job.ensures
