use Rattle.std.proofs.Common.{Some, inl, sym, ap, ◌∙◌}
use Rattle.std.proofs.lemmas.Option.{slice_get-get_or}
use Rattle.job_graph.proofs.Standing.{joined_kept, joined_here, joined_others, failed_kept}
use Rattle.job_graph.proofs.Standing.{failed_others}
use Rattle.job_graph.proofs.queues.Queues.join.Goals as goal

pub returns-in_err-insert_job-clause-kept : goal.returns-in_err-insert_job-clause-kept
returns-in_err-insert_job-clause-kept g c =
    failed_kept g.Id.PartialEq.eq g.Id.Ord.cmp c.args.self.now.queues.items c.args.queue
    c.index_mut.result.now c.insert_job.new.queue
    (slice_get-get_or _ _ _ c.requires ∙ ap Some (sym c.index_mut.ensures.value))
    c.in_err-insert_job.ensures.kept

pub returns-in_err-insert_job-clause-others : goal.returns-in_err-insert_job-clause-others
returns-in_err-insert_job-clause-others g c = λ rank q n i.
    inl (failed_others g.Id.PartialEq.eq g.Id.Ord.cmp c.args.self.now.queues.items c.args.queue
    c.index_mut.result.now c.insert_job.new.queue
    (slice_get-get_or _ _ _ c.requires ∙ ap Some (sym c.index_mut.ensures.value))
    c.in_err-insert_job.ensures.kept rank q n i)

pub returns-clause-kept : goal.returns-clause-kept
returns-clause-kept g c =
    joined_kept g.Id.PartialEq.eq g.Id.Ord.cmp c.args.self.now.queues.items c.args.queue
    c.index_mut.result.now c.insert_job.new.queue
    (slice_get-get_or _ _ _ c.requires ∙ ap Some (sym c.index_mut.ensures.value)) c.args.id
    c.args.number c.in_ok-insert_job.ensures.joined

pub returns-clause-joined : goal.returns-clause-joined
returns-clause-joined g c =
    joined_here g.Id.PartialEq.eq g.Id.Ord.cmp c.args.self.now.queues.items c.args.queue
    c.index_mut.result.now c.insert_job.new.queue
    (slice_get-get_or _ _ _ c.requires ∙ ap Some (sym c.index_mut.ensures.value)) c.args.id
    c.args.number c.in_ok-insert_job.ensures.joined (g.met.Id.Eq.laws.refl c.args.id)

pub returns-clause-others : goal.returns-clause-others
returns-clause-others g c =
    joined_others g.Id.PartialEq.eq g.Id.Ord.cmp c.args.self.now.queues.items c.args.queue
    c.index_mut.result.now c.insert_job.new.queue
    (slice_get-get_or _ _ _ c.requires ∙ ap Some (sym c.index_mut.ensures.value)) c.args.id
    c.args.number c.in_ok-insert_job.ensures.joined
