use Rattle.std.proofs.Common.{Some, sym, ap, ◌∙◌}
use Rattle.std.proofs.lemmas.Option.{slice_get-get_or}
use Rattle.job_graph.proofs.Waiting.{waits_removed, within_removed}
use Rattle.job_graph.proofs.lines.Lines.leave.Goals as goal

pub returns-in-Some-clause-within : goal.returns-in-Some-clause-within
returns-in-Some-clause-within g c = within_removed c.args.self.now.lines.items c.in-Some.line
    c.replace.new.dest g.Id.Ord.cmp c.args.self.now.places c.remove.new.self c.args.id.now
    c.in-Some.ensures.updates.0 c.requires

pub returns-in-Some-clause-kept : goal.returns-in-Some-clause-kept
returns-in-Some-clause-kept g c = λ job q w.
    rw c.replace.ensures.value (waits_removed c.args.self.now.lines.items c.in-Some.line
    c.index_mut.result.now c.replace.new.dest
    (slice_get-get_or _ _ _ (c.requires c.args.id.now c.in-Some.line
    (sym c.in-Some.ensures.value)) ∙ ap Some (sym c.index_mut.ensures.value)) g.Id.Ord.cmp
    g.met.Id.Ord.total c.args.self.now.places c.remove.new.self c.args.id.now
    (sym c.in-Some.ensures.value) c.in-Some.ensures.updates.0 job q w)
