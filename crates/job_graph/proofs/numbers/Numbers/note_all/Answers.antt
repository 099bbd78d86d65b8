use Rattle.std.proofs.Common.{◌+◌, Some, None, cond, refl, ap, ◌∙◌, sym, arith}
use Rattle.std.specs.BTreeMap as tree
use Rattle.access_context.specs.declared.access.Spec.{Spec}
use Rattle.job_graph.specs.Places.{first_of}
use Rattle.job_graph.proofs.Numbered.{numbered_next}
use Rattle.job_graph.proofs.numbers.Numbers.note_all.Goals as goal

pub jobs-preserved : goal.jobs-preserved
jobs-preserved g c = numbered_next g.Id.PartialEq.eq g.Id.Ord.cmp c.args.jobs.now c.jobs.self
    c.jobs.invariant (record { places = c.note_place.new.places; count = c.jobs.self.count + 1 })
    c.index-jobs-self.result c.jobs-test.true c.index-jobs-self.is refl
    (λ q. c.note_place.ensures.noted c.if-not-note_place.false q
    ∙ ap (λ (j : Spec g.row.Id.Denot). first_of (tree.get g.Id.Ord.cmp c.jobs.self.places q)
    (cond (g.Id.PartialEq.eq j.id q) (Some c.in-Ok.number) None)) (sym c.index-jobs-self.is)
    ∙ ap (λ n. first_of (tree.get g.Id.Ord.cmp c.jobs.self.places q)
    (cond (g.Id.PartialEq.eq c.index-jobs-self.result.id q) (Some n) None)) c.in-Ok.ensures.1)
