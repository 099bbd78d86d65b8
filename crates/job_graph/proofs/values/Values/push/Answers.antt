use Rattle.std.proofs.Common.{[], ◌∷◌, ◌++◌, ap, ◌∙◌, arith}
use Rattle.job_graph.proofs.Places.{index_push, noted_new}
use Rattle.job_graph.proofs.values.Values.push.Goals as goal

pub invariant_of-self-in-Ok : goal.invariant_of-self-in-Ok
invariant_of-self-in-Ok g c =
    index_push g.Id.PartialEq.eq g.Id.Ord.cmp c.self.inside.places c.insert_job.new.queue
    c.self.inside.items.items c.push_reserved.new.self.items c.args.id c.args.value
    c.len-place.result c.self.invariant
    (omega (arith, c.len-place.ensures, c.reserve.ensures.len, c.self.inside.items.ok.0))
    (noted_new g.Id.PartialEq.eq g.met.Id.Eq.laws g.Id.Ord.cmp c.self.inside.places
    c.insert_job.new.queue c.self.inside.items.items c.args.id c.len-place.result c.self.invariant
    (rw (← c.self.view_is) at c.requires) c.in-Ok.ensures.joined)
    (c.push_reserved.ensures.items ∙ ap (λ xs. xs ++ (c.args.id, c.args.value) ∷ [])
    c.reserve.ensures.items)
