use Rattle.std.proofs.Common.{sym, ◌∙◌}
use Rattle.job_graph.proofs.Places.{place_from-plain}
use Rattle.job_graph.proofs.values.Values.place.Goals as goal

pub returns-in-Some : goal.returns-in-Some
returns-in-Some g c = rw (← c.self.view_is)
    (c.in-Some.ensures.value ∙ c.self.invariant c.args.id.now
    ∙ sym (place_from-plain g.Id.PartialEq.eq 0 c.self.inside.items.items c.args.id.now))

pub returns-in-None : goal.returns-in-None
returns-in-None g c = rw (← c.self.view_is)
    (c.in-None.ensures.value ∙ c.self.invariant c.args.id.now
    ∙ sym (place_from-plain g.Id.PartialEq.eq 0 c.self.inside.items.items c.args.id.now))
