use Rattle.std.proofs.Common.{sym, ◌∙◌, arith}
use Rattle.job_graph.proofs.Places.{place_within, value_there, unread, place_from-plain}
use Rattle.job_graph.proofs.values.Values.get.Goals as goal

pub index-requires : goal.index-requires
index-requires g c = omega (
  arith,
  c.self.inside.items.ok.0,
  place_within g.Id.PartialEq.eq
      c.self.inside.items.items c.args.id.now c.in-Some.place.now
      (sym (c.self.invariant c.args.id.now) ∙ sym c.in-Some.ensures.value),
)

pub returns-in-Some : goal.returns-in-Some
returns-in-Some g c = rw (← c.self.view_is)
    (value_there g.Id.PartialEq.eq c.self.inside.items.items c.args.id.now c.in-Some.place.now
    (sym (c.self.invariant c.args.id.now) ∙ sym c.in-Some.ensures.value) c.index.result.now
    c.index.ensures)

pub returns-in-None : goal.returns-in-None
returns-in-None g c = rw (← c.self.view_is)
    (sym (unread g.Id.PartialEq.eq 0 _ c.args.id.now
    (place_from-plain g.Id.PartialEq.eq 0 c.self.inside.items.items c.args.id.now
    ∙ sym (c.self.invariant c.args.id.now) ∙ sym c.in-None.ensures.value)))
