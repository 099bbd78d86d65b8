use Rattle.std.proofs.Common.{sym, ◌∙◌}
use Rattle.component_flatten.proofs.SharedBases.{places_same, drawn_same}
use Rattle.component_flatten.proofs.betweens.draw_alike.Goals as goal

pub returns-then-eq-clause-places : goal.returns-then-eq-clause-places
returns-then-eq-clause-places c = λ told.
    places_same c.args.a.now.places c.args.b.now.places (sym c.eq.ensures ∙ c.if-eq.true)

pub returns-then-eq-clause-drawn : goal.returns-then-eq-clause-drawn
returns-then-eq-clause-drawn c = λ told.
    drawn_same c.args.a.now.drawn c.args.b.now.drawn (sym c.eq-then-eq.ensures ∙ told)
