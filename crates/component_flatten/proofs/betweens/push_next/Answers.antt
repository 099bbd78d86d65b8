use Rattle.font_ir.specs.FlatGlyphs.{glyphs_of}
use Rattle.std.proofs.Common.{arith}
use Rattle.std.specs.Arc.{arc_value}
use Rattle.std.proofs.lemmas.List.{length-map}
use Rattle.component_flatten.proofs.SharedBases.{again_made, again_storable}
use Rattle.component_flatten.proofs.betweens.push_next.Goals as goal

pub returns-in-Some-clause-so_far : goal.returns-in-Some-clause-so_far
returns-in-Some-clause-so_far c =
    again_made c.args.places.now (glyphs_of c.args.bases.now) c.in-Some.same c.args.component
    c.args.betweens.now c.push_again.new.self c.requires.so_far c.in-Some.ensures.earlier
    (omega (arith, c.requires.within, length-map c.args.bases.now arc_value))
    c.in-Some.ensures.places c.in-Some.ensures.drawn c.in_ok-push_again.ensures

pub returns-in-Some-clause-limit : goal.returns-in-Some-clause-limit
returns-in-Some-clause-limit c =
    again_storable c.args.places.now (glyphs_of c.args.bases.now) c.in-Some.same c.args.component
    c.requires.storable c.in-Some.ensures.earlier
    (omega (arith, c.requires.within, length-map c.args.bases.now arc_value))
    c.in-Some.ensures.places c.in-Some.ensures.drawn
