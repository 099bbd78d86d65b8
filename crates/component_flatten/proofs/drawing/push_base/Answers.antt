use Rattle.std.proofs.Common.{◌≡◌, length, subst, sym, arith}
use Rattle.std.specs.Arc.{arc_value}
use Rattle.std.specs.Prelude.{option_copied}
use Rattle.std.proofs.lemmas.List.{length-map}
use Rattle.font_ir.specs.declared.glyph.FlatGlyph.{FlatGlyph}
use Rattle.font_ir.specs.FlatGlyphs.{IsFlatGlyph, glyphs_of}
use Rattle.font_ir.specs.Places.{axis_count}
use Rattle.component_flatten.proofs.BaseLemmas.{ready_at}
use Rattle.component_flatten.proofs.drawing.push_base.Goals as goal

pub push_component-requires-clause-flat : goal.push_component-requires-clause-flat
push_component-requires-clause-flat c =
    subst (λ (base : FlatGlyph). IsFlatGlyph base) (sym c.base_at-base.ensures)
    (c.requires.flat c.args.n c.base_at-base.result.now
    (omega (arith, c.requires.within, length-map c.args.bases.now arc_value)))

pub push_component-requires-clause-axes : goal.push_component-requires-clause-axes
push_component-requires-clause-axes c =
    sym (subst (λ (base : FlatGlyph). axis_count base.places ≡ length c.args.at.now)
    (sym c.base_at-base.ensures) (c.requires.axes c.args.n c.base_at-base.result.now
    (omega (arith, c.requires.within, length-map c.args.bases.now arc_value))))

pub push_component-requires-clause-ready : goal.push_component-requires-clause-ready
push_component-requires-clause-ready c =
    ready_at c.args.at.now (glyphs_of c.args.bases.now) c.args.made.now c.args.n
    c.base_at-base.result.now (option_copied c.get.result) c.requires.ready
    (omega (arith, c.requires.within, length-map c.args.bases.now arc_value))
    c.base_at-base.ensures c.get.ensures
