use Rattle.std.proofs.Common.{sym, ap, ◌∙◌}
use Rattle.std.specs.Prelude.{◌==◌}
use Rattle.std.specs.List.{list_all}
use Rattle.std.specs.Arc.{arc_value}
use Rattle.font_ir.specs.declared.glyph.FlatGlyph.{FlatGlyph}
use Rattle.font_ir.specs.Places.{axis_count}
use Rattle.reader_tests.proofs.Bases.{bases_fit}
use Rattle.reader_tests.proofs.flattening.are_bases.Goals as goal

pub returns : goal.returns
returns c is = bases_fit c.args.places.now c.args.glyphs.now c.requires
    (ap (λ count. list_all
    (λ glyph. axis_count (arc_value {X = FlatGlyph} glyph).places == count) c.args.glyphs.now)
    (sym c.axis_count.ensures) ∙ sym c.have_axes.ensures ∙ is)
