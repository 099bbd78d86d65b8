use Rattle.std.proofs.Common.{ℕ, List, Option, length, subst, sym, ap, ◌∙◌, arith}
use Rattle.fixed_math.specs.declared.F2Dot14.{F2Dot14}
use Rattle.font_ir.specs.FlatGlyphs.{glyphs_of}
use Rattle.font_ir.specs.Places.{place_at}
use Rattle.std.specs.Arc.{arc_value}
use Rattle.std.proofs.lemmas.List.{length-map}
use Rattle.component_flatten.specs.declared.between.Between.{Between}
use Rattle.component_flatten.specs.Judging.{AreReady}
use Rattle.component_flatten.proofs.BaseLemmas.{all_ready}
use Rattle.component_flatten.proofs.FlatLaws.{layer_names}
use Rattle.component_flatten.specs.Drawing.{names_of}
use Rattle.font_ir.specs.declared.glyph.Shape.{Shape}
use Rattle.component_flatten.proofs.drawing.layer_drawn.Goals as goal

pub shapes_drawn-requires-clause-ready : goal.shapes_drawn-requires-clause-ready
shapes_drawn-requires-clause-ready c =
    subst (λ (at : List F2Dot14). AreReady at (glyphs_of c.args.bases.now) c.args.made.now)
    (sym (c.location-at.ensures
    ∙ ap (λ (places : List (List F2Dot14)). place_at places c.args.i) c.as_slice.ensures))
    (subst (λ (made : List (Option Between)). AreReady (place_at c.args.glyph.now.places c.args.i)
    (glyphs_of c.args.bases.now) made) (sym c.requires.made)
    (all_ready c.args.glyph.now.places c.args.i (glyphs_of c.args.bases.now)
    (omega (arith, c.requires.within, c.requires.read.layers))))

pub shapes_drawn-requires-clause-enough : goal.shapes_drawn-requires-clause-enough
shapes_drawn-requires-clause-enough c =
    ap (λ (shapes : List Shape). length (names_of shapes)) c.as_slice-2.ensures
    ∙ ap (λ (names : List (List ℕ)). length names) (layer_names c.args.glyph.now c.requires.read
    c.args.i c.args.layer.now c.requires.within c.requires.layer)
    ∙ sym c.requires.enough ∙ length-map c.args.bases.now arc_value
