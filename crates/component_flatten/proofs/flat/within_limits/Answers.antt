use Rattle.std.proofs.Common.{◌≡◌, List, true, subst, sym}
use Rattle.std.specs.List.{list_all}
use Rattle.std.proofs.lemmas.Result.{err_from_is_err_and}
use Rattle.fixed_math.specs.declared.F2Dot14.{F2Dot14}
use Rattle.font_ir.specs.FlatGlyphs.{glyphs_of}
use Rattle.refusal_codes.specs.declared.rule.Rule.TheVariants.{DeltaTooLarge}
use Rattle.component_flatten.specs.Drawing.{glyph_drawn}
use Rattle.component_flatten.specs.Judging.{BreaksRule, has_no_large_deltas}
use Rattle.component_flatten.proofs.LimitLaws.{gives_large, gives_drawn}
use Rattle.component_flatten.proofs.flat.within_limits.Goals as goal

pub returns-in_err-made : goal.returns-in_err-made
returns-in_err-made c =
    let p = err_from_is_err_and c.from_residual.result c.from_residual.ensures.1 in
    rw (p.1, p.2) (gives_large c.args.glyph.now (glyphs_of c.args.bases.now) c.in_err-made.field-0.0
    (sym c.if-has_many_points.ensures)
    (subst (λ (places : List (List F2Dot14)). BreaksRule DeltaTooLarge
    (list_all (has_no_large_deltas places) (glyphs_of c.args.bases.now)) c.in_err-made.field-0.0)
    c.as_slice.ensures c.in_err-made.ensures.limit))

pub returns : goal.returns
returns c = gives_drawn c.args.glyph.now (glyphs_of c.args.bases.now)
    (glyph_drawn c.args.glyph.now (glyphs_of c.args.bases.now)) c.drawn.result
    (sym c.if-has_many_points.ensures)
    (subst (λ (places : List (List F2Dot14)). list_all (has_no_large_deltas places)
    (glyphs_of c.args.bases.now) ≡ true) c.as_slice.ensures c.in_ok-made.ensures.limit)
    c.drawn.ensures.value c.drawn.ensures.limit
