use Rattle.std.proofs.Common.{◌+◌}
use Rattle.std.proofs.lemmas.Result.{err_from_is_err_and}
use Rattle.font_ir.specs.FlatGlyphs.{glyphs_of}
use Rattle.refusal_codes.specs.declared.rule.Rule.TheVariants.{DeltaTooLarge}
use Rattle.component_flatten.specs.Judging.{has_no_large_deltas}
use Rattle.component_flatten.proofs.SharedBases.{breaks_all}
use Rattle.component_flatten.proofs.betweens.Betweens.of.Goals as goal

pub returns-in_err-push_next-clause-limit : goal.returns-in_err-push_next-clause-limit
returns-in_err-push_next-clause-limit c =
    let p = err_from_is_err_and c.from_residual-in_err-push_next.result
    c.from_residual-in_err-push_next.ensures.1 in
    rw (p.1, p.2) (breaks_all DeltaTooLarge (has_no_large_deltas c.args.places.now)
    (c.loop-component.component + 1) (glyphs_of c.args.bases.now) c.in_err-push_next.field-0.0
    c.in_err-push_next.ensures.limit)
