use Rattle.std.proofs.Common.{◌≡◌, length, arith, ap, ◌∙◌}
use Rattle.gvar_writer.proofs.NamedSteps.{length_zip}
use Rattle.gvar_writer.proofs.named.outline_of.Goals as goal

pub cut_outline-requires : goal.cut_outline-requires
cut_outline-requires c =
    let count : length c.as_slice.result.now ≡ length c.args.xs.now = ap length
    (c.as_slice.ensures.value ∙ c.in_ok-points.ensures)
    ∙ length_zip c.args.xs.now c.args.ys.now c.requires.pairs in
    omega arith
