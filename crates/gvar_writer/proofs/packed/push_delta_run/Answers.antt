use Rattle.std.proofs.Common.{◌++◌, ◌∙◌, ap, arith, pos, rules, get_or, FitsSigned, to_z-of_z}
use Rattle.std.specs.Int.{w16}
use Rattle.gvar_writer.specs.PackedDeltas.{delta_bytes}
use Rattle.gvar_writer.proofs.RunSteps.{value_step}
use Rattle.gvar_writer.proofs.packed.push_delta_run.Goals as goal

pub loop-delta-preserved : goal.loop-delta-preserved
loop-delta-preserved c =
    let run = c.args.run.now in
    let flags = c.delta_flags-flags.result in
    let delta = get_or run c.loop-delta.delta-index (pos 0) in
    let fits : FitsSigned w16 delta = search rules in
    value_step (delta_bytes flags) run c.loop-delta.delta-index (pos 0) c.loop-delta.bytes.items _ _
    (omega arith)
    (c.in_ok-push_delta.ensures ∙ ap (λ z. c.loop-delta.bytes.items ++ delta_bytes flags z)
    (to_z-of_z fits))
    c.loop-delta.invariant
