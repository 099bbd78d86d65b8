-- one number more
use Rattle.std.proofs.Common.{◌++◌, ap, ◌∙◌}
use Rattle.std.specs.Option.{option_to_list}
use Rattle.font_ir.specs.declared.glyph.Kept.{Kept}
use Rattle.font_ir.specs.Glyphs.{gid_of}
use Rattle.font_plan.proofs.Loops.{collected_flat}
use Rattle.font_plan.proofs.glyph_jobs.gids_of.Goals as goal

pub loop-component-preserved : goal.loop-component-preserved
loop-component-preserved c = collected_flat c.as_slice-kept.result.now
    c.loop-component.component-index c.component-item.result c.loop-component-test.true
    (λ (kept : Kept). option_to_list (gid_of c.args.order.now.names kept.base))
    c.loop-component.gids.items c.push_gid.new.gids.items c.loop-component.invariant
    (c.in_ok-push_gid.ensures ∙ ap (λ (kept : Kept). c.loop-component.gids.items
    ++ option_to_list (gid_of c.args.order.now.names kept.base)) c.component-item.is)
