-- what the job finds is what its part reads
use Rattle.std.proofs.Common.{ap, sym, ◌∙◌, subst, Some}
use Rattle.font_graph.specs.Running.{composite_finds, IsCompositeOf}
use Rattle.font_plan.specs.Jobs.{parts}
use Rattle.font_plan.specs.Settling.{Comes}
use Rattle.font_plan.proofs.Composites.{composite_bases}
use Rattle.font_plan.proofs.Found.{composite_drawn}
use Rattle.font_plan.proofs.Runs.{composite_comes}
use Rattle.font_plan.proofs.plan.FontPlan.run_composite.Goals as goal

pub header_in-requires : goal.header_in-requires
header_in-requires c = (composite_finds (parts c.args.self.now) c.args.glyph c.args.reads.now
    c.requires.due c.requires.done).header

pub order_in-order-requires : goal.order_in-order-requires
order_in-order-requires c = (composite_finds (parts c.args.self.now) c.args.glyph c.args.reads.now
    c.requires.due c.requires.done).order

pub flat_in-requires : goal.flat_in-requires
flat_in-requires c = (composite_finds (parts c.args.self.now) c.args.glyph c.args.reads.now
    c.requires.due c.requires.done).flat

-- the composite that is read
composite : (c : goal.After-get-flat) → IsCompositeOf (parts c.args.self.now)
    c.get-header.result.now c.order_in-order.result.now c.get-flat.result.now
composite c = (composite_finds (parts c.args.self.now) c.args.glyph c.args.reads.now
    c.requires.due c.requires.done).flat_is c.get-header.result.now c.order_in-order.result.now
    c.get-flat.result.now (c.header_in.ensures ∙ ap Some (sym c.get-header.ensures.value))
    c.order_in-order.ensures
    (c.flat_in.ensures ∙ ap Some (sym (c.get-flat.ensures ∙ c.get.ensures.value)))

pub run_composite-requires-clause-drawn : goal.run_composite-requires-clause-drawn
run_composite-requires-clause-drawn c = composite_drawn c.drawing_laws.ensures c.args.self.now
    c.get-header.result.now c.order_in-order.result.now c.get-flat.result.now (composite c)

pub run_composite-requires-clause-composite : goal.run_composite-requires-clause-composite
run_composite-requires-clause-composite c = (composite c).is_composite

pub run_composite-requires-clause-bases : goal.run_composite-requires-clause-bases
run_composite-requires-clause-bases c = composite_bases c.args.self.now c.get-header.result.now
    c.order_in-order.result.now c.get-flat.result.now (composite c)

pub returns : goal.returns
returns c = subst (Comes c.run_composite.result)
    (composite_comes c.args.self.now c.args.reads.now c.args.glyph c.get-header.result.now
    c.order_in-order.result.now c.get-flat.result.now
    (c.header_in.ensures ∙ ap Some (sym c.get-header.ensures.value)) c.order_in-order.ensures
    (c.flat_in.ensures ∙ ap Some (sym (c.get-flat.ensures ∙ c.get.ensures.value))))
    c.run_composite.ensures
