-- what the job finds is what its part reads
use Rattle.std.proofs.Common.{ap, sym, ◌∙◌, subst, Some, refl}
use Rattle.font_tables.specs.declared.tags.TableGroup.TheVariants as groups
use Rattle.font_graph.specs.Running.{table_finds}
use Rattle.font_plan.specs.Jobs.{parts}
use Rattle.font_plan.specs.Settling.{Comes}
use Rattle.font_plan.proofs.Runs.{table_comes_so}
use Rattle.font_graph.specs.Parts.{nothing}
use Rattle.font_plan.proofs.plan.FontPlan.run_plain.Goals as goal

pub header_in-requires : goal.header_in-requires
header_in-requires c = (table_finds (parts c.args.self.now) c.args.tag c.args.reads.now c.requires.due
    c.requires.done).header

pub order_in-order-requires : goal.order_in-order-requires
order_in-order-requires c = (table_finds (parts c.args.self.now) c.args.tag c.args.reads.now c.requires.due
    c.requires.done).order

pub returns : goal.returns
returns c = subst (Comes c.table_comes.result)
    (table_comes_so c.args.self.now c.args.reads.now c.args.tag (Some groups.Plain)
    c.get-header.result.now c.order_in-order.result.now nothing c.requires.group
    (c.header_in.ensures ∙ ap Some (sym c.get-header.ensures.value)) c.order_in-order.ensures refl)
    (c.table_comes.ensures _ c.plain_table.ensures)
