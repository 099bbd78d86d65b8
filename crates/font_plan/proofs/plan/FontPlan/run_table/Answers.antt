-- no table has this tag
use Rattle.std.proofs.Common.{[], None, Ok, sym, ◌∙◌, subst, refl}
use Rattle.font_graph.specs.Parts.{nothing}
use Rattle.font_graph.specs.Running.{table_finds, order_read, header_read}
use Rattle.font_plan.specs.Jobs.{parts}
use Rattle.font_plan.specs.Settling.{Comes}
use Rattle.font_plan.proofs.Orders.{some_there}
use Rattle.font_plan.proofs.Runs.{table_comes_so}
use Rattle.font_plan.proofs.plan.FontPlan.run_table.Goals as goal

pub returns-in-None : goal.returns-in-None
returns-in-None c =
    let reads = c.args.reads.now in
    let found = table_finds (parts c.args.self.now) c.args.tag reads c.requires.due
    c.requires.done in
    let header = some_there (header_read (parts []) reads) found.header in
    let order = some_there (order_read (parts []) reads) found.order in
    subst (Comes c.table_comes.result)
    (table_comes_so c.args.self.now reads c.args.tag None header.0 order.0 nothing
    (sym c.group_of.ensures ∙ c.in-None.is) header.1 order.1 refl)
    (c.table_comes.ensures (Ok None) refl)
