-- what the job finds is what its part reads
use Rattle.std.proofs.Common.{[], ap, sym, ◌∙◌, subst, Some}
use Rattle.font_tables.specs.declared.tags.TableGroup.TheVariants as groups
use Rattle.font_graph.specs.Running.{table_finds, header_read}
use Rattle.font_plan.specs.Jobs.{parts}
use Rattle.font_plan.specs.Settling.{Comes}
use Rattle.font_plan.proofs.Orders.{some_there}
use Rattle.font_plan.proofs.Runs.{table_comes_so, TableGives}
use Rattle.font_graph.specs.Parts.{with_index}
use Rattle.font_tables.specs.Tables.{code_table}
use Rattle.font_plan.proofs.Found.{index_there, index_read_so, more_there, of_glyphs}
use Rattle.font_plan.proofs.Found.{order_of_index}
use Rattle.font_plan.proofs.plan.FontPlan.run_codes.Goals as goal

pub order_in-order-requires : goal.order_in-order-requires
order_in-order-requires c = (table_finds (parts c.args.self.now) c.args.tag c.args.reads.now c.requires.due
    c.requires.done).order

pub index_in-requires : goal.index_in-requires
index_in-requires c = index_there c.args.reads.now
    (more_there c.args.self.now c.args.tag c.args.reads.now (table_finds (parts c.args.self.now) c.args.tag c.args.reads.now c.requires.due
    c.requires.done) (Some groups.Codes)
    c.requires.group)

pub characters_in-requires-clause-order : goal.characters_in-requires-clause-order
characters_in-requires-clause-order c =
    let found = (table_finds (parts c.args.self.now) c.args.tag c.args.reads.now c.requires.due
    c.requires.done) in
    let header = some_there (header_read (parts []) c.args.reads.now) found.header in
    let index_is = c.index_in.ensures ∙ ap Some (sym c.get.ensures.value) in
    order_of_index c.args.self.now header.0 c.order_in-order.result.now c.get.result.now
    (of_glyphs c.args.self.now c.args.tag c.args.reads.now found (Some groups.Codes)
    c.requires.group header.0 c.order_in-order.result.now (with_index c.get.result.now) header.1
    c.order_in-order.ensures (index_read_so c.args.reads.now c.get.result.now index_is))

pub returns : goal.returns
returns c =
    let found = (table_finds (parts c.args.self.now) c.args.tag c.args.reads.now c.requires.due
    c.requires.done) in
    let header = some_there (header_read (parts []) c.args.reads.now) found.header in
    let index_is = c.index_in.ensures ∙ ap Some (sym c.get.ensures.value) in
    subst (Comes c.table_comes.result)
    (table_comes_so c.args.self.now c.args.reads.now c.args.tag (Some groups.Codes)
    header.0 c.order_in-order.result.now (with_index c.get.result.now) c.requires.group
    header.1 c.order_in-order.ensures
    (index_read_so c.args.reads.now c.get.result.now index_is))
    (c.table_comes.ensures _ (subst (λ codes. TableGives c.code_table.result (code_table codes))
    (c.as_slice.ensures.value ∙ c.in_ok-characters.ensures.codes) c.code_table.ensures))
