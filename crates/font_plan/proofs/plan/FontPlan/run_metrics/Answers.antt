-- what the job finds is what its part reads
use Rattle.std.proofs.Common.{[], ap, sym, ◌∙◌, subst, Some}
use Rattle.font_tables.specs.declared.tags.TableGroup.TheVariants as groups
use Rattle.font_graph.specs.Running.{table_finds, order_read}
use Rattle.font_plan.specs.Jobs.{parts}
use Rattle.font_plan.specs.Settling.{Comes}
use Rattle.font_plan.proofs.Orders.{some_there}
use Rattle.font_plan.proofs.Runs.{table_comes_so}
use Rattle.font_ir.specs.Headers.{IsHeader}
use Rattle.font_graph.specs.Parts.{with_measures}
use Rattle.font_plan.proofs.Found.{measures_there, measures_read_so, more_there, of_glyphs}
use Rattle.font_plan.proofs.Found.{measures_fit}
use Rattle.font_plan.proofs.plan.FontPlan.run_metrics.Goals as goal

pub header_in-requires : goal.header_in-requires
header_in-requires c = (table_finds (parts c.args.self.now) c.args.tag c.args.reads.now c.requires.due
    c.requires.done).header

pub measures_in-requires : goal.measures_in-requires
measures_in-requires c = measures_there c.args.reads.now
    (more_there c.args.self.now c.args.tag c.args.reads.now (table_finds (parts c.args.self.now) c.args.tag c.args.reads.now c.requires.due
    c.requires.done) (Some groups.Metrics)
    c.requires.group)

header_known : (c : goal.After-get-measures) → IsHeader c.get-header.result.now
header_known c = subst IsHeader (sym c.get-header.ensures.value) c.get-header.ensures.holds

pub metrics_table-requires-clause-for_header : goal.metrics_table-requires-clause-for_header
metrics_table-requires-clause-for_header c =
    let found = (table_finds (parts c.args.self.now) c.args.tag c.args.reads.now c.requires.due
    c.requires.done) in
    let order = some_there (order_read (parts []) c.args.reads.now) found.order in
    let measures_is = c.measures_in.ensures ∙ ap Some (sym c.get-measures.ensures.value) in
    measures_fit c.drawing_laws.ensures c.measures_are_for_their_header.ensures c.args.self.now c.get-header.result.now order.0
    c.get-measures.result.now (header_known c)
    (c.made_notdef_is_flat.ensures c.get-header.result.now (header_known c))
    (of_glyphs c.args.self.now c.args.tag c.args.reads.now found (Some groups.Metrics)
    c.requires.group c.get-header.result.now order.0 (with_measures c.get-measures.result.now)
    (c.header_in.ensures ∙ ap Some (sym c.get-header.ensures.value)) order.1
    (measures_read_so c.args.reads.now c.get-measures.result.now measures_is))

pub returns : goal.returns
returns c =
    let found = (table_finds (parts c.args.self.now) c.args.tag c.args.reads.now c.requires.due
    c.requires.done) in
    let order = some_there (order_read (parts []) c.args.reads.now) found.order in
    let measures_is = c.measures_in.ensures ∙ ap Some (sym c.get-measures.ensures.value) in
    subst (Comes c.table_comes.result)
    (table_comes_so c.args.self.now c.args.reads.now c.args.tag (Some groups.Metrics)
    c.get-header.result.now order.0 (with_measures c.get-measures.result.now) c.requires.group
    (c.header_in.ensures ∙ ap Some (sym c.get-header.ensures.value)) order.1
    (measures_read_so c.args.reads.now c.get-measures.result.now measures_is))
    (c.table_comes.ensures _ c.metrics_table.ensures)
