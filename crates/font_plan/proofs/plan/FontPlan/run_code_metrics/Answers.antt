-- what the job finds is what its part reads
use Rattle.std.proofs.Common.{ap, sym, ◌∙◌, subst, Some, Ok}
use Rattle.font_tables.specs.declared.tags.TableGroup.TheVariants as groups
use Rattle.font_graph.specs.Running.{table_finds}
use Rattle.font_plan.specs.Jobs.{parts}
use Rattle.font_plan.specs.Settling.{Comes}
use Rattle.font_plan.proofs.Runs.{table_comes_so, TableGives}
use Rattle.font_graph.specs.Parts.{with_both}
use Rattle.metrics_tables.specs.Os2.{os2_table}
use Rattle.font_plan.proofs.Found.{both_there, both_read_so, more_there, of_glyphs}
use Rattle.font_plan.proofs.Found.{order_of_both}
use Rattle.font_plan.proofs.plan.FontPlan.run_code_metrics.Goals as goal

pub header_in-requires : goal.header_in-requires
header_in-requires c = (table_finds (parts c.args.self.now) c.args.tag c.args.reads.now c.requires.due
    c.requires.done).header

pub measures_in-requires : goal.measures_in-requires
measures_in-requires c = (both_there c.args.reads.now
    (more_there c.args.self.now c.args.tag c.args.reads.now (table_finds (parts c.args.self.now) c.args.tag c.args.reads.now c.requires.due
    c.requires.done) (Some groups.CodeMetrics)
    c.requires.group)).0

pub index_in-requires : goal.index_in-requires
index_in-requires c = (both_there c.args.reads.now
    (more_there c.args.self.now c.args.tag c.args.reads.now (table_finds (parts c.args.self.now) c.args.tag c.args.reads.now c.requires.due
    c.requires.done) (Some groups.CodeMetrics)
    c.requires.group)).1

pub order_in-requires : goal.order_in-requires
order_in-requires c = (table_finds (parts c.args.self.now) c.args.tag c.args.reads.now c.requires.due
    c.requires.done).order

pub characters_in-requires-clause-order : goal.characters_in-requires-clause-order
characters_in-requires-clause-order c =
    let found = (table_finds (parts c.args.self.now) c.args.tag c.args.reads.now c.requires.due
    c.requires.done) in
    let index_is = c.index_in.ensures ∙ ap Some (sym c.get.ensures.value) in
    let measures_is = c.measures_in.ensures ∙ ap Some (sym c.get-measures.ensures.value) in
    order_of_both c.args.self.now c.get-header.result.now c.order_in.result.now
    c.get-measures.result.now c.get.result.now
    (of_glyphs c.args.self.now c.args.tag c.args.reads.now found (Some groups.CodeMetrics)
    c.requires.group c.get-header.result.now c.order_in.result.now
    (with_both c.get-measures.result.now c.get.result.now)
    (c.header_in.ensures ∙ ap Some (sym c.get-header.ensures.value))
    c.order_in.ensures
    (both_read_so c.args.reads.now c.get-measures.result.now c.get.result.now measures_is
    index_is))

pub returns : goal.returns
returns c =
    let index_is = c.index_in.ensures ∙ ap Some (sym c.get.ensures.value) in
    let measures_is = c.measures_in.ensures ∙ ap Some (sym c.get-measures.ensures.value) in
    subst (Comes c.table_comes.result)
    (table_comes_so c.args.self.now c.args.reads.now c.args.tag (Some groups.CodeMetrics)
    c.get-header.result.now c.order_in.result.now
    (with_both c.get-measures.result.now c.get.result.now) c.requires.group
    (c.header_in.ensures ∙ ap Some (sym c.get-header.ensures.value)) c.order_in.ensures
    (both_read_so c.args.reads.now c.get-measures.result.now c.get.result.now measures_is
    index_is))
    (c.table_comes.ensures _ (subst (λ codes. TableGives c.os2_table.result
    (Ok (Some (os2_table c.get-header.result.now c.get-measures.result.now codes))))
    (c.as_slice.ensures.value ∙ c.in_ok-characters.ensures.codes) c.os2_table.ensures))
