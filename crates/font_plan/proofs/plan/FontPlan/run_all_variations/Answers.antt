-- what the job finds is what its part reads
use Rattle.std.proofs.Common.{[], ap, sym, ◌∙◌, subst, Some, refl}
use Rattle.font_tables.specs.declared.tags.TableGroup.TheVariants as groups
use Rattle.font_graph.specs.Running.{table_finds}
use Rattle.font_plan.specs.Jobs.{parts}
use Rattle.font_plan.specs.Settling.{Comes}
use Rattle.font_plan.proofs.Runs.{table_comes_so, TableGives}
use Rattle.std.proofs.Common.{map, length, ◌≤◌}
use Rattle.std.proofs.lemmas.List.{length-map}
use Rattle.refusal_codes.specs.declared.limits.TheConstants.{GLYPHS}
use Rattle.font_graph.specs.Parts.{with_data}
use Rattle.font_graph.specs.Graph.{data_in}
use Rattle.font_graph.specs.Same.{same_id}
use Rattle.font_tables.specs.Tables.{variations_table}
use Rattle.font_plan.proofs.Found.{of_glyphs, variations_few}
use Rattle.font_plan.proofs.plan.FontPlan.run_all_variations.Goals as goal

pub header_in-requires : goal.header_in-requires
header_in-requires c = (table_finds (parts c.args.self.now) c.args.tag c.args.reads.now c.requires.due
    c.requires.done).header

pub order_in-requires : goal.order_in-requires
order_in-requires c = (table_finds (parts c.args.self.now) c.args.tag c.args.reads.now c.requires.due
    c.requires.done).order

pub variations_table-requires-clause-parts : goal.variations_table-requires-clause-parts
variations_table-requires-clause-parts c =
    let found = (table_finds (parts c.args.self.now) c.args.tag c.args.reads.now c.requires.due
    c.requires.done) in
    let given = data_in (parts []) same_id c.args.reads.now in
    let few = variations_few c.args.self.now c.get-header.result.now c.order_in.result.now given
    (of_glyphs c.args.self.now c.args.tag c.args.reads.now found (Some groups.Variations)
    c.requires.group c.get-header.result.now c.order_in.result.now (with_data given)
    (c.header_in.ensures ∙ ap Some (sym c.get-header.ensures.value)) c.order_in.ensures refl) in
    let same = sym (length-map c.as_slice.result.now (λ part. part.value.items))
    ∙ ap length (ap (λ items. map (λ part. part.value.items) items) c.as_slice.ensures.value
    ∙ c.in_ok-parts.ensures) in
    subst (λ n. n ≤ GLYPHS) (sym same) few

pub returns : goal.returns
returns c = subst (Comes c.table_comes.result)
    (table_comes_so c.args.self.now c.args.reads.now c.args.tag (Some groups.Variations)
    c.get-header.result.now c.order_in.result.now
    (with_data (data_in (parts []) same_id c.args.reads.now)) c.requires.group
    (c.header_in.ensures ∙ ap Some (sym c.get-header.ensures.value)) c.order_in.ensures refl)
    (c.table_comes.ensures _ (subst (λ all. TableGives c.variations_table.result
    (variations_table c.get-header.result.now all))
    (ap (λ items. map (λ part. part.value.items) items) c.as_slice.ensures.value
    ∙ c.in_ok-parts.ensures) c.variations_table.ensures))
