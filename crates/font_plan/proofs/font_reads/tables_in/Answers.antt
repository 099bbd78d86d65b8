-- one table more
use Rattle.font_assembly.specs.Assembled as assembled
use Rattle.font_tables.specs.declared.tags.TheConstants.{TABLE_TAGS}
use Rattle.font_plan.specs.Reading.{table_read, present_table}
use Rattle.font_plan.proofs.Loops.{collected_flat}
use Rattle.font_plan.proofs.font_reads.tables_in.Goals as goal

pub loop-tag-preserved : goal.loop-tag-preserved
loop-tag-preserved c = collected_flat TABLE_TAGS c.loop-tag.tag-index _ c.loop-tag-test.true
    (λ tag. present_table tag (table_read tag c.args.reads.now))
    (assembled.tables_of c.loop-tag.tables.items)
    (assembled.tables_of c.push_table.new.tables.items) c.loop-tag.invariant
    c.in_ok-push_table.ensures
