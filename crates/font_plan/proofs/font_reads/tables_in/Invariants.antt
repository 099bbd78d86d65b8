-- the tables so far are those of the tags before this one
use Rattle.std.proofs.Common.{◌≡◌, take}
use Rattle.std.specs.List.{flat_map}
use Rattle.font_assembly.specs.Assembled as assembled
use Rattle.font_tables.specs.declared.tags.TheConstants.{TABLE_TAGS}
use Rattle.font_plan.specs.Reading.{table_read, present_table}
use Rattle.font_plan.proofs.font_reads.tables_in.Given as goal

abbrev pub invariant-loop-tag : goal.invariant-loop-tag
invariant-loop-tag l = assembled.tables_of l.tables.items
    ≡ flat_map (λ tag. present_table tag (table_read tag l.reads)) (take l.tag-index TABLE_TAGS)
