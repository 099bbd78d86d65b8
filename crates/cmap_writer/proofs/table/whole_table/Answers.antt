use Rattle.std.proofs.Common.{◌++◌, ◌∙◌, ap, sym}
use Rattle.cmap_writer.specs.Subtables.{format_4, format_12}
use Rattle.cmap_writer.specs.Cmap.{two_records}
use Rattle.cmap_writer.proofs.Fields.{length-format_4, whole_table_is}
use Rattle.cmap_writer.proofs.table.whole_table.Goals as goal

pub returns : goal.returns
returns c =
    let segments = c.args.segments.now in
    let groups = c.args.groups.now in
    let len = c.format_4_length.result in
    c.in_ok-push_format_12.ensures
    ∙ ap (λ table. table ++ format_12 groups)
    (c.in_ok-push_format_4.ensures
    ∙ ap (λ table. table ++ format_4 segments)
    (c.in_ok-push_two_records.ensures ∙ ap (λ table. table ++ two_records len)
    c.in_ok-table.ensures.items))
    ∙ whole_table_is segments groups len (c.format_4_length.ensures
    ∙ sym (length-format_4 segments))
