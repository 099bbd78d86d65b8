use Rattle.std.proofs.Common.{◌+◌, length, refl}
use Rattle.name_tables.proofs.Lengths.{table_is}
use Rattle.name_tables.proofs.names.name.Goals as goal

pub returns : goal.returns
returns c =
    let h = c.args.header.now in
    let store = c.in_ok-names.names in
    let start = rw (c.new-table.ensures.items, c.len.ensures, c.len-2.ensures)
    at c.in_ok-push_head.ensures in
    let middle = rw c.as_slice.ensures.value at c.in_ok-extend_from_slice.ensures.items in
    let end = rw c.as_slice-2.ensures.value at c.in_ok-extend_from_slice-2.ensures.items in
    table_is h store (6 + length h.axes + length h.instances) c.push_head.new.table.items
    c.extend_from_slice.new.self.items c.extend_from_slice-2.new.self.items refl
    c.in_ok-names.ensures start middle end
