use Rattle.style_tables.proofs.StoreLemmas.{is_store}
use Rattle.style_tables.proofs.metrics_variations.mvar.Goals as goal

pub table_of-requires-clause-store : goal.table_of-requires-clause-store
table_of-requires-clause-store c =
    let supports = c.supports.ensures in
    let varied = c.in_ok-varied.ensures in
    is_store c.args.header.now c.args.model.now c.supports.result.now
    c.in_ok-varied.varied.rows.items c.requires.header c.requires.model supports.as_many
    supports.sides varied.1 varied.2 c.len.result c.len.ensures
