use Rattle.metrics_tables.proofs.NameLemmas.{short_names}
use Rattle.metrics_tables.proofs.glyph_names.post.Goals as goal

pub push_names_part-requires-clause-short : goal.push_names_part-requires-clause-short
push_names_part-requires-clause-short c = short_names c.args.order.now c.names.result.now
    c.len.ensures.valid c.names.ensures
