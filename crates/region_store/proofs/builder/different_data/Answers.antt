use Rattle.std.proofs.lemmas.Grind.{common_steps}
use Rattle.std.proofs.Common.{arith, ◌∙◌}
use Rattle.region_store.proofs.RowLemmas.{data_of_keys}
use Rattle.region_store.proofs.builder.different_data.Goals as goal

pub returns : goal.returns
returns c =
    let whole = data_of_keys c.args.rows.now c.args.regions in
    c.loop-row.invariant ∙ grind (arith, common_steps) ∙ whole
