use Rattle.std.proofs.Common.{◌+◌, ◌≤◌, ◌∙◌, ap, length, arith}
use Rattle.std.proofs.lemmas.List.Elements.{All-same}
use Rattle.cmap_writer.proofs.Bounds.{few_groups, run_ends}
use Rattle.cmap_writer.proofs.table.table_of.Goals as goal

pub whole_table-requires-clause-few_groups : goal.whole_table-requires-clause-few_groups
whole_table-requires-clause-few_groups c =
    let same = ap length (c.as_slice.ensures.value ∙ c.in_ok-groups.ensures) in
    omega (arith, same, few_groups c.args.codes.now c.requires.codes)

pub whole_table-requires-clause-groups : goal.whole_table-requires-clause-groups
whole_table-requires-clause-groups c =
    All-same (λ run. run.first + run.more ≤ 1114111) _ _
    (c.as_slice.ensures.value ∙ c.in_ok-groups.ensures)
    (run_ends 1114111 c.args.codes.now c.requires.codes.within)
