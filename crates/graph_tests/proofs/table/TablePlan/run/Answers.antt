use Rattle.std.proofs.Common.{nat_eq, sym, ap, ◌∙◌, subst}
use Rattle.std.specs.Prelude.{All, IsSome, slice_get}
use Rattle.access_context.specs.Read.{value_read}
use Rattle.graph_tests.specs.Tables.{row_access}
use Rattle.graph_tests.proofs.TableReads.{due_values}
use Rattle.graph_tests.proofs.table.TablePlan.run.Goals as goal

pub sum_of-sum-requires : goal.sum_of-sum-requires
sum_of-sum-requires c =
    subst (λ ids. All (λ k. IsSome (value_read nat_eq c.args.reads.now k)) ids)
    (sym (c.reads_at.ensures ∙ ap (λ rows. (row_access (slice_get rows c.args.id.now)).reads)
    c.as_slice-rows.ensures.value))
    (due_values c.args.self.now.opening.items c.args.self.now.rows.items c.args.id.now
    c.args.reads.now c.requires.due c.requires.done)
