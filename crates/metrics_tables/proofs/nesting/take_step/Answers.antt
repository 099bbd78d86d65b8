use Rattle.std.proofs.Common.{◌<◌, length, sym, subst}
use Rattle.metrics_tables.specs.Walks.{AreDepths, gid_in}
use Rattle.metrics_tables.proofs.WalkLemmas.{all_small}
use Rattle.metrics_tables.proofs.nesting.take_step.Goals as goal

pub depth_over-depth-requires-clause-small : goal.depth_over-depth-requires-clause-small
depth_over-depth-requires-clause-small c =
    let bases = c.args.bases.now in
    all_small bases c.as_slice-in-Leave-2.result.now c.in-Leave.gid
    c.index-bases-gid-in-Leave.result c.as_slice-in-Leave.result.now c.requires.bases
    (subst (AreDepths bases) (sym c.as_slice-in-Leave-2.ensures.value) c.requires.depths)
    (subst (λ step. gid_in step < length bases) c.in-Leave.is c.requires.there)
    c.index-bases-gid-in-Leave.is c.as_slice-in-Leave.ensures
