use Rattle.std.proofs.Common.{ap, ◌∙◌}
use Rattle.table_tree.specs.Layouts.{layout_of, length_of}
use Rattle.table_tree.specs.Views.{pieces_of}
use Rattle.table_tree.proofs.PieceLemmas.{length_bytes}
use Rattle.table_tree.proofs.ResultLemmas.{if_ok}
use Rattle.table_tree.proofs.layouts.length.Goals as goal

pub returns : goal.returns
returns c =
    if_ok c.length_of.result c.length_of.ensures (λ n is.
    is ∙ ap (λ pieces. length_of (pieces_of pieces)) c.as_slice.ensures.value
    ∙ ap length_of c.in_ok-pieces.ensures ∙ length_bytes (layout_of c.args.tree.now))
