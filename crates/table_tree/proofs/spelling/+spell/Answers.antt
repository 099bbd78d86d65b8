use Rattle.std.proofs.Common.{◌++◌, [], ◌∷◌, ap, sym, ◌∙◌, append_assoc, arith}
use Rattle.table_tree.specs.Trees.{tree_size, spelling, spelled_bytes, spelled_bytes-append}
use Rattle.table_tree.specs.TreeOf.{before}
use Rattle.table_tree.proofs.ResultLemmas.{on_ok}
use Rattle.table_tree.proofs.TreeLemmas.{size_at}
use Rattle.table_tree.proofs.spelling.+spell.Goals as goal

pub spell-spell_field-requires : goal.spell-spell_field-requires
spell-spell_field-requires t c =
    let within = size_at c.fields-field-items.result.now c.loop-field.field-index
    c.field-item.result c.loop-field-test.true c.field-item.is in
    (omega (arith, within, ap tree_size c.fields-field-items.ensures, c.decreases), tt)

pub spell_field-returns-in-Bytes : goal.spell_field-returns-in-Bytes
spell_field-returns-in-Bytes t c =
    let old = c.args.numbers.now.items in
    on_ok c.spell_bytes.result c.spell_bytes.ensures (λ e others.
    ap (λ bytes. bytes ++ spelling others) e
    ∙ append_assoc old (2 ∷ spelled_bytes c.as_slice.result.now []) (spelling others)
    ∙ ap (λ bytes. old ++ 2 ∷ bytes) (spelled_bytes-append c.as_slice.result.now []
    (spelling others))
    ∙ ap (λ content. old ++ 2 ∷ spelled_bytes content (spelling others)) c.as_slice.ensures
    ∙ ap (λ field. old ++ spelling (before field others)) (sym c.in-Bytes.is))
