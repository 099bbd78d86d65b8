use Rattle.std.proofs.Common.{◌≡◌, ◌<◌, false, true, length, ap, sym, ◌∙◌, arith}
use Rattle.table_tree.specs.Trees.{tree_size}
use Rattle.table_tree.specs.Equal.{tree_eq, field_eq}
use Rattle.table_tree.proofs.TreeLemmas.{size_at}
use Rattle.table_tree.proofs.EqualLemmas.{unlike_lengths, unequal_turn, equal_turn}
use Rattle.table_tree.proofs.equal.+equal.Goals as goal

pub nodes_equal-returns-then-fields-others : goal.nodes_equal-returns-then-fields-others
nodes_equal-returns-then-fields-others t c =
    unlike_lengths c.fields-fields.result.now c.fields-others.result.now c.if-fields-others.true
    ∙ (λ i. tree_eq (c.fields-fields.ensures i) (c.fields-others.ensures i))

pub nodes_equal-fields_equal-requires : goal.nodes_equal-fields_equal-requires
nodes_equal-fields_equal-requires t c =
    let within = size_at c.fields-fields.result.now c.loop-i.i c.index-fields-i.result
    c.loop-i-test.true c.index-fields-i.is in
    (omega (arith, within, ap tree_size c.fields-fields.ensures, c.decreases), tt)

pub nodes_equal-returns-then-not-fields_equal : goal.nodes_equal-returns-then-not-fields_equal
nodes_equal-returns-then-not-fields_equal t c =
    let fs = c.fields-fields.result.now in
    let gs = c.fields-others.result.now in
    let long : length fs ≡ length gs = c.if-fields-others.false in
    let in_gs : c.loop-i.i < length gs = omega arith in
    let unlike : field_eq c.index-fields-i.result c.index-others-i.result ≡ false = cc in
    sym (c.loop-i.invariant
    ∙ unequal_turn fs gs c.loop-i.i c.index-fields-i.result c.index-others-i.result
    c.loop-i-test.true c.index-fields-i.is in_gs c.index-others-i.is unlike)
    ∙ (λ i. tree_eq (c.fields-fields.ensures i) (c.fields-others.ensures i))

pub nodes_equal-loop-i-preserved : goal.nodes_equal-loop-i-preserved
nodes_equal-loop-i-preserved t c =
    let fs = c.fields-fields.result.now in
    let gs = c.fields-others.result.now in
    let long : length fs ≡ length gs = c.if-fields-others.false in
    let in_gs : c.loop-i.i < length gs = omega arith in
    let alike : field_eq c.index-fields-i.result c.index-others-i.result ≡ true = cc in
    c.loop-i.invariant
    ∙ equal_turn fs gs c.loop-i.i c.index-fields-i.result c.index-others-i.result
    c.loop-i-test.true c.index-fields-i.is in_gs c.index-others-i.is alike
