use Rattle.std.proofs.Common.{◌+◌, drop, sym, ◌∙◌, arith}
use Rattle.std.specs.Option.{option_eq}
use Rattle.std.specs.Ordering.{on}
use Rattle.std.specs.Cmp.Lexicographic.{pointwise}
use Rattle.plist_reader.specs.Same.{same_node}
use Rattle.plist_reader.specs.Stored.{seen_node}
use Rattle.plist_reader.proofs.SameLemmas.{pointwise-at, differs, agrees}
use Rattle.plist_reader.proofs.nodes.NodesPartialEq.eq.Goals as goal

pub returns-then-ne : goal.returns-then-ne
returns-then-ne c =
    let own = c.args.self.now in
    let others = c.args.other.now in
    let i = c.loop-index.index in
    let rest = pointwise same_node (drop (i + 1) own) (drop (i + 1) others) in
    differs (option_eq (on seen_node same_node) c.node.result c.node-in-loop-index.result) rest
    c.if-ne.ensures
    ∙ sym (pointwise-at seen_node same_node own others i c.node.result c.node-in-loop-index.result
    c.node.ensures c.node-in-loop-index.ensures
    (omega (arith, c.loop-index-test.true, c.len-index-end.ensures)) c.loop-index.invariant.0)
    ∙ c.loop-index.invariant.1

pub loop-index-preserved : goal.loop-index-preserved
loop-index-preserved c =
    let own = c.args.self.now in
    let others = c.args.other.now in
    let i = c.loop-index.index in
    let rest = pointwise same_node (drop (i + 1) own) (drop (i + 1) others) in (
      c.loop-index.invariant.0,
      sym (agrees (option_eq (on seen_node same_node) c.node.result c.node-in-loop-index.result)
          rest c.if-ne.ensures)
          ∙ sym (pointwise-at seen_node same_node own others i c.node.result
          c.node-in-loop-index.result c.node.ensures c.node-in-loop-index.ensures
          (omega (arith, c.loop-index-test.true, c.len-index-end.ensures))
          c.loop-index.invariant.0)
          ∙ c.loop-index.invariant.1,
    )
