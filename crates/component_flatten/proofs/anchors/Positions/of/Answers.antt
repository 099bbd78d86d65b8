use Rattle.std.proofs.Common.{◌≡◌, ℕ, ◌+◌, ◌-◌, drop, subst, arith}
use Rattle.component_flatten.specs.Judging.{Finds}
use Rattle.component_flatten.proofs.AnchorLaws.{finds_more}
use Rattle.component_flatten.proofs.anchors.Positions.of.Goals as goal

pub loop-left-preserved : goal.loop-left-preserved
loop-left-preserved c =
    let same : c.loop-left.left ≡ (c.loop-left.left - 1) + 1 = omega arith in
    record {
      within = omega arith;
      finds = finds_more c.loop-left.by_name.entries c.insert.new.by_name.entries
          c.args.anchors.now (c.loop-left.left - 1) c.index-anchors-left.result (omega arith)
          c.index-anchors-left.is c.in_ok-insert.ensures
          (subst (λ (m : ℕ). Finds c.loop-left.by_name.entries (drop m c.args.anchors.now)) same
          c.loop-left.invariant.finds);
    }
