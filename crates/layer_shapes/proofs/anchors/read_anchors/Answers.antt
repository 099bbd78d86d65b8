use Rattle.std.proofs.Common.{◌++◌, ◌+◌, drop, get_or, map, nat_eq, arith, ap, ◌∙◌, sym}
use Rattle.std.proofs.Common.{refl}
use Rattle.std.specs.HashSet.{contains}
use Rattle.std.specs.Cmp.Lexicographic.{pointwise}
use Rattle.std.proofs.lemmas.List.{at_drop_more}
use Rattle.refusal_codes.specs.NotingLaws.{noted_turn}
use Rattle.layer_shapes.specs.LayerRules.{anchor_failures}
use Rattle.layer_shapes.specs.LayerReading.{anchor_of, first_of_each_name}
use Rattle.layer_shapes.proofs.AnchorTurns.{unseen, anchor_start, anchor_turn}
use Rattle.layer_shapes.proofs.anchors.read_anchors.Goals as goal

pub loop-number-preserved : goal.loop-number-preserved
loop-number-preserved c =
    let t = c.args.tree.now in
    let numbers = c.args.numbers.now in
    let i = c.loop-number.number-index in
    let turn = c.loop-number.invariant in
    let seen = contains (pointwise nat_eq) c.loop-number.seen in
    let now = contains (pointwise nat_eq) c.read_next.new.seen in
    let rest = first_of_each_name (map (anchor_of t) (drop (i + 1) numbers)) in (
      anchor_turn seen now (anchor_of t (get_or numbers i 0)) c.in_ok-read_next.ensures.seen.0
          c.loop-number.anchors.items _ _ rest c.in_ok-read_next.ensures.anchors
          (sym (ap (λ bs. c.loop-number.anchors.items ++ unseen seen bs)
          (at_drop_more (λ ns. first_of_each_name (map (anchor_of t) ns)) numbers i 0
          (omega arith)))
          ∙ turn.0),
      noted_turn (anchor_failures t) numbers i 0 _ _ _ (omega arith)
          c.in_ok-read_next.ensures.failures turn.1,
    )

pub loop-number-init : goal.loop-number-init
loop-number-init c =
    let anchors = first_of_each_name (map (anchor_of c.args.tree.now) c.args.numbers.now) in (
      anchor_start c.new-anchors.result.items c.new-seen.result.keys anchors
          c.new-anchors.ensures.items c.new-seen.ensures.empty,
      refl,
    )
