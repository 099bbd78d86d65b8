use Rattle.std.proofs.Common.{◌++◌, ◌∷◌, [], ◌∙◌, ap, pos, arith, rules, get_or, FitsSigned}
use Rattle.std.proofs.Common.{to_z-of_z}
use Rattle.std.specs.Int.{w16}
use Rattle.gvar_writer.proofs.NamedSteps.{item_named, item_left_out}
use Rattle.gvar_writer.proofs.named.named_deltas.Goals as goal
use Rattle.gvar_writer.proofs.named.named_deltas.Goals.{then-is_named+in_ok-push, else-is_named}

pub loop-i-preserved : goal.loop-i-preserved
loop-i-preserved c =
    let named = c.args.named.now in
    let deltas = c.args.deltas.now in
    let i = c.loop-i.i in
    elim c.if-is_named.branch [
      | then-is_named+in_ok-push w ↦
          let fits : FitsSigned w16 (get_or deltas i (pos 0)) = search rules in
          rw w.kept-is (item_named named deltas c.loop-i.kept.items _ _ i (pos 0) (omega arith)
          (omega arith) w.if-is_named.true
          (w.in_ok-push.ensures.items ∙ ap (λ z. c.loop-i.kept.items ++ z ∷ []) (to_z-of_z fits))
          c.loop-i.invariant)
      | else-is_named w ↦
          rw w.kept-is (item_left_out named deltas c.loop-i.kept.items _ i (pos 0) (omega arith)
          (omega arith) w.if-is_named.false c.loop-i.invariant)
    ]
