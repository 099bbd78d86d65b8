use Rattle.std.proofs.Common.{◌≡◌, ◌+◌, ◌≤◌, [], ◌∷◌, ◌++◌, ◌∙◌, true, false, ap, sym, subst, arith}
use Rattle.std.proofs.Common.{append_assoc, drop, get_or}
use Rattle.cmap_writer.specs.Runs.{run_of, continues, joined, longest_runs}
use Rattle.cmap_writer.proofs.Joins.{is_next, step_on, step_off}
use Rattle.cmap_writer.proofs.runs.runs_after.Goals as goal
use Rattle.cmap_writer.proofs.runs.runs_after.Goals.{then-continues, else-continues+in_ok-push}

pub loop-code-preserved : goal.loop-code-preserved
loop-code-preserved c =
    let codes = c.args.codes.now in
    let i = c.loop-code.code-index in
    let run = c.loop-code.run in
    let runs = c.loop-code.runs.items in
    let code = get_or codes i (0, 0) in
    let rest = longest_runs (drop (i + 1) codes) in
    let within : code.0 ≤ 1114111 = c.requires.codes i (0, 0) c.loop-code-test.true in
    let before = c.loop-code.invariant in
    elim c.if-continues.branch [
      | then-continues w ↦
          let here : continues run (run_of code) ≡ true = sym c.continues.ensures
          ∙ w.if-continues.true in
          let next = is_next run (run_of code) here in
          record {
            bounded = subst (λ r. r.first + r.more ≤ 1114111) (sym w.run-is) (omega arith);
            told =
                (λ j. (w.runs-is j).items ++ joined (w.run-is j) rest)
                ∙ ap (λ more. runs ++ more) (sym (step_on codes i (0, 0) run c.loop-code-test.true
                here))
                ∙ before.told;
          }
      | else-continues+in_ok-push w ↦
          let here : continues run (run_of code) ≡ false = sym c.continues.ensures
          ∙ w.if-continues.false in
          record {
            bounded = subst (λ r. r.first + r.more ≤ 1114111)
                (sym (w.run-is ∙ w.run_of-run.ensures)) (omega arith);
            told =
                (λ j. (w.runs-is j).items ++ joined (w.run-is j) rest)
                ∙ ap (λ done. done ++ joined w.run_of-run.result rest) w.in_ok-push.ensures.items
                ∙ append_assoc runs (run ∷ []) (joined w.run_of-run.result rest)
                ∙ ap (λ r. runs ++ (run ∷ joined r rest)) w.run_of-run.ensures
                ∙ ap (λ more. runs ++ more) (sym (step_off codes i (0, 0) run c.loop-code-test.true
                here))
                ∙ before.told;
          }
    ]
