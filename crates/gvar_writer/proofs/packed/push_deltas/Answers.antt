use Rattle.std.proofs.Common.{◌≡◌, ◌<◌, ◌++◌, ◌∙◌, ap, pos, sym, arith, length, rules, get_or}
use Rattle.std.proofs.Common.{FitsSigned, to_z-of_z}
use Rattle.std.specs.Int.{w16}
use Rattle.std.proofs.lemmas.List.{append-nil, nil_from_length}
use Rattle.std.proofs.lemmas.Result.{on_ok_weaker}
use Rattle.std.proofs.lemmas.Bool.Decides.{nat_tests}
use Rattle.gvar_writer.specs.Runs.{goes_on}
use Rattle.gvar_writer.specs.PackedDeltas.{delta_flags, delta_bytes, packed_deltas}
use Rattle.gvar_writer.proofs.RunSteps.{run_from, told_on, told_off, told_first, told_last}
use Rattle.gvar_writer.proofs.RunSteps.{room_for}
use Rattle.gvar_writer.proofs.packed.push_deltas.Goals as goal
use Rattle.gvar_writer.proofs.packed.push_deltas.Goals.{then-not-delta_goes_on+in_ok-push_delta_run}
use Rattle.gvar_writer.proofs.packed.push_deltas.Goals.{else-not-delta_goes_on}

pub returns-then-is_empty : goal.returns-then-is_empty
unfolding packed_deltas
returns-then-is_empty c =
    let none : length c.args.deltas.now ≡ 0 = grind (arith, nat_tests) in
    sym (append-nil c.args.bytes.now.items)
    ∙ ap (λ deltas. c.args.bytes.now.items ++ packed_deltas deltas)
    (sym (nil_from_length c.args.deltas.now none))

pub loop-at-init : goal.loop-at-init
loop-at-init c =
    let some : 0 < length c.args.deltas.now = grind (arith, nat_tests) in
    record {
      begun = omega arith;
      within = omega arith;
      few = omega arith;
      told = told_first delta_flags 64 delta_bytes c.args.deltas.now c.args.bytes.now.items some;
    }

pub loop-at-preserved : goal.loop-at-preserved
loop-at-preserved c =
    let deltas = c.args.deltas.now in
    let at = c.loop-at.at in
    let start = c.loop-at.start in
    let before = c.loop-at.invariant in
    let next = get_or deltas at (pos 0) in
    let fits : FitsSigned w16 next = search rules in
    let told = ap (goes_on delta_flags 64 (run_from deltas start at)) (sym (to_z-of_z fits))
    ∙ sym c.delta_goes_on.ensures in
    elim c.if-not-delta_goes_on.branch [
      | then-not-delta_goes_on+in_ok-push_delta_run w ↦
          let off = told ∙ w.if-not-delta_goes_on.true in
          record {
            begun = omega arith;
            within = omega arith;
            few = omega arith;
            told = rw (w.start-is, w.bytes-is) (told_off delta_flags 64 delta_bytes deltas start at
                (pos 0) _ _ _ (omega arith) (omega arith) off w.in_ok-push_delta_run.ensures
                before.told);
          }
      | else-not-delta_goes_on w ↦
          let on = told ∙ w.if-not-delta_goes_on.false in
          record {
            begun = omega arith;
            within = omega arith;
            few = omega (
              arith,
              room_for delta_flags 64 deltas start at next before.begun
                  before.within on,
            );
            told = rw (w.start-is, w.bytes-is) (told_on delta_flags 64 delta_bytes deltas start at
                (pos 0) _ _ (omega arith) (omega arith) on before.told);
          }
    ]

pub returns : goal.returns
unfolding packed_deltas
returns c =
    on_ok_weaker c.push_delta_run-2.result
    (λ e. told_last delta_flags 64 delta_bytes c.args.deltas.now c.loop-at.start c.loop-at.at
    c.loop-at.bytes.items _ _ (omega arith) e c.loop-at.invariant.within c.loop-at.invariant.told)
    c.push_delta_run-2.ensures
