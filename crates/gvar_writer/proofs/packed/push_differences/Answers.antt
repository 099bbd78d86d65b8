use Rattle.std.proofs.Common.{◌≡◌, ◌<◌, ◌++◌, ◌∙◌, ap, sym, arith, length, get_or}
use Rattle.std.proofs.lemmas.List.{append-nil, nil_from_length}
use Rattle.std.proofs.lemmas.Result.{on_ok_weaker}
use Rattle.std.proofs.lemmas.Bool.Decides.{nat_tests}
use Rattle.gvar_writer.specs.PackedPoints.{point_flags, point_bytes, packed_differences}
use Rattle.gvar_writer.proofs.RunSteps.{told_on, told_off, told_first, told_last, room_for}
use Rattle.gvar_writer.proofs.packed.push_differences.Goals as goal
use Rattle.gvar_writer.proofs.packed.push_differences.Goals.{}
use Rattle.gvar_writer.proofs.packed.push_differences.Goals.{}
use Rattle.gvar_writer.proofs.packed.push_differences.Goals.{}
use Rattle.gvar_writer.proofs.packed.push_differences.Goals.{}
use Rattle.gvar_writer.proofs.packed.push_differences.Goals.{then-not-difference_goes_on+in_ok-push_point_run}
use Rattle.gvar_writer.proofs.packed.push_differences.Goals.{else-not-difference_goes_on}

pub returns-then-is_empty : goal.returns-then-is_empty
unfolding packed_differences
returns-then-is_empty c =
    let none : length c.args.differences.now ≡ 0 = grind (arith, nat_tests) in
    sym (append-nil c.args.bytes.now.items)
    ∙ ap (λ differences. c.args.bytes.now.items ++ packed_differences differences)
    (sym (nil_from_length c.args.differences.now none))

pub loop-at-init : goal.loop-at-init
loop-at-init c =
    let some : 0 < length c.args.differences.now = grind (arith, nat_tests) in
    record {
      begun = omega arith;
      within = omega arith;
      few = omega arith;
      told = told_first point_flags 128 point_bytes c.args.differences.now c.args.bytes.now.items
          some;
    }

pub loop-at-preserved : goal.loop-at-preserved
loop-at-preserved c =
    let differences = c.args.differences.now in
    let at = c.loop-at.at in
    let start = c.loop-at.start in
    let before = c.loop-at.invariant in
    let told = sym c.difference_goes_on.ensures in
    elim c.if-not-difference_goes_on.branch [
      | then-not-difference_goes_on+in_ok-push_point_run w ↦
          let off = told ∙ w.if-not-difference_goes_on.true in
          record {
            begun = omega arith;
            within = omega arith;
            few = omega arith;
            told = rw (w.start-is, w.bytes-is) (told_off point_flags 128 point_bytes differences
                start at 0 _ _ _ (omega arith) (omega arith) off w.in_ok-push_point_run.ensures
                before.told);
          }
      | else-not-difference_goes_on w ↦
          let on = told ∙ w.if-not-difference_goes_on.false in
          record {
            begun = omega arith;
            within = omega arith;
            few = omega (
              arith,
              room_for point_flags 128 differences start at
                  (get_or differences at 0) before.begun before.within on,
            );
            told = rw (w.start-is, w.bytes-is) (told_on point_flags 128 point_bytes differences
                start at 0 _ _ (omega arith) (omega arith) on before.told);
          }
    ]

pub returns : goal.returns
unfolding packed_differences
returns c =
    on_ok_weaker c.push_point_run-2.result
    (λ e. told_last point_flags 128 point_bytes c.args.differences.now c.loop-at.start c.loop-at.at
    c.loop-at.bytes.items _ _ (omega arith) e c.loop-at.invariant.within c.loop-at.invariant.told)
    c.push_point_run-2.ensures
