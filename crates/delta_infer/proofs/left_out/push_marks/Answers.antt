use Rattle.std.proofs.Common.{◌≡◌, Bool, true, List, length, ◌++◌, replicate, OnOk, sym, ap, subst}
use Rattle.std.proofs.Common.{◌∙◌}
use Rattle.std.specs.List.{list_all}
use Rattle.delta_infer.specs.declared.moved.MovedPoint.{MovedPoint}
use Rattle.delta_infer.specs.Moved.{moved_points}
use Rattle.delta_infer.specs.Omitted.{contour_marks}
use Rattle.delta_infer.specs.Parts.{is_still}
use Rattle.delta_infer.proofs.Stills.{marks_still}
use Rattle.delta_infer.proofs.left_out.push_marks.Goals as goal

pub returns-then-are_still : goal.returns-then-are_still
returns-then-are_still c =
    let points : List MovedPoint = moved_points c.args.contour.now c.args.deltas.now in
    let seen : c.as_slice.result.now ≡ points = c.as_slice.ensures.value ∙ c.in_ok-points.ensures in
    let filled : c.as_slice-then-are_still.result.now
    ≡ points = c.as_slice-then-are_still.ensures.value ∙ c.in_ok-points.ensures in
    let still : list_all is_still points ≡ true = ap (list_all is_still) (sym seen)
    ∙ sym c.are_still.ensures ∙ c.if-are_still.true in
    let P : List Bool → Type 0 = λ marks. OnOk c.push_all_left_out.result
    (c.push_all_left_out.new.marks.items ≡ c.args.marks.now.items ++ marks) in
    subst P (ap (λ ps. replicate (length ps) true) filled ∙ sym (marks_still points still))
    c.push_all_left_out.ensures
