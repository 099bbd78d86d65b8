use Rattle.std.proofs.Common.{◌≡◌, Bool, List, ℤ, map, sym, subst, ◌∙◌, arith, Vec, Global}
use Rattle.delta_infer.specs.Omitted.{omitted}
use Rattle.delta_infer.specs.Laws.{AreMarks}
use Rattle.delta_infer.proofs.MarkLaws.{omitted_laws}
use Rattle.delta_infer.proofs.Steps.{contours_all, sizes_of}
use Rattle.delta_infer.proofs.left_out.omit.Goals as goal

pub returns-clause-laws : goal.returns-clause-laws
returns-clause-laws c =
    let items : Vec (ℤ × ℤ) Global → List (ℤ × ℤ) = λ contour. contour.items in
    let contours : List (List (ℤ × ℤ)) = map items c.args.contours.now in
    let deltas : List (ℤ × ℤ) = c.args.deltas.now in
    let P : List Bool → Type 0 = AreMarks contours deltas in
    let whole = contours_all items c.args.contours.now c.loop-contour.contour-index _
    c.loop-contour.marks.items (omitted contours deltas) (omega arith)
    c.loop-contour.invariant.told in
    subst P (sym whole) (omitted_laws contours deltas
    (c.requires ∙ sizes_of items c.args.contours.now))
