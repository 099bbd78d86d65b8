use Rattle.std.proofs.Common.{◌≡◌, ◌≤◌, List, ℤ, Vec, Global, length, map}
use Rattle.std.proofs.Common.{arith, ap, ◌∙◌}
use Rattle.std.specs.List.{zip}
use Rattle.std.proofs.lemmas.Grind.{common_steps}
use Rattle.gvar_writer.specs.TupleData.{count_of, named_points}
use Rattle.gvar_writer.proofs.NamedSteps.{length_zip, length_named}
use Rattle.gvar_writer.proofs.named.named_points.Goals as goal

pub split_at-requires : goal.split_at-requires
split_at-requires c =
    let count : length c.as_slice.result.now ≡ length c.args.xs.now = ap length
    (c.as_slice.ensures.value ∙ c.in_ok-deltas.ensures)
    ∙ length_zip c.args.xs.now c.args.ys.now c.requires.pairs in
    omega arith

pub returns-clause-as_many : goal.returns-clause-as_many
returns-clause-as_many c =
    let items : Vec (ℤ × ℤ) Global → List (ℤ × ℤ) = λ contour. contour.items in
    let contours : List (List (ℤ × ℤ)) = map items c.args.outline.now.contours.items in
    let deltas : List (ℤ × ℤ) = zip c.args.xs.now c.args.ys.now in
    let value : c.push_others.new.named.items ≡ named_points contours deltas =
    grind (arith, common_steps) in
    let count : length deltas ≡ length c.args.xs.now = length_zip c.args.xs.now c.args.ys.now
    c.requires.pairs in
    let few : count_of contours ≤ length deltas = omega
    (arith, count, c.args.outline.now.counted, c.requires.points) in
    ap length value ∙ length_named contours deltas few ∙ count
