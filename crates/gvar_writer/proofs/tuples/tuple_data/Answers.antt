use Rattle.std.proofs.Common.{◌≤◌, ◌∙◌, List, ℕ, ℤ, Vec, Global, map, ap, sym, subst, length}
use Rattle.gvar_writer.specs.TupleData.{tuple_data, shorter, all_form, named_form}
use Rattle.gvar_writer.proofs.Sizes.{short_data}
use Rattle.gvar_writer.proofs.tuples.tuple_data.Goals as goal

pub returns-clause-data : goal.returns-clause-data
unfolding tuple_data
returns-clause-data c =
    let xs = c.args.xs.now in
    let ys = c.args.ys.now in
    let named = c.as_slice.ensures.value ∙ c.in_ok-named.ensures.value in
    c.shorter.ensures ∙ (λ i. shorter (c.in_ok-all.ensures i) (c.in_ok-some.ensures i))
    ∙ ap (λ named. shorter (all_form xs ys) (named_form named xs ys)) named

pub returns-clause-short : goal.returns-clause-short
returns-clause-short c =
    let items : Vec (ℤ × ℤ) Global → List (ℤ × ℤ) = λ contour. contour.items in
    let contours : List (List (ℤ × ℤ)) = map items c.args.outline.now.contours.items in
    subst (λ (bytes : List ℕ). length bytes ≤ 65535) (sym (returns-clause-data c))
    (short_data contours c.args.xs.now c.args.ys.now c.requires.pairs c.requires.few)
