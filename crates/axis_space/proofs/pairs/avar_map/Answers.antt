use Rattle.std.proofs.Common.{◌≡◌, ◌∙◌, sym, ap, Some, None, Ok}
use Rattle.font_ir.specs.AxisMaps.{pairs_of}
use Rattle.axis_space.specs.AxisPairs.{avar_pairs, in_order, first_fall, judged_by}
use Rattle.axis_space.proofs.FallLemmas.{accepted, refused}
use Rattle.axis_space.proofs.pairs.avar_map.Goals as goal

pub returns-in-Some-clause-set : goal.returns-in-Some-clause-set
returns-in-Some-clause-set c =
    let set = pairs_of c.args.masters.now c.args.origin c.args.axis in
    let fall : first_fall (in_order set) ≡ Some c.in-Some.x =
    sym (c.first_fall.ensures ∙ ap first_fall c.as_slice.ensures.value
    ∙ ap first_fall c.in_ok-pairs.ensures) ∙ c.in-Some.is in
    refused set c.in-Some.x fall

pub returns-in-Some-clause-computed : goal.returns-in-Some-clause-computed
unfolding avar_pairs
returns-in-Some-clause-computed c =
    let set = pairs_of c.args.masters.now c.args.origin c.args.axis in
    let fall : first_fall (in_order set) ≡ Some c.in-Some.x =
    sym (c.first_fall.ensures ∙ ap first_fall c.as_slice.ensures.value
    ∙ ap first_fall c.in_ok-pairs.ensures) ∙ c.in-Some.is in
    ap (λ o. judged_by o (in_order set)) fall

pub returns-in-None-clause-set : goal.returns-in-None-clause-set
returns-in-None-clause-set c =
    let set = pairs_of c.args.masters.now c.args.origin c.args.axis in
    let none : first_fall (in_order set) ≡ None =
    sym (c.first_fall.ensures ∙ ap first_fall c.as_slice.ensures.value
    ∙ ap first_fall c.in_ok-pairs.ensures) ∙ c.in-None.is in
    accepted set c.in_ok-pairs.pairs.items c.in_ok-pairs.ensures none

pub returns-in-None-clause-computed : goal.returns-in-None-clause-computed
unfolding avar_pairs
returns-in-None-clause-computed c =
    let set = pairs_of c.args.masters.now c.args.origin c.args.axis in
    let none : first_fall (in_order set) ≡ None =
    sym (c.first_fall.ensures ∙ ap first_fall c.as_slice.ensures.value
    ∙ ap first_fall c.in_ok-pairs.ensures) ∙ c.in-None.is in
    ap (λ o. judged_by o (in_order set)) none ∙ ap Ok (sym c.in_ok-pairs.ensures)
