use Rattle.std.proofs.Common.{List, ℕ, sym, subst, ◌∙◌}
use Rattle.fixed_math.specs.declared.F2Dot14.{F2Dot14}
use Rattle.variation_model.specs.Laws.{IsInOrder, IsZeroFirst}
use Rattle.variation_model.proofs.OrderLaws.{comes_before_IsOrder}
use Rattle.variation_model.proofs.ZeroLemmas.{zero_first}
use Rattle.variation_model.proofs.ModelLaws.{places_sorted}
use Rattle.variation_model.proofs.model.Model.order.Goals as goal

pub returns-clause-sorted : goal.returns-clause-sorted
returns-clause-sorted c =
    let Q : List ℕ → Type 0 = λ order. IsInOrder c.self.inside.places.items order in
    let R : List (List F2Dot14) → Type 0 = λ places. IsInOrder places c.as_slice.result.now in
    subst R c.self.view_is
    (subst Q (sym (c.as_slice.ensures.value ∙ c.self.invariant.in_order))
    (places_sorted c.self.inside.places.items c.self.invariant.are_places))

pub returns-clause-compares : goal.returns-clause-compares
returns-clause-compares c = comes_before_IsOrder c.args.self.now

pub returns-clause-zero_first : goal.returns-clause-zero_first
returns-clause-zero_first c =
    let places = c.self.inside.places.items in
    let are = c.self.invariant.are_places in
    let P : List (List F2Dot14) → Type 0 = λ ps. IsZeroFirst ps in
    subst P c.self.view_is (zero_first places are (places_sorted places are))
