use Rattle.std.proofs.Common.{◌≡◌, List, ap, length, subst, sym, ◌∙◌}
use Rattle.std.specs.Prelude.{EachIndex}
use Rattle.fixed_math.specs.declared.F2Dot14.{F2Dot14}
use Rattle.font_ir.specs.declared.variation.Region.{Region}
use Rattle.variation_model.specs.Places.{axis_count}
use Rattle.variation_model.specs.Deltas.{region_at}
use Rattle.variation_model.specs.Laws.{LaterSupportsCountNothing, EarlierPlacesCut, NoOtherSupports}
use Rattle.variation_model.proofs.OwnSupports.{own_supports}
use Rattle.variation_model.proofs.ModelLaws.{places_later}
use Rattle.variation_model.proofs.CutSupports.{earlier_places_cut}
use Rattle.variation_model.proofs.CutOnly.{no_other_supports}
use Rattle.variation_model.proofs.ModelLemmas.{model_as_many, model_sides}
use Rattle.variation_model.proofs.model.Model.supports.Goals as goal

pub returns-clause-own : goal.returns-clause-own
returns-clause-own c = own_supports c.args.self.now

pub returns-clause-as_many : goal.returns-clause-as_many
returns-clause-as_many c =
    let P : List (List F2Dot14) → Type 0 = λ places. length c.as_slice.result.now ≡ length places in
    subst P c.self.view_is
    (ap length c.as_slice.ensures.value ∙ model_as_many c.self.inside.places.items
    c.self.inside.order.items c.self.inside.supports.items c.self.inside.scalars.items
    c.self.invariant)

pub returns-clause-sides : goal.returns-clause-sides
returns-clause-sides c =
    let places = c.self.inside.places.items in
    let Q : List Region → Type 0 = λ rs. EachIndex rs
    (λ i. length ((region_at rs i).sides) ≡ axis_count places) in
    let P : List (List F2Dot14) → Type 0 = λ ps. EachIndex c.as_slice.result.now
    (λ i. length ((region_at c.as_slice.result.now i).sides) ≡ axis_count ps) in
    subst P c.self.view_is
    (subst Q (sym c.as_slice.ensures.value)
    (model_sides places c.self.inside.order.items c.self.inside.supports.items
    c.self.inside.scalars.items c.self.invariant))

pub returns-clause-later : goal.returns-clause-later
returns-clause-later c =
    let P : List (List F2Dot14) → Type 0 = λ places. LaterSupportsCountNothing places in
    subst P c.self.view_is (places_later c.self.inside.places.items c.self.invariant.are_places)

pub returns-clause-earlier : goal.returns-clause-earlier
returns-clause-earlier c =
    let P : List (List F2Dot14) → Type 0 = λ places. EarlierPlacesCut places in
    let are = c.self.invariant.are_places in
    subst P c.self.view_is (earlier_places_cut c.self.inside.places.items are.one_length
    are.has_zero)

pub returns-clause-no_other : goal.returns-clause-no_other
returns-clause-no_other c =
    let P : List (List F2Dot14) → Type 0 = λ places. NoOtherSupports places in
    let are = c.self.invariant.are_places in
    subst P c.self.view_is (no_other_supports c.self.inside.places.items are.one_length
    are.has_zero)
