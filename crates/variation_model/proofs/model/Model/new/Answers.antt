use Rattle.std.proofs.Common.{List, sym, subst}
use Rattle.fixed_math.specs.declared.F2Dot14.{F2Dot14}
use Rattle.variation_model.specs.Laws.{LaterSupportsCountNothing}
use Rattle.variation_model.proofs.OwnSupports.{own_supports}
use Rattle.variation_model.proofs.LaterSupports.{later_supports}
use Rattle.variation_model.proofs.ModelLemmas.{order_within, parts_one_each, parts_sides}
use Rattle.variation_model.proofs.ModelLemmas.{rows_of-parts, supports_of-parts}
use Rattle.variation_model.proofs.model.Model.new.Goals as goal

pub supports_in_order-requires-clause-positions : goal.supports_in_order-requires-clause-positions
supports_in_order-requires-clause-positions c =
    rw c.as_slice.ensures.value (order_within c.args.places.now c.in_ok-order.order.items
    c.in_ok-order.ensures)

pub scalars_in_order-requires-clause-one_each : goal.scalars_in_order-requires-clause-one_each
scalars_in_order-requires-clause-one_each c =
    let regions = supports_of-parts c.args.places.now c.in_ok-order.order.items
    c.as_slice.result.now c.in_ok-supports.supports.items c.in_ok-order.ensures
    c.as_slice.ensures.value c.in_ok-supports.ensures in
    parts_one_each c.args.places.now c.in_ok-order.order.items c.as_slice-3.result.now
    c.in_ok-supports.supports.items c.as_slice-2.result.now c.in_ok-order.ensures
    c.as_slice-3.ensures.value regions c.as_slice-2.ensures.value

pub scalars_in_order-requires-clause-positions : goal.scalars_in_order-requires-clause-positions
scalars_in_order-requires-clause-positions c =
    rw c.as_slice-3.ensures.value (order_within c.args.places.now c.in_ok-order.order.items
    c.in_ok-order.ensures)

pub scalars_in_order-requires-clause-axes : goal.scalars_in_order-requires-clause-axes
scalars_in_order-requires-clause-axes c =
    let regions = supports_of-parts c.args.places.now c.in_ok-order.order.items
    c.as_slice.result.now c.in_ok-supports.supports.items c.in_ok-order.ensures
    c.as_slice.ensures.value c.in_ok-supports.ensures in
    parts_sides c.args.places.now c.in_ok-supports.supports.items c.as_slice-2.result.now
    c.requires.one_length regions c.as_slice-2.ensures.value

pub invariant_of-result : goal.invariant_of-result
invariant_of-result c =
    let regions = supports_of-parts c.args.places.now c.in_ok-order.order.items
    c.as_slice.result.now c.in_ok-supports.supports.items c.in_ok-order.ensures
    c.as_slice.ensures.value c.in_ok-supports.ensures in
    rw c.in_ok-places.ensures (record {
      are_places = record {
        few = c.requires.few;
        one_length = c.requires.one_length;
        different
            = c.requires.different;
        has_zero = c.requires.has_zero;
      };
      in_order = c.in_ok-order.ensures;
      are_supports = regions;
      are_rows = rows_of-parts c.args.places.now c.in_ok-order.order.items c.as_slice-3.result.now
          c.in_ok-supports.supports.items c.as_slice-2.result.now c.in_ok-scalars.scalars.items
          c.in_ok-order.ensures c.as_slice-3.ensures.value regions c.as_slice-2.ensures.value
          c.in_ok-scalars.ensures;
    })

pub returns-clause-own : goal.returns-clause-own
returns-clause-own c = own_supports c.in_ok-places.places.items

pub returns-clause-later : goal.returns-clause-later
returns-clause-later c =
    let P : List (List F2Dot14) → Type 0 = λ places. LaterSupportsCountNothing places in
    subst P (sym c.in_ok-places.ensures) (later_supports c.args.places.now c.requires.one_length
    c.requires.different)
