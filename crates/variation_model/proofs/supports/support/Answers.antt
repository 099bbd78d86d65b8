use Rattle.std.proofs.Common.{◌≡◌, ◌≤◌, ◌++◌, List, length, get_or, drop, arith, ap, sym, ◌∙◌, map}
use Rattle.std.proofs.Common.{take}
use Rattle.std.proofs.lemmas.List.{take_at, take_all, length-map}
use Rattle.std.specs.List.{fold}
use Rattle.fixed_math.specs.declared.F2Dot14.{F2Dot14}
use Rattle.font_ir.specs.declared.variation.Region.{Region}
use Rattle.variation_model.specs.Places.{place_at}
use Rattle.variation_model.specs.Supports as spec
use Rattle.variation_model.proofs.SupportLengths.{narrow_fits, fold_next}
use Rattle.variation_model.proofs.supports.support.Goals as goal

pub narrow-requires : goal.narrow-requires
narrow-requires c =
    let item = c.index-places-i.result in
    ap length c.deref_mut.ensures.value ∙ narrow_fits c.args.places.now c.args.place.now
    c.loop-i.sides.items (take c.loop-i.i-index
    (map (place_at c.args.places.now) c.args.earlier.now))
    (get_or c.args.earlier.now c.loop-i.i-index 0) item c.loop-i.invariant
    c.requires.same_length c.requires.one_length
    (c.requires.positions c.loop-i.i-index 0 c.loop-i-test.true) c.index-places-i.is
    ∙ sym (ap length c.as_slice.ensures)

pub loop-i-preserved : goal.loop-i-preserved
loop-i-preserved c =
    let item = c.index-places-i.result in
    let widest = spec.widest_from c.args.places.now 0 c.args.place.now in
    let done = take c.loop-i.i-index (map (place_at c.args.places.now) c.args.earlier.now) in
    let kept : take c.loop-i.sides.len (c.narrow.new.sides
    ++ drop (length c.narrow.new.sides) c.loop-i.sides.items) ≡ c.narrow.new.sides =
    take_at c.narrow.new.sides (drop (length c.narrow.new.sides) c.loop-i.sides.items)
    c.loop-i.sides.len (omega arith) in
    kept ∙ c.narrow.ensures ∙ ap (λ (s : List (F2Dot14 × F2Dot14 × F2Dot14)). spec.narrowed s
    c.as_slice.result.now) (c.deref_mut.ensures.value ∙ c.loop-i.invariant)
    ∙ ap (λ (v : List F2Dot14). spec.narrowed (fold spec.narrowed widest done) v)
    c.as_slice.ensures ∙ sym (fold_next c.args.places.now widest c.args.earlier.now
    c.loop-i.i-index item c.loop-i-test.true
    (c.requires.positions c.loop-i.i-index 0 c.loop-i-test.true) c.index-places-i.is)

pub returns : goal.returns
returns c =
    let widest = spec.widest_from c.args.places.now 0 c.args.place.now in
    let mapped = map (place_at c.args.places.now) c.args.earlier.now in
    let past : length mapped ≤ c.loop-i.i-index
    = omega (arith, length-map c.args.earlier.now (place_at c.args.places.now)) in
    let region : List (F2Dot14 × F2Dot14 × F2Dot14) → Region = λ s. record { sides = s } in
    ap region (c.from_vec.ensures ∙ c.loop-i.invariant
    ∙ ap (λ (l : List (List F2Dot14)). fold spec.narrowed widest l)
    (take_all c.loop-i.i-index mapped past))
