-- The pairs of an axis: what is made of them where they rise, and how many they are.
use Rattle.std.proofs.Common.{◌≡◌, ℕ, suc, ◌+◌, ◌≤◌, List, [], ◌∷◌, length, Option, Some, None, Ok}
use Rattle.std.proofs.Common.{ap, arith}
use Rattle.std.proofs.lemmas.List.{length-map}
use Rattle.std.specs.declared.cmp.Ordering.{Ordering}
use Rattle.std.specs.declared.cmp.Ordering.TheVariants.{Less, Equal, Greater}
use Rattle.fixed_math.specs.declared.F2Dot14.{F2Dot14}
use Rattle.font_ir.specs.declared.header.Master.{Master}
use Rattle.font_ir.specs.AxisMaps.{Pair, pairs_of}
use Rattle.axis_space.specs.AxisPairs.{avar_pairs, first_fall, in_order, judged_by, pair_cmp}
use Rattle.axis_space.specs.AxisPairs.{placed_by, with_pair}

made_of : (fall : Option F2Dot14) (all pairs : List Pair) → judged_by fall all ≡ Ok pairs
    → pairs ≡ all
made_of None all pairs e = cc
made_of (Some x) all pairs e = cc

placed_length : (order : Ordering) (p q : Pair) (qs further : List Pair)
    → length further ≤ suc (length qs) → length (placed_by order p q qs further) ≤ suc
    (suc (length qs))
placed_length Less p q qs further h = omega arith
placed_length Equal p q qs further h = omega arith
placed_length Greater p q qs further h = omega arith

with_pair_length : (p : Pair) (qs : List Pair) → length (with_pair p qs) ≤ suc (length qs)
with_pair_length p [] = omega arith
with_pair_length p (q ∷ qs) = placed_length (pair_cmp p q) p q qs (with_pair p qs)
    (with_pair_length p qs)

in_order_length : (ps : List Pair) → length (in_order ps) ≤ length ps
in_order_length [] = omega arith
in_order_length (p ∷ ps) = omega (arith, with_pair_length p (in_order ps), in_order_length ps)

pairs_length : (masters : List Master) (origin axis : ℕ)
    → length (pairs_of masters origin axis) ≡ length masters + 3
unfolding pairs_of
pairs_length masters origin axis = simp length-map (omega arith)

pub few_pairs : (masters : List Master) (origin axis : ℕ) (pairs : List Pair)
    → avar_pairs masters origin axis ≡ Ok pairs → length pairs ≤ length masters + 3
unfolding avar_pairs
few_pairs masters origin axis pairs e =
    let set = pairs_of masters origin axis in
    let is = made_of (first_fall (in_order set)) (in_order set) pairs e in
    omega (arith, ap length is, in_order_length set, pairs_length masters origin axis)
