-- What the parts of a model are: how many, and of which lengths.
use Rattle.std.proofs.Common.{◌≡◌, ℕ, ◌<◌, ◌^◌, List, [], sym, ap, subst, ◌∙◌, arith, length}
use Rattle.std.proofs.Common.{get_or, map, ◌+◌, take, refl}
use Rattle.std.proofs.lemmas.List.{length-take-le, get_or-map, length-map}
use Rattle.std.proofs.lemmas.List.FromFn.{length-map-range_with_len, get_or-map-range_with_len}
use Rattle.std.specs.Prelude.{EachIndex, All}
use Rattle.fixed_math.specs.declared.F2Dot14.{F2Dot14}
use Rattle.fixed_math.specs.declared.Fixed.{Fixed}
use Rattle.font_ir.specs.declared.variation.Region.{Region}
use Rattle.variation_model.specs.Places.{place_at, axis_count, ordered, order_of, of_rank, ranks}
use Rattle.variation_model.specs.Places.{rank_among, keys_of, key}
use Rattle.variation_model.specs.Supports.{supports_of, supports_after}
use Rattle.variation_model.specs.Deltas.{region_at, deltas_after, deltas_of, value_at_place}
use Rattle.variation_model.specs.Parts.{IsModel, AreSmall, deltas_by, row_at, rows_from, scalar_at}
use Rattle.variation_model.proofs.RowLemmas.{deltas_by-rows, length-rows_from, row_at-rows_from}
use Rattle.variation_model.proofs.RowLemmas.{scalars_at-small}
use Rattle.variation_model.proofs.OrderLemmas.{position_within}
use Rattle.variation_model.proofs.SupportSteps.{length-supports_after, sides-supports_after}

pub length-order_of : (places : List (List F2Dot14)) → length (order_of places) ≡ length places
unfolding order_of
length-order_of places = length-map-range_with_len (of_rank (ranks places)) 0 (length places)

pub length-ranks : (places : List (List F2Dot14)) → length (ranks places) ≡ length places
length-ranks places = length-map (keys_of places) (rank_among (keys_of places))
    ∙ length-map places (key places)

pub order_of-at : (places : List (List F2Dot14)) (k d : ℕ) → k < length places
    → get_or (order_of places) k d ≡ of_rank (ranks places) k
unfolding order_of
order_of-at places k d h = get_or-map-range_with_len (of_rank (ranks places)) 0 (length places) k k
    d h (omega arith)

-- the order's numbers are positions of places
pub order_of-within : (places : List (List F2Dot14))
    → All (λ i. i < length places) (order_of places)
order_of-within places k d h =
    let below : k < length places = omega (arith, length-order_of places) in
    let ranked : k < length (ranks places) = omega (arith, length-ranks places) in
    let found : of_rank (ranks places) k < length (ranks places)
    = position_within (ranks places) k ranked in
    rw (order_of-at places k d below) (omega (arith, length-ranks places))

pub order_within : (places : List (List F2Dot14)) (order : List ℕ) → order ≡ order_of places
    → All (λ i. i < length places) order
order_within places order e =
    let P : List ℕ → Type 0 = λ l. All (λ i. i < length places) l in
    subst P (sym e) (order_of-within places)

pub length-ordered : (places : List (List F2Dot14)) → length (ordered places) ≡ length places
length-ordered places = length-map (order_of places) (place_at places) ∙ length-order_of places

-- the places in their order are as long as all places
pub ordered_length : (places : List (List F2Dot14))
    → EachIndex places (λ i. length (place_at places i) ≡ axis_count places)
    → EachIndex (ordered places) (λ k. length (place_at (ordered places) k) ≡ axis_count places)
ordered_length places one_length k h =
    let within : k < length (order_of places)
    = omega (arith, length-map (order_of places) (place_at places)) in
    ap length (get_or-map (place_at places) (order_of places) k 0 [] within)
    ∙ one_length (get_or (order_of places) k 0) (order_of-within places k 0 within)

pub length-supports_of : (places : List (List F2Dot14))
    → length (supports_of places) ≡ length places
unfolding supports_of
length-supports_of places = length-supports_after places [] (ordered places)
    ∙ length-map (order_of places) (place_at places) ∙ length-order_of places

pub sides-supports_of : (places : List (List F2Dot14))
    → EachIndex places (λ i. length (place_at places i) ≡ axis_count places)
    → EachIndex (supports_of places) (λ i. length ((region_at (supports_of places) i).sides)
    ≡ axis_count places)
unfolding supports_of
sides-supports_of places one_length i h =
    sides-supports_after places [] (ordered places) (axis_count places) i
    (ordered_length places one_length) (omega
    (arith, length-supports_after places [] (ordered places)))

-- the parts of a model are its definitions
pub supports_of-parts : (places : List (List F2Dot14)) (order order' : List ℕ)
    (regions : List Region) → order ≡ order_of places → order' ≡ order
    → regions ≡ supports_after places [] (map (place_at places) order')
    → regions ≡ supports_of places
unfolding supports_of
supports_of-parts places order order' regions e s f = f
    ∙ ap (λ (o : List ℕ). supports_after places [] (map (place_at places) o)) (s ∙ e)

pub deltas_of-parts : (places : List (List F2Dot14)) (values : List Fixed) (order : List ℕ)
    → order ≡ order_of places → deltas_after (supports_of places) [] (ordered places)
    (map (value_at_place values) order) ≡ deltas_of places values
unfolding deltas_of
deltas_of-parts places values order e =
    ap (λ (o : List ℕ). deltas_after (supports_of places) [] (ordered places)
    (map (value_at_place values) o)) e

-- what callers of a model's parts ask
pub model_few : (places : List (List F2Dot14)) (order : List ℕ) (regions : List Region)
    (rows : List (List Fixed)) → IsModel places order regions rows → length regions < 2 ^ 32
model_few places order regions rows m =
    let few = m.are_places.few in
    omega (arith, ap length m.are_supports, length-supports_of places)

pub model_as_many : (places : List (List F2Dot14)) (order : List ℕ) (regions : List Region)
    (rows : List (List Fixed)) → IsModel places order regions rows → length regions ≡ length places
model_as_many places order regions rows m = ap length m.are_supports ∙ length-supports_of places

pub model_sides : (places : List (List F2Dot14)) (order : List ℕ) (regions : List Region)
    (rows : List (List Fixed)) → IsModel places order regions rows
    → EachIndex regions (λ i. length ((region_at regions i).sides) ≡ axis_count places)
model_sides places order regions rows m =
    let P : List Region → Type 0 = λ rs. EachIndex rs
    (λ i. length ((region_at rs i).sides) ≡ axis_count places) in
    subst P (sym m.are_supports) (sides-supports_of places m.are_places.one_length)

pub model_axes : (places : List (List F2Dot14)) (order : List ℕ) (regions : List Region)
    (rows : List (List Fixed)) (at : List F2Dot14) → IsModel places order regions rows
    → length at ≡ axis_count places → EachIndex regions
    (λ i. length at ≡ length ((region_at regions i).sides))
model_axes places order regions rows at m e i h = e
    ∙ sym (model_sides places order regions rows m i h)

pub model_rows : (places : List (List F2Dot14)) (order : List ℕ) (regions : List Region)
    (rows : List (List Fixed)) → IsModel places order regions rows → length rows ≡ length places
model_rows places order regions rows m = ap length m.are_rows
    ∙ length-rows_from (supports_of places) 0 (ordered places) ∙ length-ordered places

pub model_few_rows : (places : List (List F2Dot14)) (order : List ℕ) (regions : List Region)
    (rows : List (List Fixed)) → IsModel places order regions rows → length rows < 2 ^ 32
model_few_rows places order regions rows m =
    let few = m.are_places.few in
    omega (arith, model_rows places order regions rows m)

pub model_row_each : (places : List (List F2Dot14)) (order : List ℕ) (regions : List Region)
    (rows : List (List Fixed)) → IsModel places order regions rows → length order ≡ length rows
model_row_each places order regions rows m =
    ap length m.in_order ∙ length-order_of places ∙ sym (model_rows places order regions rows m)

pub model_earlier : (places : List (List F2Dot14)) (order : List ℕ) (regions : List Region)
    (rows : List (List Fixed)) → IsModel places order regions rows
    → EachIndex rows (λ k. length (row_at rows k) ≡ k)
model_earlier places order regions rows m =
    let P : List (List Fixed) → Type 0 = λ rs. EachIndex rs (λ k. length (row_at rs k) ≡ k) in
    subst P (sym m.are_rows) (λ k h.
    let within : k < length (ordered places)
    = omega (arith, length-rows_from (supports_of places) 0 (ordered places)) in
    let start : 0 + k ≡ k = omega arith in
    ap length (row_at-rows_from (supports_of places) 0 (ordered places) k within)
    ∙ length-map (take (0 + k) (supports_of places)) (scalar_at (place_at (ordered places) k))
    ∙ length-take-le (0 + k) (supports_of places)
    (omega (arith, length-supports_of places, length-ordered places)) ∙ start)

pub model_small : (places : List (List F2Dot14)) (order : List ℕ) (regions : List Region)
    (rows : List (List Fixed)) → IsModel places order regions rows
    → EachIndex rows (λ k. AreSmall (row_at rows k))
model_small places order regions rows m =
    let P : List (List Fixed) → Type 0 = λ rs. EachIndex rs (λ k. AreSmall (row_at rs k)) in
    let Q : List Fixed → Type 0 = λ row. AreSmall row in
    subst P (sym m.are_rows) (λ k h.
    let within : k < length (ordered places)
    = omega (arith, length-rows_from (supports_of places) 0 (ordered places)) in
    subst Q (sym (row_at-rows_from (supports_of places) 0 (ordered places) k within))
    (scalars_at-small (take (0 + k) (supports_of places)) (place_at (ordered places) k)))

pub model_deltas : (places : List (List F2Dot14)) (values : List Fixed) (order : List ℕ)
    (regions : List Region) (rows : List (List Fixed)) → IsModel places order regions rows
    → deltas_by rows [] (map (value_at_place values) order) ≡ deltas_of places values
model_deltas places values order regions rows m =
    let numbers = map (value_at_place values) order in
    ap (λ (rs : List (List Fixed)). deltas_by rs [] numbers) m.are_rows
    ∙ deltas_by-rows (supports_of places) 0 (ordered places) [] numbers refl
    ∙ deltas_of-parts places values order m.in_order

-- what the constructor gives
pub rows_of-parts : (places : List (List F2Dot14)) (order order' : List ℕ)
    (regions regions' : List Region) (rows : List (List Fixed)) → order ≡ order_of places
    → order' ≡ order → regions ≡ supports_of places → regions' ≡ regions
    → rows ≡ rows_from regions' 0 (map (place_at places) order')
    → rows ≡ rows_from (supports_of places) 0 (ordered places)
rows_of-parts places order order' regions regions' rows e s f g h =
    h ∙ ap (λ (r : List Region). rows_from r 0 (map (place_at places) order')) (g ∙ f)
    ∙ ap (λ (o : List ℕ). rows_from (supports_of places) 0 (map (place_at places) o)) (s ∙ e)

pub parts_one_each : (places : List (List F2Dot14)) (order order' : List ℕ)
    (regions regions' : List Region) → order ≡ order_of places → order' ≡ order
    → regions ≡ supports_of places → regions' ≡ regions → length order' ≡ length regions'
parts_one_each places order order' regions regions' e s f g =
    ap length (s ∙ e) ∙ length-order_of places ∙ sym (length-supports_of places)
    ∙ sym (ap length (g ∙ f))

pub parts_sides : (places : List (List F2Dot14)) (regions regions' : List Region)
    → EachIndex places (λ i. length (place_at places i) ≡ axis_count places)
    → regions ≡ supports_of places → regions' ≡ regions
    → EachIndex regions' (λ i. length ((region_at regions' i).sides) ≡ axis_count places)
parts_sides places regions regions' one_length f g =
    let P : List Region → Type 0 = λ rs. EachIndex rs
    (λ i. length ((region_at rs i).sides) ≡ axis_count places) in
    subst P (sym (g ∙ f)) (sides-supports_of places one_length)

pub order_below : (places : List (List F2Dot14)) (order : List ℕ) (n : ℕ) → order ≡ order_of places
    → n ≡ length places → All (λ i. i < n) order
order_below places order n e f =
    let P : ℕ → Type 0 = λ m. All (λ i. i < m) order in
    subst P (sym f) (order_within places order e)
