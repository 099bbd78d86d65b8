-- The least and the greatest coordinate of an axis are at the ends, and how pairs follow from
-- coordinates.
use Rattle.std.proofs.Common.{◌≡◌, ℕ, ◌+◌, ◌<◌, arith, sym, ap, ◌∙◌, ℤ, pos, ◌≤ℤ◌, subst}
use Rattle.std.proofs.Common.{List, [], ◌∷◌, ◌++◌, append_assoc, length, get_or, map, take}
use Rattle.std.proofs.lemmas.Int.{ints}
use Rattle.std.proofs.lemmas.List.{map-append, take_more, get_or-map, length-map}
use Rattle.std.proofs.lemmas.List.Folds.{fold-map}
use Rattle.std.proofs.lemmas.List.Elements.{All-cons, All-nil, All-head, All-tail}
use Rattle.std.proofs.lemmas.List.Elements.{All-contains, Contains-get_or}
use Rattle.std.specs.List.{All, Contains, fold}
use Rattle.std.specs.Int.{int_max, int_min}
use Rattle.fixed_math.specs.declared.F2Dot14.{F2Dot14}
use Rattle.fixed_math.specs.declared.Fixed.{Fixed}
use Rattle.font_ir.specs.declared.header.Master.{Master}
use Rattle.font_ir.specs.Normal.{normalised}
use Rattle.font_ir.specs.Extremes.{least, greatest}
use Rattle.font_ir.specs.ExtremesLaws.{least_is as least_of_them, greatest_is as greatest_of_them}
use Rattle.font_ir.specs.Coordinates.{coordinate_on, coordinates_on, default_on, normal_on}
use Rattle.font_ir.specs.AxisMaps.{Pair, fixed_pairs, master_pair}
use Rattle.font_ir.specs.declared.header.CoordinateScale.{CoordinateScale}
use Rattle.font_ir.specs.declared.header.CoordinateScale.TheVariants.{Design, User}

-- what holds of each number of a list that is made from another
All-from_map : (P : ℤ → Type 0) (h : Master → ℤ) (xs : List Master) → All P (map h xs)
    → All (λ m. P (h m)) xs
All-from_map P h [] all = All-nil (λ m. P (h m))
All-from_map P h (x ∷ xs) all =
    All-cons (λ m. P (h m)) x xs (All-head P (h x) (map h xs) all)
    (All-from_map P h xs (All-tail P (h x) (map h xs) all))

-- the least number is at most each
least_bounds : (xs : List ℤ) → All (λ y. least xs ≤ℤ y) xs
least_bounds [] = All-nil (λ y. pos 0 ≤ℤ y)
least_bounds (x ∷ xs) = (least_of_them x xs).none_below

-- the least from one of the numbers on is the least of all
least_from_member : (x : ℤ) (ys : List ℤ) → Contains ys x → fold int_min x ys ≡ least ys
least_from_member x [] (k, h, e) = absurd (omega arith)
least_from_member x (y ∷ ys) h =
    let from = least_of_them x (y ∷ ys) in
    let all = least_of_them y ys in
    let low : ℤ = fold int_min x (y ∷ ys) in
    let least_one : ℤ = least (y ∷ ys) in
    let P : ℤ → Type 0 = λ z. low ≤ℤ z in
    let Q : ℤ → Type 0 = λ z. least_one ≤ℤ z in
    let below = All-contains P (y ∷ ys) least_one (All-tail P x (y ∷ ys) from.none_below) all.there
    in
    let first = All-contains Q (y ∷ ys) x all.none_below h in
    let above = All-contains Q (x ∷ y ∷ ys) low (All-cons Q x (y ∷ ys) first all.none_below)
    from.there in
    omega (arith, ints, below, above)

-- the running least from one of the coordinates is that of all
pub least_is : (kind : CoordinateScale) (axis : ℕ) (masters : List Master) (from low : ℤ)
    → Contains (coordinates_on kind axis masters) from
    → low ≡ fold (λ best m. int_min best (coordinate_on kind axis m).0) from masters
    → low ≡ least (coordinates_on kind axis masters)
least_is kind axis masters from low member e =
    let h : Master → ℤ = λ m. (coordinate_on kind axis m).0 in
    e ∙ sym (fold-map int_min h from masters) ∙ least_from_member from (map h masters) member

pub least_each : (kind : CoordinateScale) (axis : ℕ) (masters : List Master) (low : ℤ)
    → low ≡ least (coordinates_on kind axis masters)
    → All (λ m. low ≤ℤ (coordinate_on kind axis m).0) masters
least_each kind axis masters low e =
    let h : Master → ℤ = λ m. (coordinate_on kind axis m).0 in
    let P : ℤ → Type 0 = λ z. All (λ y. z ≤ℤ y) (map h masters) in
    All-from_map (λ y. low ≤ℤ y) h masters (subst P (sym e) (least_bounds (map h masters)))

pub least_from : (kind : CoordinateScale) (axis : ℕ) (masters : List Master) (from low : ℤ)
    → Contains (coordinates_on kind axis masters) from
    → low ≡ least (coordinates_on kind axis masters) → low ≤ℤ from
least_from kind axis masters from low member e =
    let P : ℤ → Type 0 = λ z. z ≤ℤ from in
    subst P (sym e) (All-contains (λ y. least (coordinates_on kind axis masters) ≤ℤ y)
    (coordinates_on kind axis masters) from (least_bounds (coordinates_on kind axis masters))
    member)

-- the greatest number is at least each
greatest_bounds : (xs : List ℤ) → All (λ y. y ≤ℤ greatest xs) xs
greatest_bounds [] = All-nil (λ y. y ≤ℤ pos 0)
greatest_bounds (x ∷ xs) = (greatest_of_them x xs).none_above

-- the greatest from one of the numbers on is the greatest of all
greatest_from_member : (x : ℤ) (ys : List ℤ) → Contains ys x → fold int_max x ys ≡ greatest ys
greatest_from_member x [] (k, h, e) = absurd (omega arith)
greatest_from_member x (y ∷ ys) h =
    let from = greatest_of_them x (y ∷ ys) in
    let all = greatest_of_them y ys in
    let high : ℤ = fold int_max x (y ∷ ys) in
    let greatest_one : ℤ = greatest (y ∷ ys) in
    let P : ℤ → Type 0 = λ z. z ≤ℤ high in
    let Q : ℤ → Type 0 = λ z. z ≤ℤ greatest_one in
    let above = All-contains P (y ∷ ys) greatest_one (All-tail P x (y ∷ ys) from.none_above)
    all.there in
    let first = All-contains Q (y ∷ ys) x all.none_above h in
    let below = All-contains Q (x ∷ y ∷ ys) high (All-cons Q x (y ∷ ys) first all.none_above)
    from.there in
    omega (arith, ints, below, above)

-- the running greatest from one of the coordinates is that of all
pub greatest_is : (kind : CoordinateScale) (axis : ℕ) (masters : List Master) (from high : ℤ)
    → Contains (coordinates_on kind axis masters) from
    → high ≡ fold (λ best m. int_max best (coordinate_on kind axis m).0) from masters
    → high ≡ greatest (coordinates_on kind axis masters)
greatest_is kind axis masters from high member e =
    let h : Master → ℤ = λ m. (coordinate_on kind axis m).0 in
    e ∙ sym (fold-map int_max h from masters) ∙ greatest_from_member from (map h masters) member

pub greatest_each : (kind : CoordinateScale) (axis : ℕ) (masters : List Master) (high : ℤ)
    → high ≡ greatest (coordinates_on kind axis masters)
    → All (λ m. (coordinate_on kind axis m).0 ≤ℤ high) masters
greatest_each kind axis masters high e =
    let h : Master → ℤ = λ m. (coordinate_on kind axis m).0 in
    let P : ℤ → Type 0 = λ z. All (λ y. y ≤ℤ z) (map h masters) in
    All-from_map (λ y. y ≤ℤ high) h masters (subst P (sym e) (greatest_bounds (map h masters)))

pub greatest_from : (kind : CoordinateScale) (axis : ℕ) (masters : List Master) (from high : ℤ)
    → Contains (coordinates_on kind axis masters) from
    → high ≡ greatest (coordinates_on kind axis masters) → from ≤ℤ high
greatest_from kind axis masters from high member e =
    let P : ℤ → Type 0 = λ z. from ≤ℤ z in
    subst P (sym e) (All-contains (λ y. y ≤ℤ greatest (coordinates_on kind axis masters))
    (coordinates_on kind axis masters) from (greatest_bounds (coordinates_on kind axis masters))
    member)

-- a normalised coordinate from a scale
pub normal_from : (kind : CoordinateScale) (origin axis : ℕ) (masters : List Master)
    (master : Master) (x : F2Dot14) (low default high : ℤ)
    → default ≡ default_on kind origin axis masters → low ≡ least (coordinates_on kind axis masters)
    → high ≡ greatest (coordinates_on kind axis masters)
    → x.0 ≡ normalised (coordinate_on kind axis master).0 low default high
    → x ≡ normal_on kind origin axis masters master
normal_from kind origin axis masters master x low default high d l g is =
    let made : ℤ → F2Dot14 = λ z. record { 0 = z } in
    let v = (coordinate_on kind axis master).0 in
    let all = coordinates_on kind axis masters in
    ap made (is ∙ ap (λ z. normalised v z default high) l
    ∙ ap (λ z. normalised v (least all) z high) d
    ∙ ap (λ z. normalised v (least all) (default_on kind origin axis masters) z) g)

-- a loop's step over masters
pub pairs_more : (masters : List Master) (origin axis i : ℕ) (master : Master)
    (user design : F2Dot14) (done next : List Pair) → i < length masters
    → master ≡ get_or masters i master → user ≡ normal_on User origin axis masters master
    → design ≡ normal_on Design origin axis masters master
    → done ≡ fixed_pairs ++ map (master_pair masters origin axis) (take i masters)
    → next ≡ done ++ (user, design) ∷ [] → next
    ≡ fixed_pairs ++ map (master_pair masters origin axis) (take (i + 1) masters)
pairs_more masters origin axis i master user design done next h at u d before made =
    let f : Master → Pair = master_pair masters origin axis in
    let own : (user, design) ≡ f (get_or masters i master) =
    ap (λ x. (x, design)) u ∙ ap (λ y. (normal_on User origin axis masters master, y)) d ∙ ap f at
    in
    made ∙ ap (λ l. l ++ (user, design) ∷ []) before
    ∙ append_assoc fixed_pairs (map f (take i masters)) ((user, design) ∷ [])
    ∙ ap (λ p. fixed_pairs ++ (map f (take i masters) ++ p ∷ [])) own
    ∙ ap (λ l. fixed_pairs ++ l) (sym (map-append f (take i masters)
    (get_or masters i master ∷ []))) ∙ ap (λ l. fixed_pairs ++ map f l)
    (sym (take_more masters i master h))

-- the default master's coordinate
pub default_is : (kind : CoordinateScale) (origin axis : ℕ) (masters : List Master)
    (master : Master) (x : Fixed) → origin < length masters → master ≡ get_or masters origin master
    → x ≡ coordinate_on kind axis master → x.0 ≡ default_on kind origin axis masters
default_is kind origin axis masters master x h at is =
    let number : Fixed → ℤ = λ y. y.0 in
    ap number (is ∙ ap (coordinate_on kind axis) at
    ∙ sym (get_or-map (coordinate_on kind axis) masters origin master (record { 0 = pos 0 }) h))

-- it is one of the coordinates
pub default_member : (kind : CoordinateScale) (origin axis : ℕ) (masters : List Master)
    (master : Master) (x : Fixed) → origin < length masters → master ≡ get_or masters origin master
    → x ≡ coordinate_on kind axis master → Contains (coordinates_on kind axis masters) x.0
default_member kind origin axis masters master x h at is =
    let number : Fixed → ℤ = λ y. y.0 in
    let f : Master → ℤ = λ m. (coordinate_on kind axis m).0 in
    let within : origin < length (map f masters) = simp length-map h in
    let found : get_or (map f masters) origin (pos 0) ≡ x.0 =
    get_or-map f masters origin master (pos 0) h ∙ sym (ap number is ∙ ap f at) in
    subst (Contains (map f masters)) found (Contains-get_or (map f masters) origin (pos 0) within)
