-- Steps of the loop that forms deltas.
use Rattle.std.proofs.Common.{◌≡◌, ℕ, ◌+◌, ◌*◌, ◌<◌, ◌≤◌, ◌^◌, Bool, true, false, cond, List, []}
use Rattle.std.proofs.Common.{◌∷◌, ◌++◌, refl, sym, ap, ◌∙◌, arith, length, get_or, drop, map}
use Rattle.std.proofs.Common.{append_assoc, append-nil, Option, Some, None, ℤ, pos, negsuc, ◌+ℤ◌}
use Rattle.std.proofs.Common.{◌-ℤ◌, FitsSigned, length-append}
use Rattle.std.proofs.lemmas.Int.{ints, fits_signed_from_abs}
use Rattle.std.proofs.lemmas.List.{get_or_default, drop_all, get_or-map}
use Rattle.std.specs.Prelude.{unsigned_abs}
use Rattle.std.specs.Int.{w32, w64}
use Rattle.fixed_math.specs.FixedPoint.{half_up}
use Rattle.variation_model.specs.Deltas.{is_storable, first_large, value_at_place}
use Rattle.variation_model.specs.Parts.{deltas_by, row_at, weighted}
use Rattle.fixed_math.specs.declared.Fixed.{Fixed}
use Rattle.variation_model.proofs.Steps.{step_both}
use Rattle.variation_model.proofs.ValueLemmas.{abs_sum}

passes : {X : Type 0} (b : Bool) (o : Option X) (p : X) → cond b o (Some p) ≡ None
    → (b ≡ true) × (o ≡ None)
passes true o p e = (refl, e)
passes false o p e = cc

chosen : {X : Type 0} (b : Bool) (o : Option X) (p : X) → b ≡ true → cond b o (Some p) ≡ o
chosen true o p e = refl
chosen false o p e = cc

refused : {X : Type 0} (b : Bool) (o : Option X) (p : X) → b ≡ false → cond b o (Some p) ≡ Some p
refused true o p e = cc
refused false o p e = refl

-- after deltas that can all be stored the rest decides
pub first_large-append : (at : ℕ) (xs ys : List ℤ) → first_large at xs ≡ None
    → first_large at (xs ++ ys) ≡ first_large (at + length xs) ys
first_large-append at [] ys e = let same : at ≡ at + 0 = omega arith
    in ap (λ n. first_large n ys) same
first_large-append at (x ∷ xs) ys e =
    let p = passes (is_storable x) (first_large (at + 1) xs) (at, x) e in
    let same : at + 1 + length xs ≡ at + length (x ∷ xs) = omega arith in
    chosen (is_storable x) (first_large (at + 1) (xs ++ ys)) (at, x) p.0
    ∙ first_large-append (at + 1) xs ys p.1 ∙ ap (λ n. first_large n ys) same

-- the deltas so far, of which each can be stored, and those to come are all deltas
pub record AreDeltas (rows : List (List Fixed)) (values total : List ℤ) (k : ℕ) (deltas : List ℤ)
    : Type 0 where
  pub all : deltas ++ deltas_by (drop k rows) deltas (drop k values) ≡ total
  pub stored : first_large 0 deltas ≡ None
  pub counted : length deltas ≡ k

pub AreDeltas-none : (rows : List (List Fixed)) (values : List ℤ)
    → AreDeltas rows values (deltas_by rows [] values) 0 []
AreDeltas-none rows values = record { all = refl; stored = refl; counted = refl }

opened : (rows : List (List Fixed)) (values total : List ℤ) (k : ℕ) (deltas : List ℤ) (delta : ℤ)
    → k < length rows → k < length values → AreDeltas rows values total k deltas
    → delta ≡ half_up (get_or values k (pos 0) -ℤ weighted (row_at rows k) deltas)
    → deltas ++ (delta ∷ deltas_by (drop (k + 1) rows) (deltas ++ delta ∷ []) (drop (k + 1) values))
    ≡ total
opened rows values total k deltas delta h l f e =
    ap (λ d. deltas ++ (d ∷ deltas_by (drop (k + 1) rows) (deltas ++ d ∷ []) (drop (k + 1) values)))
    e ∙ sym (ap (λ (ds : List ℤ). deltas ++ ds)
    (step_both (λ (rs : List (List Fixed)) (vs : List ℤ). deltas_by rs deltas vs) rows values k
    [] (pos 0) h l)) ∙ f.all

pub AreDeltas-more : (rows : List (List Fixed)) (values total : List ℤ) (k : ℕ)
    (deltas next : List ℤ) (delta : ℤ) → k < length rows → k < length values
    → AreDeltas rows values total k deltas
    → delta ≡ half_up (get_or values k (pos 0) -ℤ weighted (row_at rows k) deltas)
    → is_storable delta ≡ true → next ≡ deltas ++ delta ∷ []
    → AreDeltas rows values total (k + 1) next
AreDeltas-more rows values total k deltas next delta h l f e g n =
    let counted = f.counted in
    let longer : length (deltas ++ delta ∷ [])
    ≡ k + 1 = omega (arith, length-append deltas (delta ∷ [])) in
    rw n (record {
      all = append_assoc deltas (delta ∷ [])
          (deltas_by (drop (k + 1) rows) (deltas ++ delta ∷ []) (drop (k + 1) values))
          ∙ opened rows values total k deltas delta h l f e;
      stored = first_large-append 0 deltas (delta ∷ []) f.stored
          ∙ chosen (is_storable delta) None (0 + length deltas, delta) g;
      counted = longer;
    })

-- the first that can't be stored
pub AreDeltas-large : (rows : List (List Fixed)) (values total : List ℤ) (k : ℕ) (deltas : List ℤ)
    (delta : ℤ) → k < length rows → k < length values → AreDeltas rows values total k deltas
    → delta ≡ half_up (get_or values k (pos 0) -ℤ weighted (row_at rows k) deltas)
    → is_storable delta ≡ false → first_large 0 total ≡ Some (k, delta)
AreDeltas-large rows values total k deltas delta h l f e g =
    let rest = deltas_by (drop (k + 1) rows) (deltas ++ delta ∷ []) (drop (k + 1) values) in
    let counted : 0 + length deltas ≡ k = let c = f.counted in omega arith in
    ap (first_large 0) (sym (opened rows values total k deltas delta h l f e))
    ∙ first_large-append 0 deltas (delta ∷ rest) f.stored
    ∙ refused (is_storable delta) (first_large (0 + length deltas + 1) rest)
    (0 + length deltas, delta) g ∙ ap (λ n. Some (n, delta)) counted

pub AreDeltas-all : (rows : List (List Fixed)) (values total : List ℤ) (k : ℕ) (deltas : List ℤ)
    → length rows ≤ k → AreDeltas rows values total k deltas
    → (deltas ≡ total) × (first_large 0 total ≡ None)
AreDeltas-all rows values total k deltas h f =
    let ends : deltas_by (drop k rows) deltas (drop k values) ≡ [] =
    ap (λ (rs : List (List Fixed)). deltas_by rs deltas (drop k values)) (drop_all k rows h) in
    let same : deltas ≡ total = sym (append-nil deltas)
    ∙ ap (λ (ds : List ℤ). deltas ++ ds) (sym ends) ∙ f.all in
    (same, ap (first_large 0) (sym same) ∙ f.stored)

-- the value that the order names, and the row
pub delta_at : (rows : List (List Fixed)) (values : List Fixed) (order : List ℕ) (k : ℕ)
    (item slice : List Fixed) (deltas deltas' : List ℤ) (delta : ℤ) → k < length order
    → k < length rows → item ≡ get_or rows k item → slice ≡ item → deltas' ≡ deltas
    → delta ≡ half_up ((get_or values (get_or order k 0) (record { 0 = pos 0 })).0 -ℤ weighted slice
    deltas') → delta ≡ half_up (get_or (map (value_at_place values) order) k (pos 0) -ℤ weighted
    (row_at rows k) deltas)
delta_at rows values order k item slice deltas deltas' delta h l at at_slice same e =
    let is_row : slice ≡ row_at rows k = at_slice ∙ at ∙ get_or_default rows k item [] l in
    let value = value_at_place values (get_or order k 0) in
    e ∙ ap (λ (ds : List ℤ). half_up (value -ℤ weighted slice ds)) same
    ∙ ap (λ (r : List Fixed). half_up (value -ℤ weighted r deltas)) is_row
    ∙ ap (λ z. half_up (z -ℤ weighted (row_at rows k) deltas))
    (sym (get_or-map (value_at_place values) order k 0 (pos 0) h))

abs_fits : (z : ℤ) → FitsSigned w32 z → unsigned_abs z ≤ 2147483648
abs_fits (pos n) f = omega (arith, ints)
abs_fits (negsuc n) f = omega (arith, ints)

abs_lack : (a b : ℤ) (m n : ℕ) → unsigned_abs a ≤ m → unsigned_abs b ≤ n
    → unsigned_abs (a -ℤ b) ≤ m + n
abs_lack (pos a) (pos b) m n h k = grind (arith, ints)
abs_lack (pos a) (negsuc b) m n h k = omega (arith, ints)
abs_lack (negsuc a) (pos b) m n h k = omega (arith, ints)
abs_lack (negsuc a) (negsuc b) m n h k = grind (arith, ints)

-- what a value lacks fits 64 bits, and still does with what rounds it
pub lack_fits : (value sum extra : ℤ) (n : ℕ) → FitsSigned w32 value
    → unsigned_abs sum ≤ 2147483648 * n → unsigned_abs extra ≤ 32768 → n + 1 < 2 ^ 32
    → FitsSigned w64 ((value -ℤ sum) +ℤ extra)
lack_fits value sum extra n f h k l =
    let lack : unsigned_abs (value -ℤ sum) ≤ 2147483648
    + 2147483648 * n = abs_lack value sum 2147483648 (2147483648 * n) (abs_fits value f) h in
    let all = abs_sum (value -ℤ sum) extra (2147483648 + 2147483648 * n) 32768 lack k in
    fits_signed_from_abs w64 ((value -ℤ sum) +ℤ extra) (omega (arith, all))
