-- How the places' numbers come from their keys.
use Rattle.std.proofs.Common.{◌≡◌, ℕ, ◌+◌, ◌<◌, Bool, true, false, cond, nat_lt, ◌==◌, List, []}
use Rattle.std.proofs.Common.{◌∷◌, ◌++◌, refl, sym, ap, ◌∙◌, arith, length, get_or, map, take, Some}
use Rattle.std.proofs.Common.{None}
use Rattle.std.proofs.lemmas.List.{map-append, take_more}
use Rattle.std.proofs.lemmas.Simd.{map-map}
use Rattle.std.proofs.lemmas.List.Sums.{sum-map}
use Rattle.std.proofs.lemmas.List.FromFn.{map-range_with_len_more}
use Rattle.std.proofs.lemmas.Bool.Decides.{nat_tests}
use Rattle.std.specs.Prelude.{count_by, unwrap_or, Vec}
use Rattle.std.specs.List.{sum, position_or_len, range_with_len}
use Rattle.std.specs.declared.alloc.Global.{Global}
use Rattle.fixed_math.specs.declared.F2Dot14.{F2Dot14}
use Rattle.variation_model.specs.Places as spec

-- the loop's step that makes keys
pub keys_more : (places : List (List F2Dot14)) (i : ℕ) (place slice : List F2Dot14)
    (coordinates coordinates' on_axis on_axis' : List (ℕ × F2Dot14)) (key : Vec ℕ Global)
    (done next : List (Vec ℕ Global)) → i < length places → place ≡ get_or places i place
    → slice ≡ place → coordinates ≡ spec.active slice → coordinates' ≡ coordinates
    → on_axis ≡ spec.all_on_axis places → on_axis' ≡ on_axis
    → key.items ≡ spec.key_among on_axis' coordinates'
    → map (λ k. k.items) done ≡ map (spec.key places) (take i places) → next ≡ done ++ key ∷ []
    → map (λ k. k.items) next ≡ map (spec.key places) (take (i + 1) places)
keys_more places i place slice coordinates coordinates' on_axis on_axis' key done next h at at_slice
    found same on_axis_coordinate same_on_axis made f g =
    let own : key.items ≡ spec.key places (get_or places i place) =
    made ∙ ap (λ l. spec.key_among l coordinates') (same_on_axis ∙ on_axis_coordinate)
    ∙ ap (λ cs. spec.key_among (spec.all_on_axis places) cs) (same ∙ found)
    ∙ ap (λ v. spec.key places v) (at_slice ∙ at) in
    rw (
      g,
      map-append (λ k. k.items) done (key ∷ []),
      take_more places i place h,
      map-append
          (spec.key places) (take i places) (get_or places i place ∷ []),
      f,
      own,
    )

-- and the one that counts them
pub ranks_more : (keys : List (Vec ℕ Global)) (i : ℕ) (key : Vec ℕ Global) (slice : List ℕ)
    (done next : List ℕ) (x : ℕ) → i < length keys → key ≡ get_or keys i key → slice ≡ key.items
    → x ≡ count_by (λ other. spec.is_less_key other.items slice) keys
    → done ≡ map (λ key. count_by (λ other. spec.is_less_key other.items key.items) keys)
    (take i keys) → next ≡ done ++ x ∷ [] → next
    ≡ map (λ key. count_by (λ other. spec.is_less_key other.items key.items) keys)
    (take (i + 1) keys)
ranks_more keys i key slice done next x h at at_slice made f g =
    let count : Vec ℕ Global → ℕ = λ k. count_by (λ other. spec.is_less_key other.items k.items)
    keys in
    let own : x ≡ count (get_or keys i key) =
    made ∙ ap (λ s. count_by (λ other. spec.is_less_key other.items s) keys) at_slice ∙ ap count at
    in
    g ∙ ap (λ l. l ++ x ∷ []) f ∙ ap (λ n. map count (take i keys) ++ n ∷ []) own
    ∙ sym (map-append count (take i keys) (get_or keys i key ∷ []))
    ∙ ap (map count) (sym (take_more keys i key h))

counted : {X Z : Type 0} (view : X → Z) (p : Z → Bool) (xs : List X)
    → count_by (λ x. p (view x)) xs ≡ count_by p (map view xs)
counted view p xs =
    sym (sum-map (λ x. cond (p (view x)) 1 0) xs)
    ∙ ap sum (sym (map-map (λ z. cond (p z) 1 0) view xs))
    ∙ sum-map (λ z. cond (p z) 1 0) (map view xs)

all_counted : (view : Vec ℕ Global → List ℕ) (all xs : List (Vec ℕ Global))
    → map (λ key. count_by (λ other. spec.is_less_key (view other) (view key)) all) xs
    ≡ map (spec.rank_among (map view all)) (map view xs)
all_counted view all [] = refl
all_counted view all (x ∷ xs) =
    ap (λ n. n ∷ map (λ key. count_by (λ other. spec.is_less_key (view other) (view key)) all) xs)
    (counted view (λ other. spec.is_less_key other (view x)) all)
    ∙ ap (λ ns. spec.rank_among (map view all) (view x) ∷ ns) (all_counted view all xs)

pub ranks_from_keys : (places : List (List F2Dot14)) (keys : List (Vec ℕ Global)) (numbers : List ℕ)
    → map (λ key. key.items) keys ≡ map (spec.key places) places
    → numbers ≡ map (λ key. count_by (λ other. spec.is_less_key other.items key.items) keys) keys
    → numbers ≡ spec.ranks places
ranks_from_keys places keys numbers e g =
    g ∙ all_counted (λ key. key.items) keys keys
    ∙ ap (λ (ks : List (List ℕ)). map (spec.rank_among ks) ks) e

chosen : (b : Bool) (i n : ℕ) → 0 < n → (b ≡ true → i < n) → unwrap_or (cond b (Some i) None) 0 < n
chosen true i n h f = f refl
chosen false i n h f = h

-- what is found is within the list
pub position_within : (numbers : List ℕ) (k : ℕ) → k < length numbers
    → spec.of_rank numbers k < length numbers
position_within numbers k h =
    chosen (nat_lt (position_or_len (λ number. number == k) numbers) (length numbers))
    (position_or_len (λ number. number == k) numbers) (length numbers) (omega arith)
    (λ e. grind (arith, nat_tests))

-- a loop's step over numbers
pub ranged_more : (f : ℕ → ℕ) (xs : List ℕ) (k x : ℕ) → xs ≡ map f (range_with_len 0 k) → x ≡ f k
    → xs ++ x ∷ [] ≡ map f (range_with_len 0 (k + 1))
ranged_more f xs k x e g = rw (e, g) (sym (map-range_with_len_more f 0 k k (omega arith)))

pub order_from_ranks : (places : List (List F2Dot14)) (numbers : List ℕ) (k : ℕ) (order : List ℕ)
    → order ≡ map (spec.of_rank numbers) (range_with_len 0 k) → numbers ≡ spec.ranks places
    → k ≡ length places → order ≡ spec.order_of places
unfolding spec.order_of
order_from_ranks places numbers k order e f g = e
    ∙ ap (λ ns. map (spec.of_rank ns) (range_with_len 0 k)) f
    ∙ ap (λ n. map (spec.of_rank (spec.ranks places)) (range_with_len 0 n)) g
