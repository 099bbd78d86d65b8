-- The first of the numbers below another that passes a test.
use Rattle.std.proofs.Common.{◌≡◌, ℕ, ◌<◌, ◌⊎◌, inl, inr, zero, suc, Bool, true, false}
use Rattle.std.proofs.Common.{cond, length, get_or, Some, None, refl, ap, ◌∙◌, arith}
use Rattle.std.proofs.Common.{subst, zero-add, ltb, below_more, add-one}
use Rattle.std.specs.List.{position, position_or_len, range_with_len}
use Rattle.std.proofs.lemmas.Bool.{le-ltb, lt-ltb}
use Rattle.std.proofs.lemmas.List.FromFn.{length-range_with_len, get_or-range_with_len}
use Rattle.std.proofs.lemmas.List.Sums.{position_or_len_is}

at : (n k : ℕ) → k < n → get_or (range_with_len 0 n) k 0 ≡ k
at n k h = get_or-range_with_len 0 n k 0 h ∙ zero-add k

pub record IsFirstPassing (p : ℕ → Bool) (n i : ℕ) : Type 0 where
  pub within : i < n
  pub passes : p i ≡ true
  pub before : (k : ℕ) → k < i → p k ≡ false

abbrev pub NonePasses : (ℕ → Bool) → ℕ → Type 0
NonePasses p n = (k : ℕ) → k < n → p k ≡ false

pub some_index : (p : ℕ → Bool) (n i : ℕ) → IsFirstPassing p n i
    → position p (range_with_len 0 n) ≡ Some i
some_index p n i h =
    let numbers = range_with_len 0 n in
    let long : length numbers ≡ n = length-range_with_len 0 n in
    let within = h.within in
    let is : position_or_len p numbers ≡ i =
    position_or_len_is p numbers i 0 (omega (arith, long, within))
    (λ k below. ap p (at n k (omega (arith, below, within))) ∙ h.before k below)
    (λ _. ap p (at n i within) ∙ h.passes) in
    let there : ltb (position_or_len p numbers) (length numbers) ≡ true =
    lt-ltb (position_or_len p numbers) (length numbers) (omega (arith, is, long, within)) in
    ap (λ b. cond b (Some (position_or_len p numbers)) None) there ∙ ap Some is

pub no_index : (p : ℕ → Bool) (n : ℕ) → NonePasses p n → position p (range_with_len 0 n) ≡ None
no_index p n none =
    let numbers = range_with_len 0 n in
    let long : length numbers ≡ n = length-range_with_len 0 n in
    let is : position_or_len p numbers ≡ n =
    position_or_len_is p numbers n 0 (omega (arith, long))
    (λ k below. ap p (at n k below) ∙ none k below)
    (λ h. absurd (omega (arith, h, long))) in
    let past : ltb (position_or_len p numbers) (length numbers) ≡ false =
    le-ltb (position_or_len p numbers) (length numbers) (omega (arith, is, long)) in
    ap (λ b. cond b (Some (position_or_len p numbers)) None) past

-- one of the two holds
pub first_passing : (p : ℕ → Bool) (n : ℕ)
    → NonePasses p n ⊎ ((i : ℕ) × IsFirstPassing p n i)
first_passing p zero = inl (λ k h. absurd (omega (arith, h)))
first_passing p (suc n) = on (first_passing p n) (p n) refl
  where
    on : NonePasses p n ⊎ ((i : ℕ) × IsFirstPassing p n i) → (b : Bool) → p n ≡ b
        → NonePasses p (suc n) ⊎ ((i : ℕ) × IsFirstPassing p (suc n) i)
    on (inr (i, h)) b e =
        let within = h.within in
        inr (
          i,
          record {
            within = omega (arith, within);
            passes = h.passes;
            before = h.before;
          },
        )
    on (inl none) true e = inr (n, record { within = omega arith; passes = e; before = none })
    on (inl none) false e =
        let P : ℕ → Type 0 = λ m. NonePasses p m in
        inl (subst P (add-one n) (below_more (λ k. p k ≡ false) n none e))
