-- The tests of tables in words: which values fail them. Where a row asks that a decimal has no
-- fraction, exactly the decimals with one fail, and so on. For the proofs of other crates alone.
use Rattle.std.proofs.Common.{◌≡◌, ◌∷◌, [], ℕ, zero, suc, ◌<◌, List, length, Bool, true, false, not}
use Rattle.std.proofs.Common.{◌&&◌, ◌||◌, Option, Some, None, inl, inr, refl, sym, ◌∙◌, true≢false}
use Rattle.std.proofs.Common.{arith}
use Rattle.std.specs.Prelude.{◌↔◌, slice_index_or}
use Rattle.std.specs.List.{Contains}
use Rattle.std.specs.Option.{option_map_or}
use Rattle.plist_reader.specs.declared.tree.Tree.{Tree}
use Rattle.plist_reader.specs.Tree.{text_at}
use Rattle.source_values.specs.declared.decimals.Decimal.{Decimal}
use Rattle.source_values.specs.declared.kinds.Range.{Range}
use Rattle.source_values.specs.declared.kinds.Range.TheVariants.{Any}
use Rattle.source_values.specs.Decimals.{is_whole}
use Rattle.source_values.specs.Values.{decimal_at, in_range}
use Rattle.source_values.specs.Ways.{IsOneOf}
use Rattle.source_values.specs.Tables.{decimal_passes, text_passes, is_within, has_fraction}
use Rattle.source_values.specs.Tables.{is_outside, has_name_length, has_other_length}

fails_test : {X : Type 0} (test : X → Bool) (o : Option X)
    → not (option_map_or test o true) ≡ option_map_or (λ x. not (test x)) o false
fails_test test None = refl
fails_test test (Some x) = refl

beyond : (whole inside : Bool) → not (not whole || inside) ≡ (whole && not inside)
beyond true inside = refl
beyond false inside = refl

beyond_range : (range : Range) (o : Option Decimal)
    → not (option_map_or (is_within range) o true)
    ≡ option_map_or (λ d. is_whole d && not (in_range range d)) o false
beyond_range range None = refl
beyond_range range (Some d) = beyond (is_whole d) (in_range range d)

pub fraction : (t : Tree) (n : ℕ) → not (decimal_passes is_whole t n) ≡ has_fraction t n
fraction t n = fails_test is_whole (decimal_at t n)

pub outside : (range : Range) (t : Tree) (n : ℕ)
    → not (decimal_passes (is_within range) t n) ≡ is_outside range t n
outside range t n = beyond_range range (decimal_at t n)

pub other_length : (t : Tree) (n : ℕ)
    → not (text_passes has_name_length t n) ≡ has_other_length t n
other_length t n = fails_test has_name_length (text_at t.nodes n)

-- no number is outside the range of all numbers
module _ (t : Tree) (n : ℕ) where
  in_any : (whole : Bool) → (not whole || true) ≡ true
  in_any true = refl
  in_any false = refl

  any_passes : (o : Option Decimal) → option_map_or (is_within Any) o true ≡ true
  any_passes None = refl
  any_passes (Some d) = in_any (is_whole d)

  pub none_outside_any : decimal_passes (is_within Any) t n ≡ false → ⊥
  none_outside_any wrong = true≢false (sym (any_passes (decimal_at t n)) ∙ wrong)

-- ---- members of lists

module _ {X : Type 0} (x : X) where
  to_contained : (xs : List X) → IsOneOf xs x → Contains xs x
  to_contained [] p = absurd p
  to_contained (y ∷ xs) (inl e) = (0, omega arith, sym e)
  to_contained (y ∷ xs) (inr p) =
      let (k, within, e) = to_contained xs p in (suc k, omega (arith, within), e)

  of_contained : (xs : List X) (k : ℕ) → k < length xs → slice_index_or xs k x ≡ x → IsOneOf xs x
  of_contained [] k within e = absurd (omega (arith, within))
  of_contained (y ∷ xs) zero within e = inl (sym e)
  of_contained (y ∷ xs) (suc k) within e = inr (of_contained xs k (omega (arith, within)) e)

-- what is one of a list is what the list contains
pub one_of_contains : {X : Type 0} (xs : List X) (x : X) → IsOneOf xs x ↔ Contains xs x
one_of_contains xs x = (
  λ p. to_contained x xs p,
  λ p. let (k, within, e) = p in of_contained x xs k within e,
)
