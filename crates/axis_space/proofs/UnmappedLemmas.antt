-- What the function tells of axes without maps is the first of them.
use Rattle.std.proofs.Common.{◌≡◌, ℕ, inl, inr, true, false, List, Ok, Err, Result, sym}
use Rattle.std.proofs.Common.{subst, Some, None}
use Rattle.std.specs.Prelude.{is_err}
use Rattle.fixed_math.specs.declared.F2Dot14.{F2Dot14}
use Rattle.font_ir.specs.declared.header.Master.{Master}
use Rattle.font_ir.specs.AxisMaps.{Pair, IsRisingList, pairs_of}
use Rattle.axis_space.specs.AxisPairs.{Orders, avar_pairs}
use Rattle.axis_space.specs.UnmappedAxes.{HasRisingPairs, TellsUnmapped, is_unmapped}
use Rattle.axis_space.specs.UnmappedAxes.{first_unmapped}
use Rattle.axis_space.proofs.FallLemmas.{avar_pairs_orders}
use Rattle.axis_space.proofs.IndexLemmas.{some_index, no_index, first_passing, NonePasses}
use Rattle.axis_space.proofs.IndexLemmas.{IsFirstPassing}

rising_of : (set : List Pair) (r : Result (List Pair) F2Dot14) → Orders set r → is_err r ≡ false
    → (pairs : List Pair) × IsRisingList set pairs
rising_of set (Ok pairs) made e = (pairs, made.0)
rising_of set (Err x) made e = cc

none_rises : (set : List Pair) (r : Result (List Pair) F2Dot14) → Orders set r → is_err r ≡ true
    → ((pairs : List Pair) × IsRisingList set pairs) → ⊥
none_rises set (Ok pairs) made e = cc
none_rises set (Err x) made e = λ h. made.1 h.0 h.1

module _ (masters : List Master) (origin : ℕ) where
  mapped : (axis : ℕ) → is_unmapped masters origin axis ≡ false
      → HasRisingPairs masters origin axis
  mapped axis e = rising_of (pairs_of masters origin axis) (avar_pairs masters origin axis)
      (avar_pairs_orders masters origin axis) e

  pub told_none : (axes : ℕ) → NonePasses (is_unmapped masters origin) axes
      → None ≡ first_unmapped masters origin axes
  unfolding first_unmapped
  told_none axes none = sym (no_index (is_unmapped masters origin) axes none)

  pub told_some : (axes axis : ℕ) → IsFirstPassing (is_unmapped masters origin) axes axis
      → Some axis ≡ first_unmapped masters origin axes
  unfolding first_unmapped
  told_some axes axis first = sym (some_index (is_unmapped masters origin) axes axis first)

  pub first_unmapped_tells : (axes : ℕ)
      → TellsUnmapped masters origin axes (first_unmapped masters origin axes)
  first_unmapped_tells axes =
      elim (first_passing (is_unmapped masters origin) axes) [
        | inl none ↦ subst (TellsUnmapped masters origin axes) (told_none axes none)
            (λ axis h. mapped axis (none axis h))
        | inr (axis, first) ↦ subst (TellsUnmapped masters origin axes)
            (told_some axes axis first) (record {
              within = first.within;
              unmapped = none_rises (pairs_of masters origin axis)
                  (avar_pairs masters origin axis) (avar_pairs_orders masters origin axis)
                  first.passes;
              before = λ k h. mapped k (first.before k h);
            })
      ]
