-- The origin of a design space without axes is a list of places. For the proofs of other crates
-- alone.
use Rattle.std.proofs.Common.{◌≡◌, ℕ, zero, suc, ◌<◌, List, [], ◌∷◌, length, refl, arith}
use Rattle.std.specs.Prelude.{slice_index_or}
use Rattle.fixed_math.specs.declared.F2Dot14.{F2Dot14}
use Rattle.font_ir.specs.Places.{AreGlyphPlaces}

pub origin_alone : AreGlyphPlaces ([] ∷ [])
origin_alone = record {
  few = omega arith;
  are_places = record {
    few = omega arith;
    one_length = λ i within. at_first i within;
    different = λ i j below within. absurd (omega (arith, below, within));
    has_zero = (0, omega arith, refl);
  };
}
  where
    at_first : (i : ℕ) → i < 1 → length (slice_index_or {A = List F2Dot14} ([] ∷ []) i []) ≡ 0
    at_first zero within = refl
    at_first (suc i) within = absurd (omega (arith, within))
