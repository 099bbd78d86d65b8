-- A glyph of which no point moves has no tuples, and no delta that can't be stored.
use Rattle.std.proofs.Common.{◌≡◌, ℕ, zero, suc, ◌+◌, ◌<◌, Bool, true, false, cond, ◌||◌, List, []}
use Rattle.std.proofs.Common.{◌∷◌, ◌++◌, refl, ap, ◌∙◌, arith, get_or, ℤ, pos, Option}
use Rattle.std.proofs.Common.{Some}
use Rattle.std.proofs.Common.{None}
use Rattle.std.specs.Prelude.{Ok, Result, drop}
use Rattle.std.specs.List.{list_any}
use Rattle.refusal_codes.specs.declared.refusal.Refusal.{Refusal}
use Rattle.font_ir.specs.declared.header.Header.{Header}
use Rattle.font_ir.specs.declared.glyph.FlatGlyph.{FlatGlyph}
use Rattle.font_ir.specs.declared.variation.Region.{Region}
use Rattle.variation_model.specs.Deltas.{first_large, is_storable}
use Rattle.variation_model.specs.Supports.{supports_of}
use Rattle.gvar_writer.specs.declared.positions.Coordinate.{Coordinate}
use Rattle.gvar_writer.specs.declared.positions.Coordinate.TheVariants as coordinates
use Rattle.gvar_writer.specs.GlyphPoints.{first_refused, glyph_rows, or_else, too_large}
use Rattle.gvar_writer.specs.GlyphVariations.{contour_sizes, moves, stored_contours, tuple_at}
use Rattle.gvar_writer.specs.GlyphVariations.{tuples_bytes, tuples_from, variation_data}
use Rattle.gvar_writer.specs.TupleData.{column, is_nonzero}
use Rattle.font_tables.specs.Variations.{shared_of, variations_of, variations_unless}
use Rattle.font_tables.proofs.Constants.{AreNothing, IsStill}

-- ---- one row

nothing_large : (n : ℕ) (deltas : List ℤ) → AreNothing deltas → first_large n deltas ≡ None
nothing_large n [] nothing = refl
nothing_large n (delta ∷ deltas) nothing =
    ap (λ (z : ℤ). cond (is_storable z) (first_large (n + 1) deltas) (Some (n, z))) nothing.0
    ∙ nothing_large (n + 1) deltas nothing.1

still_small : (d : ℤ) (row : List ℤ) → is_storable d ≡ true → IsStill d row
    → first_large 0 row ≡ None
still_small d [] small still = refl
still_small d (delta ∷ deltas) small still =
    ap (λ (z : ℤ). cond (is_storable z) (first_large 1 deltas) (Some (0, z))) still.0
    ∙ ap (λ (b : Bool). cond b (first_large 1 deltas) (Some (0, d))) small
    ∙ nothing_large 1 deltas still.1

nothing_at : (deltas : List ℤ) (k : ℕ) → AreNothing deltas → get_or deltas k (pos 0) ≡ pos 0
nothing_at [] k nothing = refl
nothing_at (delta ∷ deltas) zero nothing = nothing.0
nothing_at (delta ∷ deltas) (suc k) nothing = nothing_at deltas k nothing.1

still_at : (d : ℤ) (row : List ℤ) (k : ℕ) → 0 < k → IsStill d row → get_or row k (pos 0) ≡ pos 0
still_at d [] k h still = refl
still_at d (delta ∷ deltas) zero h still = absurd (omega (arith, h))
still_at d (delta ∷ deltas) (suc k) h still = nothing_at deltas k still.1

-- ---- rows

-- a row is a number that can be stored, and zeros
abbrev pub IsStoredStill : List ℤ → Type 0
IsStoredStill row = (d : ℤ) × (is_storable d ≡ true) × IsStill d row

abbrev pub AreStill : List (List ℤ) → Type 0
AreStill [] = Unit {0}
AreStill (row ∷ rows) = IsStoredStill row × AreStill rows

pub none_refused : (rows : List (List ℤ)) → AreStill rows → first_refused rows ≡ None
none_refused [] still = refl
none_refused (row ∷ rows) still =
    ap (λ (large : Option (ℕ × ℤ)). or_else large (first_refused rows))
    (still_small still.0.0 row still.0.1 still.0.2)
    ∙ none_refused rows still.1

none_moves : (rows : List (List ℤ)) (k : ℕ) → 0 < k → AreStill rows
    → list_any is_nonzero (column k rows) ≡ false
none_moves [] k h still = refl
none_moves (row ∷ rows) k h still =
    ap (λ (z : ℤ). is_nonzero z || list_any is_nonzero (column k rows))
    (still_at still.0.0 row k h still.0.2)
    ∙ none_moves rows k h still.1

pub no_tuples : (x_rows y_rows : List (List ℤ)) (k : ℕ) (regions : List Region) → 0 < k
    → AreStill x_rows → AreStill y_rows → tuples_from x_rows y_rows k regions ≡ []
no_tuples x_rows y_rows k [] h xs ys = refl
no_tuples x_rows y_rows k (region ∷ regions) h xs ys =
    let tuple = tuple_at x_rows y_rows k region in
    let stays : moves tuple ≡ false =
    ap (λ (b : Bool). b || list_any is_nonzero (column k y_rows)) (none_moves x_rows k h xs)
    ∙ none_moves y_rows k h ys in
    ap (λ (b : Bool). cond b (tuple ∷ []) [] ++ tuples_from x_rows y_rows (k + 1) regions) stays
    ∙ no_tuples x_rows y_rows (k + 1) regions (omega (arith, h)) xs ys

-- ---- a glyph

module _ (header : Header) (glyph : FlatGlyph)
    (still : (c : Coordinate) → AreStill (glyph_rows c glyph)) where
  none_large : too_large glyph ≡ None
  none_large =
      ap (λ (large : Option (ℕ × ℤ)). or_else large
      (first_refused (glyph_rows coordinates.Y glyph)))
      (none_refused (glyph_rows coordinates.X glyph) (still coordinates.X))
      ∙ none_refused (glyph_rows coordinates.Y glyph) (still coordinates.Y)

  no_data : variation_data (shared_of header) glyph ≡ []
  no_data =
      ap (tuples_bytes (shared_of header) (stored_contours (contour_sizes glyph)
      (glyph_rows coordinates.X glyph) (glyph_rows coordinates.Y glyph)))
      (no_tuples (glyph_rows coordinates.X glyph) (glyph_rows coordinates.Y glyph) 1
      (drop 1 (supports_of glyph.places)) (omega arith) (still coordinates.X)
      (still coordinates.Y))

  pub does_not_vary : (name : List ℕ) → variations_of header name glyph ≡ Ok []
  does_not_vary name =
      let ok : List ℕ → Result (List ℕ) Refusal = λ bytes. Ok bytes in
      ap (λ (large : Option (ℕ × ℤ)). variations_unless large (shared_of header) name glyph)
      none_large ∙ ap ok no_data
