-- Of large deltas the one whose glyph stands first in the source.
use Rattle.std.proofs.Common.{◌≡◌, ℕ, ◌<◌, ◌≤◌, ℤ, Bool, true, false, Option, None, Some, refl, ap}
use Rattle.std.proofs.Common.{arith}
use Rattle.std.proofs.lemmas.Bool.Decides.{nat_tests}
use Rattle.std.specs.Prelude.{nat_lt}
use Rattle.std.specs.Option.{option_map, unwrap_or}
use Rattle.font_ir.specs.declared.glyph.FlatGlyph.{FlatGlyph}
use Rattle.variation_model.specs.Deltas.{first_large}
use Rattle.metrics_tables.specs.Changes.{advance_deltas, first_in_source, first_of, large_of}
use Rattle.metrics_tables.specs.declared.changes.LargeDelta.{LargeDelta}

first_in_source-assoc : (a b c : LargeDelta)
    → first_in_source (first_in_source a b) c ≡ first_in_source a (first_in_source b c)
first_in_source-assoc a b c = by (nat_lt b.number a.number) refl (nat_lt c.number b.number) refl
    (nat_lt c.number a.number) refl
  where
    by : (p : Bool) → nat_lt b.number a.number ≡ p → (q : Bool) → nat_lt c.number b.number ≡ q
        → (r : Bool) → nat_lt c.number a.number ≡ r
        → first_in_source (first_in_source a b) c ≡ first_in_source a (first_in_source b c)
    by true p true q true r = grind (arith, nat_tests)
    by true p true q false r = grind (arith, nat_tests)
    by true p false q r s = grind (arith, nat_tests)
    by false p true q r s = grind (arith, nat_tests)
    by false p false q true r = grind (arith, nat_tests)
    by false p false q false r = grind (arith, nat_tests)

pub first_of-assoc : (a b c : Option LargeDelta)
    → first_of (first_of a b) c ≡ first_of a (first_of b c)
first_of-assoc None b c = refl
first_of-assoc (Some a) None c = refl
first_of-assoc (Some a) (Some b) None = refl
first_of-assoc (Some a) (Some b) (Some c) = ap Some (first_in_source-assoc a b c)

-- a glyph's first large delta
pub some_of : (gid : ℕ) (glyph : FlatGlyph) (at : ℕ) (value : ℤ)
    → first_large 0 (advance_deltas glyph) ≡ Some (at, value)
    → large_of gid glyph ≡ Some (record { number = glyph.number; gid = gid; value = value })
some_of gid glyph at value e =
    ap (λ (large : Option (ℕ × ℤ)). option_map (λ (l : ℕ × ℤ). let told : LargeDelta
    = record { number = glyph.number; gid = gid; value = l.1 } in told) large) e

module _ (found : LargeDelta) (gid : ℕ) (glyph : FlatGlyph) where
  pub stays : found.number ≤ glyph.number → Some found ≡ first_of (Some found) (large_of gid glyph)
  stays before = by (first_large 0 (advance_deltas glyph))
    where
      by : (large : Option (ℕ × ℤ)) → Some found ≡ first_of (Some found) (option_map
          (λ l. record { number = glyph.number; gid = gid; value = l.1 }) large)
      by None = refl
      by (Some large) = grind (arith, nat_tests)

  pub gives_way : glyph.number < found.number
      → Some (unwrap_or (large_of gid glyph) found) ≡ first_of (Some found) (large_of gid glyph)
  gives_way before = by (first_large 0 (advance_deltas glyph))
    where
      by : (large : Option (ℕ × ℤ)) → let own : Option LargeDelta = option_map
          (λ l. record { number = glyph.number; gid = gid; value = l.1 }) large in
          Some (unwrap_or own found) ≡ first_of (Some found) own
      by None = refl
      by (Some large) = grind (arith, nat_tests)
