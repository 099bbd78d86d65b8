-- The glyphs of a font in the order of their glyph numbers.
use Rattle.std.specs.Prelude.{◌≡◌, ◌≢◌, ℕ, ◌≤◌, Bool, ◌&&◌, List, length, Option, nat_eq}
use Rattle.std.specs.List.{All, AllPairs, position}
use Rattle.std.specs.Option.{option_eq}
use Rattle.std.specs.Cmp.{IsEquivalence, nat_eq_equiv, on_equiv, and_equiv}
use Rattle.refusal_codes.specs.declared.limits.TheConstants.{GLYPHS, NAME_BYTES}
use Rattle.std.specs.Cmp.Lexicographic.{pointwise, lists_equiv, options_equiv, nat_list_eq_equiv}

-- each glyph's number in the source, None for a `.notdef` that the compiler made, and each glyph's
-- name
pub record Glyphs : Type 0 where
  pub numbers : List (Option ℕ)
  pub names : List (List ℕ)

-- the place of a name
abbrev pub gid_of : List (List ℕ) → List ℕ → Option ℕ
gid_of names name = position (pointwise nat_eq name) names

-- at most 65,535 names, all different and of at most 255 bytes, and a number for each
pub record IsGlyphOrder (order : Glyphs) : Type 0 where
  pub few : length order.names ≤ GLYPHS
  pub different : AllPairs (λ a b. a ≢ b) order.names
  pub short : All (λ name. length name ≤ NAME_BYTES) order.names
  pub one_number : length order.numbers ≡ length order.names

-- the test that two orders are the same
abbrev pub orders_eq : Glyphs → Glyphs → Bool
orders_eq a b = pointwise (option_eq nat_eq) a.numbers b.numbers
    && pointwise (pointwise nat_eq) a.names b.names

numbers_equiv : IsEquivalence (λ (a b : Glyphs). pointwise (option_eq nat_eq) a.numbers b.numbers)
numbers_equiv = on_equiv (λ order. order.numbers) (lists_equiv (options_equiv nat_eq_equiv))

names_equiv : IsEquivalence (λ (a b : Glyphs). pointwise (pointwise nat_eq) a.names b.names)
names_equiv = on_equiv (λ order. order.names) (lists_equiv nat_list_eq_equiv)

pub orders_equiv : IsEquivalence orders_eq
orders_equiv = and_equiv numbers_equiv names_equiv
