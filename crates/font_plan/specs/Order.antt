-- The order of a font's glyphs: `.notdef`, and then the others that are exported, in the order of
-- the file (OpenType 1.9, "Recommendations for OpenType Fonts", asks for `.notdef` at glyph 0).
use Rattle.std.proofs.Common.{refl, ap, ◌∙◌}
use Rattle.std.specs.Prelude.{◌≡◌, ℕ, Bool, true, false, not, ◌&&◌, List, [], ◌∷◌, ◌++◌, length, map, nat_lt}
use Rattle.std.specs.Prelude.{nat_eq, codes, Option, Some, None, Result, Ok, Err, if◌then◌else◌}
use Rattle.std.specs.Cmp.Lexicographic.{pointwise}
use Rattle.refusal_codes.specs.declared.refusal.Refusal.{Refusal}
use Rattle.refusal_codes.specs.declared.rule.Rule.TheVariants.{TooManyGlyphs}
use Rattle.refusal_codes.specs.First.{refusal_of}
use Rattle.refusal_codes.specs.declared.job.TheConstants.{ORDER}
use Rattle.refusal_codes.specs.declared.limits.TheConstants.{GLYPHS}
use Rattle.font_ir.specs.Glyphs.{Glyphs}
use Rattle.character_codes.specs.CharacterCodes.{Entry}
use Rattle.character_codes.specs.OrderLaws.{first_from, chosen_from, numbers_with}

abbrev pub is_notdef : Entry → Bool
is_notdef entry = pointwise nat_eq entry.0 (codes ".notdef")

-- an exported glyph other than `.notdef`
abbrev pub is_other : Entry → Bool
is_other entry = entry.1.exported && not (is_notdef entry)

-- those glyphs with their numbers, of entries numbered from this number on
abbrev pub others_from : ℕ → List Entry → List (ℕ × Entry)
others_from = chosen_from is_other

-- the first `.notdef` with its number, of entries numbered from this number on
abbrev pub notdef_from : ℕ → List Entry → Option (ℕ × Entry)
notdef_from = first_from is_notdef

-- the order: a made `.notdef` has no number
abbrev pub order_in : List Entry → Glyphs
order_in index = record {
  numbers = numbers_with (notdef_from 0 index) (others_from 0 index);
  names = codes ".notdef" ∷ map (λ glyph. glyph.1.0) (others_from 0 index);
}

-- the numbers of the exported glyphs in that order
abbrev pub number_of : Option (ℕ × Entry) → List ℕ
number_of None = []
number_of (Some glyph) = glyph.0 ∷ []

abbrev pub numbers_in : List Entry → List ℕ
numbers_in index = number_of (notdef_from 0 index) ++ map (λ glyph. glyph.0) (others_from 0 index)

-- a font has at most 65,535 glyphs
abbrev pub too_many_glyphs : ℕ → Refusal
too_many_glyphs count = refusal_of ORDER [] (record { rule = TooManyGlyphs; place = count })

abbrev pub order_or_refused : List Entry → Result Glyphs Refusal
order_or_refused index =
    if nat_lt GLYPHS (length (order_in index).names)
    then Err (too_many_glyphs (length (order_in index).names)) else Ok (order_in index)

-- the numbers that are given
abbrev pub given : List (Option ℕ) → List ℕ
given [] = []
given (None ∷ numbers) = given numbers
given (Some number ∷ numbers) = number ∷ given numbers

-- the numbers of the glyphs that an order holds
abbrev pub ordered : Glyphs → List ℕ
ordered order = given order.numbers

-- an order that is not refused is the order of the index
pub is_order_of : (index : List Entry) (order : Glyphs) → order_or_refused index ≡ Ok order
    → order ≡ order_in index
is_order_of index order e = by (nat_lt GLYPHS (length (order_in index).names)) e
  where
    by : (b : Bool) → (if b then Err (too_many_glyphs (length (order_in index).names))
        else Ok (order_in index)) ≡ Ok order → order ≡ order_in index
    by true f = absurd cc
    by false f = cc

given_all : (glyphs : List (ℕ × Entry))
    → given (map (λ glyph. Some glyph.0) glyphs) ≡ map (λ glyph. glyph.0) glyphs
given_all [] = refl
given_all (glyph ∷ glyphs) = ap (λ rest. glyph.0 ∷ rest) (given_all glyphs)

given_behind : (first : Option (ℕ × Entry)) (glyphs : List (ℕ × Entry))
    → given (numbers_with first glyphs) ≡ number_of first ++ map (λ glyph. glyph.0) glyphs
given_behind None glyphs = given_all glyphs
given_behind (Some glyph) glyphs = ap (λ rest. glyph.0 ∷ rest) (given_all glyphs)

-- so it holds the numbers of the exported glyphs
pub ordered_is : (index : List Entry) (order : Glyphs) → order_or_refused index ≡ Ok order
    → ordered order ≡ numbers_in index
ordered_is index order e = ap ordered (is_order_of index order e)
    ∙ given_behind (notdef_from 0 index) (others_from 0 index)

-- what stands for each glyph, where that of a made `.notdef` goes first
abbrev pub behind_made : {A : Type 0} → List (Option ℕ) → A → List A → List A
behind_made [] made others = others
behind_made (None ∷ numbers) made others = made ∷ others
behind_made (Some number ∷ numbers) made others = others
