-- Texts in UTF-16.
use Rattle.std.proofs.Common.{◌≡◌, ℕ, ◌+◌, ◌*◌, ◌<◌, ◌≤◌, List, [], ◌∷◌, length, get_or, drop, sym}
use Rattle.std.proofs.Common.{ap, ◌∙◌, arith, length-append}
use Rattle.std.proofs.lemmas.List.{at_drop_more}
use Rattle.std.proofs.lemmas.Str.{encodes-chars, length-encode}
use Rattle.std.proofs.lemmas.Bool.Decides.{nat_tests}
use Rattle.std.specs.List.{flat_map}
use Rattle.std.specs.Str.{chars, encode_utf8_all, IsUtf8}
use Rattle.std.specs.Prelude.{encode_utf8}
use Rattle.std.specs.Char.{len_utf8}
use Rattle.name_tables.specs.Texts.{utf16_bytes, utf16_character}

-- the rest of a list begins with the element at the place
pub rest_is : (cs : List ℕ) (n c : ℕ) → (n < length cs) × (c ≡ get_or cs n c)
    → drop n cs ≡ c ∷ drop (n + 1) cs
rest_is cs n c h = at_drop_more (λ xs. xs) cs n c h.0 ∙ ap (λ x. x ∷ drop (n + 1) cs) (sym h.1)

-- a character has at most as many units as bytes in UTF-8
few_units : (c : ℕ) → length (utf16_character c) ≤ 2 * len_utf8 c
few_units c = grind (arith, nat_tests)

few_of_all : (cs : List ℕ) → length (flat_map utf16_character cs) ≤ 2 * length (encode_utf8_all cs)
few_of_all [] = omega arith
few_of_all (c ∷ cs) =
    omega (
      arith,
      few_units c,
      few_of_all cs,
      length-encode c,
      length-append (utf16_character c) (flat_map utf16_character cs),
      length-append (encode_utf8 c) (encode_utf8_all cs),
    )

pub few_bytes : (text : List ℕ) → IsUtf8 text → length (utf16_bytes text) ≤ 2 * length text
unfolding utf16_bytes
few_bytes text utf8 =
    omega (arith, few_of_all (chars text), ap length (encodes-chars text utf8))
