-- Worked rows: the codes of some orders.
use Rattle.std.proofs.Common.{◌≡◌, ℕ, true, List, [], ◌∷◌, Some, None, codes, refl}
use Rattle.character_codes.specs.CharacterCodes.{Entry, codes_of}

-- a glyph by its name, its place in the source, and its codes
abbrev glyph : List ℕ → ℕ → List ℕ → Entry
glyph name number coded = (
  name,
  record {
    number = number;
    node = 0;
    exported = true;
    codes = coded;
    left = None;
    right = None;
  },
)

-- `B` for both cases, `.notdef`, `A`, and a smiling face of two codes
abbrev index : List Entry
index =
    glyph (codes "B") 0 (98 ∷ 66 ∷ [])
    ∷ glyph (codes ".notdef") 1 []
    ∷ glyph (codes "A") 2 (65 ∷ [])
    ∷ glyph (codes "smile") 3 (128512 ∷ 9786 ∷ []) ∷ []

-- each code with its glyph's place in the order, in rising order
all_glyphs : codes_of index (Some 1 ∷ Some 0 ∷ Some 2 ∷ Some 3 ∷ [])
    ≡ (65, 2) ∷ (66, 1) ∷ (98, 1) ∷ (9786, 3) ∷ (128512, 3) ∷ []
unfolding codes_of
all_glyphs = refl

-- a glyph that the order leaves out has no code in the font, nor has a made `.notdef`
some_glyphs : codes_of index (None ∷ Some 2 ∷ Some 0 ∷ []) ≡ (65, 1) ∷ (66, 2) ∷ (98, 2) ∷ []
unfolding codes_of
some_glyphs = refl

no_glyphs : codes_of index [] ≡ []
unfolding codes_of
no_glyphs = refl
