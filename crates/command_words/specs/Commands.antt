-- Which lists of words are commands. fontc's own.
--
--     build IN OUT
--     inspect point FONT GID INDEX COORDS
--     sample SEED GLYPHS OUT [--source]
--
-- A path is any word that doesn't begin with a hyphen. A number is 1 to 10 digits. GID and INDEX
-- are numbers of at most 65535. COORDS are such numbers joined by commas, each the bits of a 2.14
-- number, or the word `none`. SEED is a number of at most 4294967295, and GLYPHS one from 1 to
-- 60000. An option stands anywhere behind the first word, and at most once.
use Rattle.std.specs.Prelude.{ℕ, List, [], ◌∷◌, length, map, Bool, true, false, not, ◌==◌, ◌&&◌}
use Rattle.std.specs.Prelude.{◌||◌, Option, Some, None, is_some, codes, nat_eq}
use Rattle.std.specs.Prelude.{nat_le, if◌then◌else◌}
use Rattle.std.specs.Cmp.Lexicographic.{pointwise}
use Rattle.std.specs.Int.{w16, cast_signed}
use Rattle.std.specs.List.{list_all, slice_split}
use Rattle.fixed_math.specs.declared.F2Dot14.{F2Dot14}
use Rattle.source_values.specs.Decimals.{are_digits, digits_value}

-- `build IN OUT`: the path of the source, and that of the font
pub record Build : Type 0 where
  pub source : List ℕ
  pub output : List ℕ

-- `inspect point FONT GID INDEX COORDS`: the path of the font, the numbers of the glyph and of its
-- point, and the place of the design space
pub record Inspect : Type 0 where
  pub font : List ℕ
  pub glyph : ℕ
  pub index : ℕ
  pub place : List F2Dot14

-- `sample SEED GLYPHS OUT [--source]`: the numbers of which a sample is made, the path of what is
-- written, and whether that is the sample's text, and not its font
pub record Sample : Type 0 where
  pub seed : ℕ
  pub glyphs : ℕ
  pub output : List ℕ
  pub writes_text : Bool

pub data Command : Type 0 where
  building : Build → Command
  inspecting : Inspect → Command
  sampling : Sample → Command

abbrev pub is_word : List ℕ → List ℕ → Bool
is_word word wanted = pointwise nat_eq word wanted

-- whether a word is a path: 45 is the hyphen
abbrev pub is_path : List ℕ → Bool
is_path [] = true
is_path (byte ∷ bytes) = not (byte == 45)

-- a number of 1 to 10 digits that lies between these two
unfoldable pub number_between : ℕ → ℕ → List ℕ → Option ℕ
number_between least greatest word = if are_digits word && (nat_le (length word) 10
    && (nat_le least (digits_value word) && nat_le (digits_value word) greatest))
    then Some (digits_value word) else None

-- a number of at most 65535
abbrev pub number_of : List ℕ → Option ℕ
number_of word = number_between 0 65535 word

-- SEED and GLYPHS
abbrev pub seed_of : List ℕ → Option ℕ
seed_of word = number_between 0 4294967295 word

abbrev pub glyphs_of : List ℕ → Option ℕ
glyphs_of word = number_between 1 60000 word

abbrev pub is_number : List ℕ → Bool
is_number word = is_some (number_of word)

abbrev pub number_or_zero : Option ℕ → ℕ
number_or_zero (Some number) = number
number_or_zero None = 0

-- the coordinate of the bits that a number spells
abbrev pub coordinate_of : List ℕ → F2Dot14
coordinate_of word = record { 0 = cast_signed w16 (number_or_zero (number_of word)) }

-- the pieces of a word between its commas
abbrev pub pieces_of : List ℕ → List (List ℕ)
pieces_of word = slice_split (λ byte. byte == 44) word

-- COORDS
unfoldable pub is_place : List ℕ → Bool
is_place word = is_word word (codes "none") || list_all is_number (pieces_of word)

unfoldable pub place_of : List ℕ → List F2Dot14
place_of word = if is_word word (codes "none") then [] else map coordinate_of (pieces_of word)

unfoldable pub build_of : List ℕ → List ℕ → List ℕ → Option Command
build_of word source output = if is_word word (codes "build")
    && (is_path source && is_path output)
    then Some (building (record { source = source; output = output })) else None

abbrev pub inspect_with : List ℕ → Option ℕ → Option ℕ → List ℕ → Option Command
inspect_with font (Some glyph) (Some index) place =
    if is_place place then Some (inspecting (record {
      font = font;
      glyph = glyph;
      index = index;
      place = place_of place;
    })) else None
inspect_with font (Some glyph) None place = None
inspect_with font None index place = None

unfoldable pub inspect_of : List ℕ → List ℕ → List ℕ → List ℕ → List ℕ → List ℕ → Option Command
inspect_of word what font glyph index place = if is_word word (codes "inspect")
    && (is_word what (codes "point") && is_path font)
    then inspect_with font (number_of glyph) (number_of index) place else None

abbrev pub sample_with : Bool → Option ℕ → Option ℕ → List ℕ → Option Command
sample_with writes_text (Some seed) (Some glyphs) output =
    if is_path output then Some (sampling (record {
      seed = seed;
      glyphs = glyphs;
      output = output;
      writes_text = writes_text;
    })) else None
sample_with writes_text (Some seed) None output = None
sample_with writes_text None glyphs output = None

unfoldable pub sample_of : Bool → List ℕ → List ℕ → List ℕ → List ℕ → Option Command
sample_of writes_text word seed glyphs output = if is_word word (codes "sample")
    then sample_with writes_text (seed_of seed) (glyphs_of glyphs) output else None

abbrev pub is_source_option : List ℕ → Bool
is_source_option word = is_word word (codes "--source")

-- The option takes one of four places. Where it stands twice one of the other words is it, and that
-- is neither a number nor a path.
unfoldable pub text_of : List ℕ → List ℕ → List ℕ → List ℕ → List ℕ → Option Command
text_of word first second third fourth =
    if is_source_option first then sample_of true word second third fourth
    else (if is_source_option second then sample_of true word first third fourth
    else (if is_source_option third then sample_of true word first second fourth
    else (if is_source_option fourth then sample_of true word first second third else None)))

abbrev pub command_of : List (List ℕ) → Option Command
command_of [] = None
command_of (word ∷ []) = None
command_of (word ∷ source ∷ []) = None
command_of (word ∷ source ∷ output ∷ []) = build_of word source output
command_of (word ∷ seed ∷ glyphs ∷ output ∷ []) = sample_of false word seed glyphs output
command_of (word ∷ first ∷ second ∷ third ∷ fourth ∷ []) = text_of word first second third fourth
command_of (word ∷ what ∷ font ∷ glyph ∷ index ∷ place ∷ []) =
    inspect_of word what font glyph index place
command_of (word ∷ what ∷ font ∷ glyph ∷ index ∷ place ∷ more ∷ words) = None
