-- When words are no command.
use Rattle.std.proofs.Common.{◌≡◌, ℕ, Bool, true, false, cond, ◌&&◌, List, [], ◌∷◌, length}
use Rattle.std.proofs.Common.{Option, Some, None, refl, ◌∙◌, subst, ap, nat_eq, nat_lt, codes}
use Rattle.std.proofs.Common.{arith}
use Rattle.std.specs.Char.{is_ascii_digit}
use Rattle.std.specs.List.{list_all, onto_first}
use Rattle.std.specs.Cmp.Lexicographic.{bytes_decides}
use Rattle.std.proofs.lemmas.Bool.Decides.{nat_tests}
use Rattle.source_values.specs.Decimals.{are_digits}
use Rattle.command_words.specs.Commands.{Command, command_of, is_word, is_path, is_source_option}
use Rattle.command_words.specs.Commands.{build_of, inspect_of, inspect_with, sample_of, sample_with}
use Rattle.command_words.specs.Commands.{text_of, number_between, number_of, seed_of, glyphs_of}
use Rattle.command_words.specs.Commands.{is_place, pieces_of, is_number}
use Rattle.command_words.proofs.Bools.{not_both, either_way, second_fails}

-- a word that begins with a hyphen is none that doesn't
pub is_no_word : (word wanted : List ℕ) → is_path wanted ≡ true → is_path word ≡ false
    → is_word word wanted ≡ false
is_no_word word wanted path hyphen = by (is_word word wanted) refl
  where
    by : (b : Bool) → is_word word wanted ≡ b → b ≡ false
    by false e = refl
    by true e = not_both (is_path wanted) path
        (subst (λ (w : List ℕ). is_path w ≡ false) ((bytes_decides word wanted).0 e) hyphen)

no_digit : (byte : ℕ) (bytes : List ℕ) → is_path (byte ∷ bytes) ≡ false
    → is_ascii_digit byte ≡ false
no_digit byte bytes hyphen = grind (arith, nat_tests)

pub no_digits : (word : List ℕ) → is_path word ≡ false → are_digits word ≡ false
unfolding are_digits
no_digits [] hyphen = refl
no_digits (byte ∷ bytes) hyphen =
    let begins : list_all is_ascii_digit (byte ∷ bytes) ≡ false
    = rw (no_digit byte bytes hyphen) refl in
    second_fails (nat_lt 0 (length (byte ∷ bytes))) (list_all is_ascii_digit (byte ∷ bytes)) begins

pub no_number : (least greatest : ℕ) (word : List ℕ) → is_path word ≡ false
    → number_between least greatest word ≡ None
unfolding number_between
no_number least greatest word hyphen = rw (no_digits word hyphen) refl

-- the first piece of a word begins as the word does
not_comma : (byte : ℕ) (bytes : List ℕ) → is_path (byte ∷ bytes) ≡ false → nat_eq byte 44 ≡ false
not_comma byte bytes hyphen = grind (arith, nat_tests)

no_pieces : (byte : ℕ) (bytes : List ℕ) (pieces : List (List ℕ)) → is_path (byte ∷ bytes) ≡ false
    → list_all is_number (onto_first byte pieces) ≡ false
no_pieces byte bytes [] hyphen = rw (no_number 0 65535 (byte ∷ []) hyphen) refl
no_pieces byte bytes (piece ∷ pieces) hyphen =
    rw (no_number 0 65535 (byte ∷ piece) hyphen) refl

pub no_place : (word : List ℕ) → is_path word ≡ false → is_place word ≡ false
unfolding is_place
no_place [] hyphen = not_both (is_path []) refl hyphen
no_place (byte ∷ bytes) hyphen =
    rw (is_no_word (byte ∷ bytes) (codes "none") refl hyphen, not_comma byte bytes hyphen)
    (no_pieces byte bytes (pieces_of bytes) hyphen)

-- ---- build

pub no_build : (word source output : List ℕ) → is_word word (codes "build") ≡ false
    → build_of word source output ≡ None
unfolding build_of
no_build word source output other = rw other refl

pub no_build_of : (word source output : List ℕ) → (is_path source && is_path output) ≡ false
    → build_of word source output ≡ None
unfolding build_of
no_build_of word source output fails =
    rw (second_fails (is_word word (codes "build")) (is_path source && is_path output) fails) refl

-- ---- sample

pub no_sample : (of_text : Bool) (word seed glyphs output : List ℕ)
    → is_word word (codes "sample") ≡ false → sample_of of_text word seed glyphs output ≡ None
unfolding sample_of
no_sample of_text word seed glyphs output other = rw other refl

none_either_way : (b : Bool) (x : Option Command) → x ≡ None → cond b x None ≡ None
none_either_way true x e = e
none_either_way false x e = refl

pub no_seed : (of_text : Bool) (word seed glyphs output : List ℕ) → seed_of seed ≡ None
    → sample_of of_text word seed glyphs output ≡ None
unfolding sample_of
no_seed of_text word seed glyphs output fails = none_either_way (is_word word (codes "sample")) _
    (ap (λ (s : Option ℕ). sample_with of_text s (glyphs_of glyphs) output) fails)

without_glyphs : (of_text : Bool) (seed : Option ℕ) (output : List ℕ)
    → sample_with of_text seed None output ≡ None
without_glyphs of_text None output = refl
without_glyphs of_text (Some seed) output = refl

pub no_glyphs : (of_text : Bool) (word seed glyphs output : List ℕ) → glyphs_of glyphs ≡ None
    → sample_of of_text word seed glyphs output ≡ None
unfolding sample_of
no_glyphs of_text word seed glyphs output fails = none_either_way (is_word word (codes "sample")) _
    (ap (λ (g : Option ℕ). sample_with of_text (seed_of seed) g output) fails
    ∙ without_glyphs of_text (seed_of seed) output)

without_output : (of_text : Bool) (seed glyphs : Option ℕ) (output : List ℕ)
    → is_path output ≡ false → sample_with of_text seed glyphs output ≡ None
without_output of_text None glyphs output hyphen = refl
without_output of_text (Some seed) None output hyphen = refl
without_output of_text (Some seed) (Some glyphs) output hyphen = rw hyphen refl

pub no_output : (of_text : Bool) (word seed glyphs output : List ℕ) → is_path output ≡ false
    → sample_of of_text word seed glyphs output ≡ None
unfolding sample_of
no_output of_text word seed glyphs output hyphen = none_either_way (is_word word (codes "sample")) _
    (without_output of_text (seed_of seed) (glyphs_of glyphs) output hyphen)

-- five words are no command where none of the words that are left by an option is
pub no_text : (word first second third fourth : List ℕ)
    → (is_source_option first ≡ true → sample_of true word second third fourth ≡ None)
    → (is_source_option second ≡ true → sample_of true word first third fourth ≡ None)
    → (is_source_option third ≡ true → sample_of true word first second fourth ≡ None)
    → (is_source_option fourth ≡ true → sample_of true word first second third ≡ None)
    → text_of word first second third fourth ≡ None
unfolding text_of
no_text word first second third fourth a b c d =
    either_way (is_source_option first) _ _ None a (λ _.
    either_way (is_source_option second) _ _ None b (λ _.
    either_way (is_source_option third) _ _ None c (λ _.
    either_way (is_source_option fourth) _ _ None d (λ _. refl))))

pub no_other_text : (word first second third fourth : List ℕ)
    → is_word word (codes "sample") ≡ false → text_of word first second third fourth ≡ None
no_other_text word first second third fourth other = no_text word first second third fourth
    (λ _. no_sample true word second third fourth other)
    (λ _. no_sample true word first third fourth other)
    (λ _. no_sample true word first second fourth other)
    (λ _. no_sample true word first second third other)

-- ---- inspect

pub no_inspect : (word what font glyph index place : List ℕ)
    → is_word word (codes "inspect") ≡ false → inspect_of word what font glyph index place ≡ None
unfolding inspect_of
no_inspect word what font glyph index place other = rw other refl

pub no_inspect_of : (word what font glyph index place : List ℕ)
    → (is_word what (codes "point") && is_path font) ≡ false
    → inspect_of word what font glyph index place ≡ None
unfolding inspect_of
no_inspect_of word what font glyph index place fails =
    rw (second_fails (is_word word (codes "inspect")) (is_word what (codes "point") && is_path font)
    fails) refl

without_glyph : (font : List ℕ) (index : Option ℕ) (place : List ℕ)
    → inspect_with font None index place ≡ None
without_glyph font index place = refl

without_index : (font : List ℕ) (glyph : Option ℕ) (place : List ℕ)
    → inspect_with font glyph None place ≡ None
without_index font None place = refl
without_index font (Some glyph) place = refl

without_place : (font : List ℕ) (glyph index : Option ℕ) (place : List ℕ)
    → is_place place ≡ false → inspect_with font glyph index place ≡ None
without_place font None index place fails = refl
without_place font (Some glyph) None place fails = refl
without_place font (Some glyph) (Some index) place fails = rw fails refl

inspect_none : (word what font glyph index place : List ℕ)
    → inspect_with font (number_of glyph) (number_of index) place ≡ None
    → inspect_of word what font glyph index place ≡ None
unfolding inspect_of
inspect_none word what font glyph index place none = none_either_way
    (is_word word (codes "inspect") && (is_word what (codes "point") && is_path font)) _ none

pub no_glyph : (word what font glyph index place : List ℕ) → number_of glyph ≡ None
    → inspect_of word what font glyph index place ≡ None
no_glyph word what font glyph index place fails = inspect_none word what font glyph index place
    (ap (λ (g : Option ℕ). inspect_with font g (number_of index) place) fails)

pub no_index : (word what font glyph index place : List ℕ) → number_of index ≡ None
    → inspect_of word what font glyph index place ≡ None
no_index word what font glyph index place fails = inspect_none word what font glyph index place
    (ap (λ (i : Option ℕ). inspect_with font (number_of glyph) i place) fails
    ∙ without_index font (number_of glyph) place)

pub no_place_of : (word what font glyph index place : List ℕ) → is_place place ≡ false
    → inspect_of word what font glyph index place ≡ None
no_place_of word what font glyph index place fails = inspect_none word what font glyph index place
    (without_place font (number_of glyph) (number_of index) place fails)

-- ---- words behind a word that is no name of a command

pub no_name : (word : List ℕ) (rest : List (List ℕ)) → is_word word (codes "build") ≡ false
    → is_word word (codes "inspect") ≡ false → is_word word (codes "sample") ≡ false
    → command_of (word ∷ rest) ≡ None
no_name word [] b i s = refl
no_name word (c ∷ []) b i s = refl
no_name word (c ∷ d ∷ []) b i s = no_build word c d b
no_name word (c ∷ d ∷ e ∷ []) b i s = no_sample false word c d e s
no_name word (c ∷ d ∷ e ∷ f ∷ []) b i s = no_other_text word c d e f s
no_name word (c ∷ d ∷ e ∷ f ∷ g ∷ []) b i s = no_inspect word c d e f g i
no_name word (c ∷ d ∷ e ∷ f ∷ g ∷ h ∷ rest) b i s = refl
