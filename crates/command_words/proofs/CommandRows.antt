-- Which words are a sample's command, computed for some.
use Rattle.std.proofs.Common.{◌≡◌, Some, None, true, false, [], ◌∷◌, refl}
use Rattle.std.specs.Prelude.{codes}
use Rattle.source_values.specs.Decimals.{are_digits, digits_value}
use Rattle.command_words.specs.Commands.{command_of, sampling, sample_of, text_of, number_between}

a_font : command_of (codes "sample" ∷ codes "7" ∷ codes "1" ∷ codes "o" ∷ [])
    ≡ Some (sampling (record { seed = 7; glyphs = 1; output = codes "o"; writes_text = false }))
unfolding are_digits digits_value sample_of number_between
a_font = refl

its_text : command_of (codes "sample" ∷ codes "7" ∷ codes "1" ∷ codes "o" ∷ codes "--source" ∷ [])
    ≡ Some (sampling (record { seed = 7; glyphs = 1; output = codes "o"; writes_text = true }))
unfolding are_digits digits_value sample_of text_of number_between
its_text = refl

the_option_first :
    command_of (codes "sample" ∷ codes "--source" ∷ codes "7" ∷ codes "1" ∷ codes "o" ∷ [])
    ≡ Some (sampling (record { seed = 7; glyphs = 1; output = codes "o"; writes_text = true }))
unfolding are_digits digits_value sample_of text_of number_between
the_option_first = refl

the_option_in_place_of_the_path :
    command_of (codes "sample" ∷ codes "7" ∷ codes "1" ∷ codes "--source" ∷ []) ≡ None
unfolding are_digits digits_value sample_of number_between
the_option_in_place_of_the_path = refl

the_option_twice : command_of (codes "sample" ∷ codes "7" ∷ codes "1" ∷ codes "--source"
    ∷ codes "--source" ∷ []) ≡ None
unfolding are_digits digits_value sample_of text_of number_between
the_option_twice = refl

the_greatest_numbers :
    command_of (codes "sample" ∷ codes "4294967295" ∷ codes "60000" ∷ codes "o" ∷ [])
    ≡ Some (sampling (record {
      seed = 4294967295;
      glyphs = 60000;
      output = codes "o";
      writes_text = false;
    }))
unfolding are_digits digits_value sample_of number_between
the_greatest_numbers = refl

a_greater_seed : command_of (codes "sample" ∷ codes "4294967296" ∷ codes "1" ∷ codes "o" ∷ [])
    ≡ None
unfolding are_digits digits_value sample_of number_between
a_greater_seed = refl

no_glyph : command_of (codes "sample" ∷ codes "7" ∷ codes "0" ∷ codes "o" ∷ []) ≡ None
unfolding are_digits digits_value sample_of number_between
no_glyph = refl

too_many_glyphs : command_of (codes "sample" ∷ codes "7" ∷ codes "60001" ∷ codes "o" ∷ []) ≡ None
unfolding are_digits digits_value sample_of number_between
too_many_glyphs = refl
