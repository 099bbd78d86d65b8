-- `inspect` and the words behind it, as clap reads them.
use Rattle.std.proofs.Common.{◌≡◌, true, false, List, [], ◌∷◌, Option, None}
use Rattle.std.proofs.Common.{refl, sym, ◌∙◌, codes}
use Rattle.clap.specs.Walk.{Text, Walk, nothing_held}
use Rattle.clap.specs.Simple.{Shape, built_leaf, inherited}
use Rattle.clap.specs.declared.error.kind.ErrorKind.TheVariants.{UnknownArgument}
use Rattle.clap.proofs.OnLiterals.{clap_on_literals}
use Rattle.command_words.specs.Commands.{Command, command_of, is_word, is_path}
use Rattle.command_words.specs.Grammar.{program_app, inspect_app}
use Rattle.command_words.specs.Matched.{inspect_in}
use Rattle.command_words.proofs.Bools.{second_fails}
use Rattle.command_words.proofs.Nones.{no_build, no_sample, no_other_text, no_inspect_of, no_glyph}
use Rattle.command_words.proofs.Nones.{no_index, no_place_of, no_number, no_place}
use Rattle.command_words.proofs.Walks.{AreGiven, Given, by_word, ends, at, placed, stops}
use Rattle.command_words.proofs.Walks.{path_passes, path_stops}

-- `inspect` once it is built
abbrev pub inspect_shape : Shape
inspect_shape = built_leaf (inherited program_app.top inspect_app.top)

abbrev name : Text
name = codes "inspect"

abbrev option : Text
option = codes "--source"

abbrev none : Walk
none = at nothing_held 1

abbrev one : Text → Walk
one a = placed inspect_shape none a

abbrev two : Text → Text → Walk
two a b = placed inspect_shape (one a) b

abbrev three : Text → Text → Text → Walk
three a b c = placed inspect_shape (two a b) c

abbrev four : Text → Text → Text → Text → Walk
four a b c d = placed inspect_shape (three a b c) d

abbrev five : Text → Text → Text → Text → Text → Walk
five a b c d f = placed inspect_shape (four a b c d) f

-- ---- with an option the words are no command

option_first : (rest : List Text) → command_of (name ∷ option ∷ rest) ≡ None
option_first [] = refl
option_first (b ∷ []) = no_build name option b refl
option_first (b ∷ c ∷ []) = no_sample false name option b c refl
option_first (b ∷ c ∷ d ∷ []) = no_other_text name option b c d refl
option_first (b ∷ c ∷ d ∷ f ∷ []) = no_inspect_of name option b c d f refl
option_first (b ∷ c ∷ d ∷ f ∷ g ∷ rest) = refl

option_second : (a : Text) (rest : List Text) → command_of (name ∷ a ∷ option ∷ rest) ≡ None
option_second a [] = no_build name a option refl
option_second a (c ∷ []) = no_sample false name a option c refl
option_second a (c ∷ d ∷ []) = no_other_text name a option c d refl
option_second a (c ∷ d ∷ f ∷ []) = no_inspect_of name a option c d f
    (second_fails (is_word a (codes "point")) (is_path option) refl)
option_second a (c ∷ d ∷ f ∷ g ∷ rest) = refl

option_third : (a b : Text) (rest : List Text)
    → command_of (name ∷ a ∷ b ∷ option ∷ rest) ≡ None
option_third a b [] = no_sample false name a b option refl
option_third a b (d ∷ []) = no_other_text name a b option d refl
option_third a b (d ∷ f ∷ []) = no_glyph name a b option d f (no_number 0 65535 option refl)
option_third a b (d ∷ f ∷ g ∷ rest) = refl

option_fourth : (a b c : Text) (rest : List Text)
    → command_of (name ∷ a ∷ b ∷ c ∷ option ∷ rest) ≡ None
option_fourth a b c [] = no_other_text name a b c option refl
option_fourth a b c (f ∷ []) = no_index name a b c option f (no_number 0 65535 option refl)
option_fourth a b c (f ∷ g ∷ rest) = refl

option_fifth : (a b c d : Text) (rest : List Text)
    → command_of (name ∷ a ∷ b ∷ c ∷ d ∷ option ∷ rest) ≡ None
option_fifth a b c d [] = no_place_of name a b c d option (no_place option refl)
option_fifth a b c d (g ∷ rest) = refl

-- ---- the walk

module _ (w : Walk) (sought : List Text → Option Command) (word : Text) (rest : List Text) where
  unknown : Given word
      → (is_path word ≡ true
      → ends inspect_shape inspect_in w (word ∷ rest) ≡ sought (word ∷ rest))
      → ends inspect_shape inspect_in w (option ∷ rest) ≡ None → sought (option ∷ rest) ≡ None
      → ends inspect_shape inspect_in w (word ∷ rest) ≡ sought (word ∷ rest)
  unknown given path stopped other = by_word
      (λ x. ends inspect_shape inspect_in w (x ∷ rest) ≡ sought (x ∷ rest)) word given path
      (stopped ∙ sym other)

behind_five : (a b c d f : Text) (words : List Text) → AreGiven words
    → ends inspect_shape inspect_in (five a b c d f) words
    ≡ command_of (name ∷ a ∷ b ∷ c ∷ d ∷ f ∷ words)
unfolding ends clap_on_literals
behind_five a b c d f [] given = refl
behind_five a b c d f (g ∷ rest) given = unknown (five a b c d f)
    (λ words. command_of (name ∷ a ∷ b ∷ c ∷ d ∷ f ∷ words)) g rest given.0
    (λ path. path_stops inspect_shape inspect_in (five a b c d f).held 6 g rest UnknownArgument []
    path refl)
    (stops inspect_shape inspect_in (five a b c d f) option rest UnknownArgument [] refl) refl

behind_four : (a b c d : Text) (words : List Text) → AreGiven words
    → ends inspect_shape inspect_in (four a b c d) words
    ≡ command_of (name ∷ a ∷ b ∷ c ∷ d ∷ words)
unfolding ends clap_on_literals
behind_four a b c d [] given = sym (no_other_text name a b c d refl)
behind_four a b c d (f ∷ rest) given = unknown (four a b c d)
    (λ words. command_of (name ∷ a ∷ b ∷ c ∷ d ∷ words)) f rest given.0
    (λ path. path_passes inspect_shape inspect_in (four a b c d).held 5 f rest path refl
    ∙ behind_five a b c d f rest given.1)
    (stops inspect_shape inspect_in (four a b c d) option rest UnknownArgument [] refl)
    (option_fifth a b c d rest)

behind_three : (a b c : Text) (words : List Text) → AreGiven words
    → ends inspect_shape inspect_in (three a b c) words
    ≡ command_of (name ∷ a ∷ b ∷ c ∷ words)
unfolding ends clap_on_literals
behind_three a b c [] given = sym (no_sample false name a b c refl)
behind_three a b c (d ∷ rest) given = unknown (three a b c)
    (λ words. command_of (name ∷ a ∷ b ∷ c ∷ words)) d rest given.0
    (λ path. path_passes inspect_shape inspect_in (three a b c).held 4 d rest path refl
    ∙ behind_four a b c d rest given.1)
    (stops inspect_shape inspect_in (three a b c) option rest UnknownArgument [] refl)
    (option_fourth a b c rest)

behind_two : (a b : Text) (words : List Text) → AreGiven words
    → ends inspect_shape inspect_in (two a b) words ≡ command_of (name ∷ a ∷ b ∷ words)
unfolding ends clap_on_literals
behind_two a b [] given = sym (no_build name a b refl)
behind_two a b (c ∷ rest) given = unknown (two a b)
    (λ words. command_of (name ∷ a ∷ b ∷ words)) c rest given.0
    (λ path. path_passes inspect_shape inspect_in (two a b).held 3 c rest path refl
    ∙ behind_three a b c rest given.1)
    (stops inspect_shape inspect_in (two a b) option rest UnknownArgument [] refl)
    (option_third a b rest)

behind_one : (a : Text) (words : List Text) → AreGiven words
    → ends inspect_shape inspect_in (one a) words ≡ command_of (name ∷ a ∷ words)
unfolding ends clap_on_literals
behind_one a [] given = refl
behind_one a (b ∷ rest) given = unknown (one a) (λ words. command_of (name ∷ a ∷ words)) b rest
    given.0
    (λ path. path_passes inspect_shape inspect_in (one a).held 2 b rest path refl
    ∙ behind_two a b rest given.1)
    (stops inspect_shape inspect_in (one a) option rest UnknownArgument [] refl)
    (option_second a rest)

pub inspect_ends : (words : List Text) → AreGiven words
    → ends inspect_shape inspect_in (at nothing_held 1) words ≡ command_of (codes "inspect" ∷ words)
unfolding ends clap_on_literals
inspect_ends [] given = refl
inspect_ends (a ∷ rest) given = unknown none (λ words. command_of (name ∷ words)) a rest given.0
    (λ path. path_passes inspect_shape inspect_in nothing_held 1 a rest path refl
    ∙ behind_one a rest given.1)
    (stops inspect_shape inspect_in none option rest UnknownArgument [] refl)
    (option_first rest)
