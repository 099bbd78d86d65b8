-- `build` and the words behind it, as clap reads them.
use Rattle.std.proofs.Common.{◌≡◌, false, List, [], ◌∷◌, None}
use Rattle.std.proofs.Common.{refl, sym, ◌∙◌, codes}
use Rattle.clap.specs.Walk.{Text, Walk, nothing_held}
use Rattle.clap.specs.Simple.{Shape, built_leaf, inherited}
use Rattle.clap.specs.declared.error.kind.ErrorKind.TheVariants.{UnknownArgument}
use Rattle.clap.proofs.OnLiterals.{clap_on_literals}
use Rattle.command_words.specs.Commands.{command_of, is_path}
use Rattle.command_words.specs.Grammar.{program_app, build_app}
use Rattle.command_words.specs.Matched.{build_in}
use Rattle.command_words.proofs.Bools.{second_fails}
use Rattle.command_words.proofs.Nones.{no_build_of, no_sample, no_other_text, no_inspect}
use Rattle.command_words.proofs.Walks.{AreGiven, by_word, ends, at, placed, stops, path_passes}
use Rattle.command_words.proofs.Walks.{path_stops}

-- `build` once it is built
abbrev pub build_shape : Shape
build_shape = built_leaf (inherited program_app.top build_app.top)

abbrev none : Walk
none = at nothing_held 1

abbrev one : Text → Walk
one a = placed build_shape none a

abbrev two : Text → Text → Walk
two a b = placed build_shape (one a) b

more : (a b c : Text) (rest : List Text)
    → command_of (codes "build" ∷ a ∷ b ∷ c ∷ rest) ≡ None
more a b c [] = no_sample false (codes "build") a b c refl
more a b c (d ∷ []) = no_other_text (codes "build") a b c d refl
more a b c (d ∷ e ∷ []) = no_inspect (codes "build") a b c d e refl
more a b c (d ∷ e ∷ f ∷ rest) = refl

option_first : (rest : List Text) → command_of (codes "build" ∷ codes "--source" ∷ rest) ≡ None
option_first [] = refl
option_first (b ∷ []) = no_build_of (codes "build") (codes "--source") b refl
option_first (b ∷ c ∷ rest) = more (codes "--source") b c rest

option_second : (a : Text) (rest : List Text)
    → command_of (codes "build" ∷ a ∷ codes "--source" ∷ rest) ≡ None
option_second a [] = no_build_of (codes "build") a (codes "--source")
    (second_fails (is_path a) (is_path (codes "--source")) refl)
option_second a (c ∷ rest) = more a (codes "--source") c rest

behind_two : (a b : Text) (words : List Text) → AreGiven words
    → ends build_shape build_in (two a b) words ≡ command_of (codes "build" ∷ a ∷ b ∷ words)
unfolding ends clap_on_literals
behind_two a b [] given = refl
behind_two a b (c ∷ rest) given = by_word
    (λ word. ends build_shape build_in (two a b) (word ∷ rest)
    ≡ command_of (codes "build" ∷ a ∷ b ∷ word ∷ rest)) c given.0
    (λ path. path_stops build_shape build_in (two a b).held 3 c rest UnknownArgument [] path refl
    ∙ sym (more a b c rest))
    (stops build_shape build_in (two a b) (codes "--source") rest UnknownArgument [] refl
    ∙ sym (more a b (codes "--source") rest))

behind_one : (a : Text) (words : List Text) → AreGiven words
    → ends build_shape build_in (one a) words ≡ command_of (codes "build" ∷ a ∷ words)
unfolding ends clap_on_literals
behind_one a [] given = refl
behind_one a (b ∷ rest) given = by_word
    (λ word. ends build_shape build_in (one a) (word ∷ rest)
    ≡ command_of (codes "build" ∷ a ∷ word ∷ rest)) b given.0
    (λ path. path_passes build_shape build_in (one a).held 2 b rest path refl
    ∙ behind_two a b rest given.1)
    (stops build_shape build_in (one a) (codes "--source") rest UnknownArgument [] refl
    ∙ sym (option_second a rest))

pub build_ends : (words : List Text) → AreGiven words
    → ends build_shape build_in (at nothing_held 1) words ≡ command_of (codes "build" ∷ words)
unfolding ends clap_on_literals
build_ends [] given = refl
build_ends (a ∷ rest) given = by_word
    (λ word. ends build_shape build_in none (word ∷ rest)
    ≡ command_of (codes "build" ∷ word ∷ rest)) a given.0
    (λ path. path_passes build_shape build_in nothing_held 1 a rest path refl
    ∙ behind_one a rest given.1)
    (stops build_shape build_in none (codes "--source") rest UnknownArgument [] refl
    ∙ sym (option_first rest))
