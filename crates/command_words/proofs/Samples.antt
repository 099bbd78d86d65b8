-- `sample` and the words behind it, as clap reads them: paths at `a`, `b`, `c`, and the option.
use Rattle.std.proofs.Common.{◌≡◌, Bool, true, false, List, [], ◌∷◌, Option, None}
use Rattle.std.proofs.Common.{refl, sym, ◌∙◌, subst, codes}
use Rattle.std.specs.Cmp.Lexicographic.{bytes_decides}
use Rattle.clap.specs.Walk.{Text, Walk, nothing_held, walked}
use Rattle.clap.specs.Simple.{Shape, built_leaf, inherited}
use Rattle.clap.specs.declared.error.kind.ErrorKind.TheVariants.{UnknownArgument, ArgumentConflict}
use Rattle.clap.proofs.OnLiterals.{clap_on_literals}
use Rattle.command_words.specs.Commands.{Command, command_of, is_path, is_source_option, sample_of}
use Rattle.command_words.specs.Commands.{text_of, seed_of, glyphs_of}
use Rattle.command_words.specs.Grammar.{program_app, sample_app}
use Rattle.command_words.specs.Matched.{sample_in}
use Rattle.command_words.proofs.Bools.{not_both}
use Rattle.command_words.proofs.Nones.{no_build, no_seed, no_glyphs, no_output, no_text, no_inspect}
use Rattle.command_words.proofs.Nones.{no_number}
use Rattle.command_words.proofs.Walks.{AreGiven, Given, by_word, ends, at, placed, passes, stops}
use Rattle.command_words.proofs.Walks.{path_passes, path_stops}

-- `sample` once it is built
abbrev pub sample_shape : Shape
sample_shape = built_leaf (inherited program_app.top sample_app.top)

abbrev name : Text
name = codes "sample"

abbrev option : Text
option = codes "--source"

-- ---- when the words are no command

no_option : (word : Text) → is_path word ≡ true → is_source_option word ≡ false
no_option word path = by (is_source_option word) refl
  where
    by : (b : Bool) → is_source_option word ≡ b → b ≡ false
    by false e = refl
    by true e = not_both (is_path word) path
        (subst (λ (w : Text). is_path w ≡ false) (sym ((bytes_decides word option).0 e)) refl)

-- the option is no seed, no number of glyphs and no path
seed_fails : seed_of option ≡ None
seed_fails = no_number 0 4294967295 option refl

glyphs_fail : glyphs_of option ≡ None
glyphs_fail = no_number 1 60000 option refl

bad_seed : (of_text : Bool) (b c : Text) → sample_of of_text name option b c ≡ None
bad_seed of_text b c = no_seed of_text name option b c seed_fails

bad_glyphs : (of_text : Bool) (a c : Text) → sample_of of_text name a option c ≡ None
bad_glyphs of_text a c = no_glyphs of_text name a option c glyphs_fail

bad_output : (of_text : Bool) (a b : Text) → sample_of of_text name a b option ≡ None
bad_output of_text a b = no_output of_text name a b option refl

past : (a b c d f : Text) (rest : List Text)
    → command_of (name ∷ a ∷ b ∷ c ∷ d ∷ f ∷ rest) ≡ None
past a b c d f [] = no_inspect name a b c d f refl
past a b c d f (g ∷ rest) = refl

twice_first : (rest : List Text) → command_of (name ∷ option ∷ option ∷ rest) ≡ None
twice_first [] = no_build name option option refl
twice_first (c ∷ []) = bad_seed false option c
twice_first (c ∷ d ∷ []) = no_text name option option c d (λ _. bad_seed true c d)
    (λ _. bad_seed true c d) (λ _. bad_seed true option d) (λ _. bad_seed true option c)
twice_first (c ∷ d ∷ f ∷ rest) = past option option c d f rest

twice_behind_one : (a : Text) (rest : List Text)
    → command_of (name ∷ a ∷ option ∷ option ∷ rest) ≡ None
twice_behind_one a [] = bad_glyphs false a option
twice_behind_one a (d ∷ []) = no_text name a option option d (λ _. bad_seed true option d)
    (λ _. bad_glyphs true a d) (λ _. bad_glyphs true a d) (λ _. bad_glyphs true a option)
twice_behind_one a (d ∷ f ∷ rest) = past a option option d f rest

twice_around_one : (a : Text) (rest : List Text)
    → command_of (name ∷ option ∷ a ∷ option ∷ rest) ≡ None
twice_around_one a [] = bad_seed false a option
twice_around_one a (d ∷ []) = no_text name option a option d (λ _. bad_glyphs true a d)
    (λ _. bad_seed true option d) (λ _. bad_seed true a d) (λ _. bad_seed true a option)
twice_around_one a (d ∷ f ∷ rest) = past option a option d f rest

twice_behind_two : (a b : Text) (rest : List Text)
    → command_of (name ∷ a ∷ b ∷ option ∷ option ∷ rest) ≡ None
twice_behind_two a b [] = no_text name a b option option (λ _. bad_glyphs true b option)
    (λ _. bad_glyphs true a option) (λ _. bad_output true a b) (λ _. bad_output true a b)
twice_behind_two a b (f ∷ rest) = past a b option option f rest

twice_around_second : (a b : Text) (rest : List Text)
    → command_of (name ∷ a ∷ option ∷ b ∷ option ∷ rest) ≡ None
twice_around_second a b [] = no_text name a option b option (λ _. bad_seed true b option)
    (λ _. bad_output true a b) (λ _. bad_glyphs true a option) (λ _. bad_glyphs true a b)
twice_around_second a b (f ∷ rest) = past a option b option f rest

twice_around_two : (a b : Text) (rest : List Text)
    → command_of (name ∷ option ∷ a ∷ b ∷ option ∷ rest) ≡ None
twice_around_two a b [] = no_text name option a b option (λ _. bad_output true a b)
    (λ _. bad_seed true b option) (λ _. bad_seed true a option) (λ _. bad_seed true a b)
twice_around_two a b (f ∷ rest) = past option a b option f rest

four_paths : (a b c d : Text) (rest : List Text) → is_path a ≡ true → is_path b ≡ true
    → is_path c ≡ true → is_path d ≡ true → command_of (name ∷ a ∷ b ∷ c ∷ d ∷ rest) ≡ None
four_paths a b c d [] p q r s = no_text name a b c d
    (λ is. not_both (is_source_option a) is (no_option a p))
    (λ is. not_both (is_source_option b) is (no_option b q))
    (λ is. not_both (is_source_option c) is (no_option c r))
    (λ is. not_both (is_source_option d) is (no_option d s))
four_paths a b c d (f ∷ rest) p q r s = past a b c d f rest

-- ---- the option in each place

option_first : (a b c : Text) → text_of name option a b c ≡ sample_of true name a b c
unfolding text_of
option_first a b c = refl

option_second : (a b c : Text) → is_path a ≡ true
    → text_of name a option b c ≡ sample_of true name a b c
unfolding text_of
option_second a b c p = rw (no_option a p) refl

option_third : (a b c : Text) → is_path a ≡ true → is_path b ≡ true
    → text_of name a b option c ≡ sample_of true name a b c
unfolding text_of
option_third a b c p q = rw (no_option a p, no_option b q) refl

option_fourth : (a b c : Text) → is_path a ≡ true → is_path b ≡ true → is_path c ≡ true
    → text_of name a b c option ≡ sample_of true name a b c
unfolding text_of
option_fourth a b c p q r = rw (no_option a p, no_option b q, no_option c r) refl

-- ---- the walk: the names say what stands behind `sample`, `p` for a path and `o` for the option

abbrev go : Walk → Text → Walk
go w word = placed sample_shape w word

abbrev flag : Walk → Walk
flag w = walked sample_shape.rules [] w option

abbrev none : Walk
none = at nothing_held 1

module _ (w : Walk) (sought : List Text → Option Command) (word : Text) (rest : List Text) where
  each : Given word
      → (is_path word ≡ true
      → ends sample_shape sample_in w (word ∷ rest) ≡ sought (word ∷ rest))
      → ends sample_shape sample_in w (option ∷ rest) ≡ sought (option ∷ rest)
      → ends sample_shape sample_in w (word ∷ rest) ≡ sought (word ∷ rest)
  each given path flagged = by_word
      (λ x. ends sample_shape sample_in w (x ∷ rest) ≡ sought (x ∷ rest)) word given path flagged

behind_pppo : (a b c : Text) (words : List Text)
    → is_path a ≡ true → is_path b ≡ true → is_path c ≡ true → AreGiven words
    → ends sample_shape sample_in (flag (go (go (go none a) b) c)) words
    ≡ command_of (name ∷ a ∷ b ∷ c ∷ option ∷ words)
unfolding ends clap_on_literals
behind_pppo a b c [] p q r given = sym (option_fourth a b c p q r)
behind_pppo a b c (d ∷ rest) p q r given = each (flag (go (go (go none a) b) c))
    (λ words. command_of (name ∷ a ∷ b ∷ c ∷ option ∷ words)) d rest given.0
    (λ path. path_stops sample_shape sample_in (flag (go (go (go none a) b) c)).held 4 d rest
    UnknownArgument [] path refl ∙ sym (past a b c option d rest))
    (stops sample_shape sample_in (flag (go (go (go none a) b) c)) option rest ArgumentConflict []
    refl ∙ sym (past a b c option option rest))

behind_ppop : (a b c : Text) (words : List Text)
    → is_path a ≡ true → is_path b ≡ true → is_path c ≡ true → AreGiven words
    → ends sample_shape sample_in (go (flag (go (go none a) b)) c) words
    ≡ command_of (name ∷ a ∷ b ∷ option ∷ c ∷ words)
unfolding ends clap_on_literals
behind_ppop a b c [] p q r given = sym (option_third a b c p q)
behind_ppop a b c (d ∷ rest) p q r given = each (go (flag (go (go none a) b)) c)
    (λ words. command_of (name ∷ a ∷ b ∷ option ∷ c ∷ words)) d rest given.0
    (λ path. path_stops sample_shape sample_in (go (flag (go (go none a) b)) c).held 4 d rest
    UnknownArgument [] path refl ∙ sym (past a b option c d rest))
    (stops sample_shape sample_in (go (flag (go (go none a) b)) c) option rest ArgumentConflict []
    refl ∙ sym (past a b option c option rest))

behind_popp : (a b c : Text) (words : List Text)
    → is_path a ≡ true → is_path b ≡ true → is_path c ≡ true → AreGiven words
    → ends sample_shape sample_in (go (go (flag (go none a)) b) c) words
    ≡ command_of (name ∷ a ∷ option ∷ b ∷ c ∷ words)
unfolding ends clap_on_literals
behind_popp a b c [] p q r given = sym (option_second a b c p)
behind_popp a b c (d ∷ rest) p q r given = each (go (go (flag (go none a)) b) c)
    (λ words. command_of (name ∷ a ∷ option ∷ b ∷ c ∷ words)) d rest given.0
    (λ path. path_stops sample_shape sample_in (go (go (flag (go none a)) b) c).held 4 d rest
    UnknownArgument [] path refl ∙ sym (past a option b c d rest))
    (stops sample_shape sample_in (go (go (flag (go none a)) b) c) option rest ArgumentConflict []
    refl ∙ sym (past a option b c option rest))

behind_oppp : (a b c : Text) (words : List Text)
    → is_path a ≡ true → is_path b ≡ true → is_path c ≡ true → AreGiven words
    → ends sample_shape sample_in (go (go (go (flag none) a) b) c) words
    ≡ command_of (name ∷ option ∷ a ∷ b ∷ c ∷ words)
unfolding ends clap_on_literals
behind_oppp a b c [] p q r given = sym (option_first a b c)
behind_oppp a b c (d ∷ rest) p q r given = each (go (go (go (flag none) a) b) c)
    (λ words. command_of (name ∷ option ∷ a ∷ b ∷ c ∷ words)) d rest given.0
    (λ path. path_stops sample_shape sample_in (go (go (go (flag none) a) b) c).held 4 d rest
    UnknownArgument [] path refl ∙ sym (past option a b c d rest))
    (stops sample_shape sample_in (go (go (go (flag none) a) b) c) option rest ArgumentConflict []
    refl ∙ sym (past option a b c option rest))

behind_ppp : (a b c : Text) (words : List Text)
    → is_path a ≡ true → is_path b ≡ true → is_path c ≡ true → AreGiven words
    → ends sample_shape sample_in (go (go (go none a) b) c) words
    ≡ command_of (name ∷ a ∷ b ∷ c ∷ words)
unfolding ends clap_on_literals
behind_ppp a b c [] p q r given = refl
behind_ppp a b c (d ∷ rest) p q r given = each (go (go (go none a) b) c)
    (λ words. command_of (name ∷ a ∷ b ∷ c ∷ words)) d rest given.0
    (λ path. path_stops sample_shape sample_in (go (go (go none a) b) c).held 4 d rest
    UnknownArgument [] path refl ∙ sym (four_paths a b c d rest p q r path))
    (passes sample_shape sample_in (go (go (go none a) b) c) option rest
    (flag (go (go (go none a) b) c)) refl refl
    ∙ behind_pppo a b c rest p q r given.1)

behind_ppo : (a b : Text) (words : List Text)
    → is_path a ≡ true → is_path b ≡ true → AreGiven words
    → ends sample_shape sample_in (flag (go (go none a) b)) words
    ≡ command_of (name ∷ a ∷ b ∷ option ∷ words)
unfolding ends clap_on_literals
behind_ppo a b [] p q given = sym (bad_output false a b)
behind_ppo a b (c ∷ rest) p q given = each (flag (go (go none a) b))
    (λ words. command_of (name ∷ a ∷ b ∷ option ∷ words)) c rest given.0
    (λ path. path_passes sample_shape sample_in (flag (go (go none a) b)).held 3 c rest path refl
    ∙ behind_ppop a b c rest p q path given.1)
    (stops sample_shape sample_in (flag (go (go none a) b)) option rest ArgumentConflict []
    refl ∙ sym (twice_behind_two a b rest))

behind_pop : (a b : Text) (words : List Text)
    → is_path a ≡ true → is_path b ≡ true → AreGiven words
    → ends sample_shape sample_in (go (flag (go none a)) b) words
    ≡ command_of (name ∷ a ∷ option ∷ b ∷ words)
unfolding ends clap_on_literals
behind_pop a b [] p q given = sym (bad_glyphs false a b)
behind_pop a b (c ∷ rest) p q given = each (go (flag (go none a)) b)
    (λ words. command_of (name ∷ a ∷ option ∷ b ∷ words)) c rest given.0
    (λ path. path_passes sample_shape sample_in (go (flag (go none a)) b).held 3 c rest path refl
    ∙ behind_popp a b c rest p q path given.1)
    (stops sample_shape sample_in (go (flag (go none a)) b) option rest ArgumentConflict []
    refl ∙ sym (twice_around_second a b rest))

behind_opp : (a b : Text) (words : List Text)
    → is_path a ≡ true → is_path b ≡ true → AreGiven words
    → ends sample_shape sample_in (go (go (flag none) a) b) words
    ≡ command_of (name ∷ option ∷ a ∷ b ∷ words)
unfolding ends clap_on_literals
behind_opp a b [] p q given = sym (bad_seed false a b)
behind_opp a b (c ∷ rest) p q given = each (go (go (flag none) a) b)
    (λ words. command_of (name ∷ option ∷ a ∷ b ∷ words)) c rest given.0
    (λ path. path_passes sample_shape sample_in (go (go (flag none) a) b).held 3 c rest path refl
    ∙ behind_oppp a b c rest p q path given.1)
    (stops sample_shape sample_in (go (go (flag none) a) b) option rest ArgumentConflict []
    refl ∙ sym (twice_around_two a b rest))

behind_pp : (a b : Text) (words : List Text)
    → is_path a ≡ true → is_path b ≡ true → AreGiven words
    → ends sample_shape sample_in (go (go none a) b) words
    ≡ command_of (name ∷ a ∷ b ∷ words)
unfolding ends clap_on_literals
behind_pp a b [] p q given = sym (no_build name a b refl)
behind_pp a b (c ∷ rest) p q given = each (go (go none a) b)
    (λ words. command_of (name ∷ a ∷ b ∷ words)) c rest given.0
    (λ path. path_passes sample_shape sample_in (go (go none a) b).held 3 c rest path refl
    ∙ behind_ppp a b c rest p q path given.1)
    (passes sample_shape sample_in (go (go none a) b) option rest
    (flag (go (go none a) b)) refl refl
    ∙ behind_ppo a b rest p q given.1)

behind_po : (a : Text) (words : List Text)
    → is_path a ≡ true → AreGiven words
    → ends sample_shape sample_in (flag (go none a)) words
    ≡ command_of (name ∷ a ∷ option ∷ words)
unfolding ends clap_on_literals
behind_po a [] p given = sym (no_build name a option refl)
behind_po a (b ∷ rest) p given = each (flag (go none a))
    (λ words. command_of (name ∷ a ∷ option ∷ words)) b rest given.0
    (λ path. path_passes sample_shape sample_in (flag (go none a)).held 2 b rest path refl
    ∙ behind_pop a b rest p path given.1)
    (stops sample_shape sample_in (flag (go none a)) option rest ArgumentConflict []
    refl ∙ sym (twice_behind_one a rest))

behind_op : (a : Text) (words : List Text)
    → is_path a ≡ true → AreGiven words
    → ends sample_shape sample_in (go (flag none) a) words
    ≡ command_of (name ∷ option ∷ a ∷ words)
unfolding ends clap_on_literals
behind_op a [] p given = sym (no_build name option a refl)
behind_op a (b ∷ rest) p given = each (go (flag none) a)
    (λ words. command_of (name ∷ option ∷ a ∷ words)) b rest given.0
    (λ path. path_passes sample_shape sample_in (go (flag none) a).held 2 b rest path refl
    ∙ behind_opp a b rest p path given.1)
    (stops sample_shape sample_in (go (flag none) a) option rest ArgumentConflict []
    refl ∙ sym (twice_around_one a rest))

behind_p : (a : Text) (words : List Text)
    → is_path a ≡ true → AreGiven words
    → ends sample_shape sample_in (go none a) words
    ≡ command_of (name ∷ a ∷ words)
unfolding ends clap_on_literals
behind_p a [] p given = refl
behind_p a (b ∷ rest) p given = each (go none a)
    (λ words. command_of (name ∷ a ∷ words)) b rest given.0
    (λ path. path_passes sample_shape sample_in (go none a).held 2 b rest path refl
    ∙ behind_pp a b rest p path given.1)
    (passes sample_shape sample_in (go none a) option rest
    (flag (go none a)) refl refl
    ∙ behind_po a rest p given.1)

behind_o : (words : List Text) → AreGiven words
    → ends sample_shape sample_in (flag none) words
    ≡ command_of (name ∷ option ∷ words)
unfolding ends clap_on_literals
behind_o [] given = refl
behind_o (a ∷ rest) given = each (flag none)
    (λ words. command_of (name ∷ option ∷ words)) a rest given.0
    (λ path. path_passes sample_shape sample_in (flag none).held 1 a rest path refl
    ∙ behind_op a rest path given.1)
    (stops sample_shape sample_in (flag none) option rest ArgumentConflict []
    refl ∙ sym (twice_first rest))

pub sample_ends : (words : List Text) → AreGiven words
    → ends sample_shape sample_in (at nothing_held 1) words
    ≡ command_of (codes "sample" ∷ words)
unfolding ends clap_on_literals
sample_ends [] given = refl
sample_ends (a ∷ rest) given = each none
    (λ words. command_of (codes "sample" ∷ words)) a rest given.0
    (λ path. path_passes sample_shape sample_in none.held 1 a rest path refl
    ∙ behind_p a rest path given.1)
    (passes sample_shape sample_in none option rest (flag none) refl refl
    ∙ behind_o rest given.1)
