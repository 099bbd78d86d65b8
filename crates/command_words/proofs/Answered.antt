-- What clap makes of all words: the command that they are, where they are one.
use Rattle.std.proofs.Common.{◌≡◌, ◌⊎◌, Bool, true, false, List, [], ◌∷◌, Option, Some, None}
use Rattle.std.proofs.Common.{fold, is_some, refl, sym, ap, ap₂, ◌∙◌, subst, inl, inr, codes}
use Rattle.std.proofs.Common.{bytes_eq}
use Rattle.std.specs.List.{list_all}
use Rattle.std.specs.Cmp.Lexicographic.{bytes_decides}
use Rattle.clap.specs.Walk.{Names, Text, Walk, idle, finished, nothing_held, settled}
use Rattle.clap.specs.Walk.{subcommand_met, walk, walked}
use Rattle.clap.specs.Simple.{App, built, entered, names_of, subcommand_of}
use Rattle.clap.specs.Kinds.{Kinds, IsAmong, or_else}
use Rattle.clap.specs.Faults.{check_fault, defaults_fault, entered_fault, fault_of, settle_fault}
use Rattle.clap.specs.Faults.{turn_fault, walk_fault}
use Rattle.clap.specs.declared.error.kind.ErrorKind.{ErrorKind}
use Rattle.clap.specs.declared.error.kind.ErrorKind.TheVariants.{UnknownArgument, InvalidSubcommand}
use Rattle.clap.specs.declared.error.kind.ErrorKind.TheVariants.{OutOfMemory}
use Rattle.clap.proofs.OnLiterals.{clap_on_literals}
use Rattle.clap.proofs.WalkLemmas.{walk_stopped}
use Rattle.command_words.specs.Commands.{Command, command_of, is_word, is_path}
use Rattle.command_words.specs.Grammar.{fontc_app, may_be_given}
use Rattle.command_words.specs.Matched.{command_in, build_in, inspect_in, sample_in}
use Rattle.command_words.proofs.Bools.{not_both}
use Rattle.command_words.proofs.Builds.{build_ends, build_shape}
use Rattle.command_words.proofs.Inspects.{inspect_ends, inspect_shape}
use Rattle.command_words.proofs.Nones.{no_name}
use Rattle.command_words.proofs.Samples.{sample_ends, sample_shape}
use Rattle.command_words.proofs.Walks.{AreGiven, are_given, answer, at}
use Rattle.command_words.proofs.Walks.{ends_else, path_turn}

-- ---- the walk over all words

abbrev all : App
all = built fontc_app

abbrev names : Names
names = names_of all

abbrev start : Walk
start = at nothing_held 1

-- the walk once the name of a command has been met, with the words that are left to it
abbrev met : Text → List Text → Walk
met name words = record start { stopped = Some (name, words) }

-- the command of a walk, where these faults were found on the way
abbrev found_by : Kinds → Walk → Option Command
found_by kinds w = answer (or_else kinds (or_else (entered_fault all w.stopped)
    (or_else (settle_fault all.top.rules all.top.args_override_self w.held)
    (or_else (defaults_fault (settled all.top.rules w.held).rows all.top.rules)
    (check_fault all.top (finished all.top.rules w.held) (is_some (entered all w.stopped)))))))
    (command_in (entered all w.stopped))

-- what clap's answer comes to
abbrev pub read : List Text → Option Command
read words = answer (fault_of fontc_app words) (command_in (subcommand_of fontc_app words))

no_more_faults : (name : Text) (seen words : List Text)
    → walk_fault all.top names (met name seen) words ≡ []
unfolding walk_fault walked
no_more_faults name seen [] = refl
no_more_faults name seen (word ∷ words) = no_more_faults name _ words

read_met : (name : Text) (words : List Text) → turn_fault all.top names start name ≡ []
    → walked all.top.rules names start name ≡ met name []
    → read (name ∷ words) ≡ found_by [] (met name words)
unfolding walk_fault
read_met name words fine is = ap₂ found_by
    (ap₂ (λ (kinds : Kinds) (w : Walk). or_else kinds (walk_fault all.top names w words)) fine is
    ∙ no_more_faults name [] words)
    (ap (λ (w : Walk). fold (walked all.top.rules names) w words) is
    ∙ sym (walk_stopped all.top.rules names start name [] words))

read_fault : (word : Text) (words : List Text) (kind : ErrorKind) (kinds : Kinds)
    → turn_fault all.top names start word ≡ kind ∷ kinds → read (word ∷ words) ≡ None
unfolding walk_fault
read_fault word words kind kinds fault = ap (λ (found : Kinds). found_by
    (or_else found (walk_fault all.top names (walked all.top.rules names start word) words))
    (walk all.top.rules names nothing_held (word ∷ words))) fault

-- ---- the first word

read_build : (words : List Text) → AreGiven words
    → read (codes "build" ∷ words) ≡ command_of (codes "build" ∷ words)
unfolding clap_on_literals
read_build words given = read_met (codes "build") words refl refl
    ∙ ends_else build_shape build_in start words ∙ build_ends words given

read_inspect : (words : List Text) → AreGiven words
    → read (codes "inspect" ∷ words) ≡ command_of (codes "inspect" ∷ words)
unfolding clap_on_literals
read_inspect words given = read_met (codes "inspect") words refl refl
    ∙ ends_else inspect_shape inspect_in start words ∙ inspect_ends words given

read_sample : (words : List Text) → AreGiven words
    → read (codes "sample" ∷ words) ≡ command_of (codes "sample" ∷ words)
unfolding clap_on_literals
read_sample words given = read_met (codes "sample") words refl refl
    ∙ ends_else sample_shape sample_in start words ∙ sample_ends words given

read_option : (words : List Text)
    → read (codes "--source" ∷ words) ≡ command_of (codes "--source" ∷ words)
unfolding clap_on_literals
read_option words = read_fault (codes "--source") words UnknownArgument [] refl
    ∙ sym (no_name (codes "--source") words refl refl refl)

differs : (word name : Text) → is_word word name ≡ false → bytes_eq name word ≡ false
differs word name other = by (bytes_eq name word) refl
  where
    by : (b : Bool) → bytes_eq name word ≡ b → b ≡ false
    by false e = refl
    by true e = not_both (is_word word name)
        ((bytes_decides word name).1 (sym ((bytes_decides name word).0 e))) other

none_met : (word : Text) → is_word word (codes "build") ≡ false
    → is_word word (codes "inspect") ≡ false → is_word word (codes "sample") ≡ false
    → subcommand_met names idle word ≡ None
none_met word b i s = simp (
  differs word (codes "build") b,
  differs word (codes "inspect") i,
  differs word (codes "sample") s,
) refl

read_path : (word : Text) (words : List Text) → is_path word ≡ true
    → is_word word (codes "build") ≡ false → is_word word (codes "inspect") ≡ false
    → is_word word (codes "sample") ≡ false → read (word ∷ words) ≡ command_of (word ∷ words)
read_path word words path b i s =
    read_fault word words UnknownArgument (InvalidSubcommand ∷ [])
    (path_turn all.top names nothing_held 1 word path (none_met word b i s))
    ∙ sym (no_name word words b i s)

-- what holds of each name of a command, and of each other word, holds of the word
by_name : (Holds : Text → Type 0) (word : Text) → Holds (codes "build") → Holds (codes "inspect")
    → Holds (codes "sample") → (is_word word (codes "build") ≡ false
    → is_word word (codes "inspect") ≡ false → is_word word (codes "sample") ≡ false → Holds word)
    → Holds word
by_name Holds word build inspect sample other = first (is_word word (codes "build")) refl
  where
    is : (name : Text) → is_word word name ≡ true → Holds name → Holds word
    is name same holds = subst Holds (sym ((bytes_decides word name).0 same)) holds

    third : (b : Bool) → is_word word (codes "build") ≡ false
        → is_word word (codes "inspect") ≡ false → is_word word (codes "sample") ≡ b → Holds word
    third true x y z = is (codes "sample") z sample
    third false x y z = other x y z

    second : (b : Bool) → is_word word (codes "build") ≡ false
        → is_word word (codes "inspect") ≡ b → Holds word
    second true x y = is (codes "inspect") y inspect
    second false x y = third (is_word word (codes "sample")) x y refl

    first : (b : Bool) → is_word word (codes "build") ≡ b → Holds word
    first true x = is (codes "build") x build
    first false x = second (is_word word (codes "inspect")) x refl

read_given : (words : List Text) → AreGiven words → read words ≡ command_of words
unfolding clap_on_literals
read_given [] given = refl
read_given (word ∷ words) given = by_name
    (λ (w : Text). read (w ∷ words) ≡ command_of (w ∷ words)) word
    (read_build words given.1) (read_inspect words given.1) (read_sample words given.1)
    (λ b i s. elim given.0 as (λ _. read (word ∷ words) ≡ command_of (word ∷ words)) [
      | inl path ↦ read_path word words path b i s
      | inr is ↦ subst (λ (w : Text). read (w ∷ words) ≡ command_of (w ∷ words)) (sym is)
          (read_option words)
    ])

-- ---- what a parse says

-- a parse that succeeds found the command
pub found : (words : List Text) → list_all may_be_given words ≡ true
    → fault_of fontc_app words ≡ []
    → command_in (subcommand_of fontc_app words) ≡ command_of words
found words given fine =
    sym (ap (λ (kinds : Kinds). answer kinds (command_in (subcommand_of fontc_app words))) fine)
    ∙ read_given words (are_given words given)

-- one that fails, with memory to be had, found that there is none
pub refused : (words : List Text) (kind : ErrorKind) → list_all may_be_given words ≡ true
    → (kind ≡ OutOfMemory → ⊥) → (kind ≡ OutOfMemory) ⊎ IsAmong kind (fault_of fontc_app words)
    → None ≡ command_of words
refused words kind given other (inl memory) = absurd (other memory)
refused words kind given other (inr fault) =
    sym (by (fault_of fontc_app words) fault) ∙ read_given words (are_given words given)
  where
    by : (kinds : Kinds) → IsAmong kind kinds
        → answer kinds (command_in (subcommand_of fontc_app words)) ≡ None
    by [] among = absurd among
    by (first ∷ kinds) among = refl
