-- What clap makes of the words behind the name of a command, one word after the other.
use Rattle.std.proofs.Common.{◌≡◌, ◌⊎◌, ℕ, Bool, true, false, ◌==◌, List, [], ◌∷◌, Option}
use Rattle.std.proofs.Common.{None, fold, refl, sym, ap, ap₂, ◌∙◌, subst, inl, inr, codes, ◌||◌}
use Rattle.std.specs.List.{list_all}
use Rattle.std.specs.Option.{option_map_or}
use Rattle.std.specs.Cmp.Lexicographic.{bytes_decides}
use Rattle.clap.specs.Walk.{Held, Names, Row, Text, Walk, idle, arg_by_index, finished, settled}
use Rattle.clap.specs.Walk.{subcommand_met, to_positional, walked}
use Rattle.clap.specs.Simple.{Shape}
use Rattle.clap.specs.Kinds.{Kinds, or_else}
use Rattle.clap.specs.Faults.{check_fault, defaults_fault, positional_fault, settle_fault}
use Rattle.clap.specs.Faults.{stray_fault, turn_fault, walk_fault}
use Rattle.clap.specs.declared.error.kind.ErrorKind.{ErrorKind}
use Rattle.command_words.specs.Commands.{Command, is_path, is_source_option}
use Rattle.command_words.specs.Grammar.{may_be_given}
use Rattle.command_words.proofs.Bools.{and_true, of_not}

-- a word is a path or the option
abbrev pub Given : Text → Type 0
Given word = (is_path word ≡ true) ⊎ (word ≡ codes "--source")

abbrev pub AreGiven : List Text → Type 0
AreGiven [] = Unit {0}
AreGiven (word ∷ words) = Given word × AreGiven words

given_word : (word : Text) → may_be_given word ≡ true → Given word
given_word word given = by (is_path word) refl given
  where
    by : (b : Bool) → is_path word ≡ b → (b || is_source_option word) ≡ true → Given word
    by true path e = inl path
    by false hyphen e = inr ((bytes_decides word (codes "--source")).0 e)

pub are_given : (words : List Text) → list_all may_be_given words ≡ true → AreGiven words
are_given [] e = tt
are_given (word ∷ words) e =
    let two = and_true (may_be_given word) (list_all may_be_given words) e in
    (given_word word two.0, are_given words two.1)

-- what holds of each path and of the option holds of the word
pub by_word : (Holds : Text → Type 0) (word : Text) → Given word
    → (is_path word ≡ true → Holds word) → Holds (codes "--source") → Holds word
by_word Holds word (inl path) paths option = paths path
by_word Holds word (inr is) paths option = subst Holds (sym is) option

-- where no fault came, the command that was found
abbrev pub answer : Kinds → Option Command → Option Command
answer [] command = command
answer (kind ∷ kinds) command = None

answer_else : (kinds : Kinds) (command : Option Command)
    → answer (or_else kinds []) command ≡ answer kinds command
answer_else [] command = refl
answer_else (kind ∷ kinds) command = refl

abbrev pub end_of : Shape → Walk → List Text → Held
end_of s w words = (fold (walked s.rules []) w words).held

-- the faults that are found behind all words
abbrev pub late_fault : Shape → Held → Kinds
late_fault s end = or_else (settle_fault s.rules s.args_override_self end)
    (or_else (defaults_fault (settled s.rules end).rows s.rules)
    (check_fault s (finished s.rules end) false))

-- the command that is found where the words that are left are these
unfoldable pub ends : Shape → (List Row → Option Command) → Walk → List Text → Option Command
ends s read w words = answer (or_else (walk_fault s [] w words) (late_fault s (end_of s w words)))
    (read (finished s.rules (end_of s w words)))

-- where a walk stands that waits for nothing
abbrev pub at : Held → ℕ → Walk
at h position = record {
  held = h;
  waiting = idle;
  position = position;
  is_trailing = false;
  stopped = None;
}

-- the walk behind a path
abbrev pub placed : Shape → Walk → Text → Walk
placed s w word = to_positional s.rules (arg_by_index s.rules w.position) word w w.held

-- the faults of a path
abbrev pub place_fault : Shape → Held → ℕ → Kinds
place_fault s h position =
    option_map_or (λ a. positional_fault s.rules s.args_override_self a h)
    (arg_by_index s.rules position) (stray_fault s)

not_hyphen : (byte : ℕ) (bytes : Text) → is_path (byte ∷ bytes) ≡ true → (byte == 45) ≡ false
not_hyphen byte bytes path = of_not (byte == 45) path

-- a path that is no name of a command goes to the next place
pub path_turn : (s : Shape) (names : Names) (h : Held) (position : ℕ) (word : Text)
    → is_path word ≡ true → subcommand_met names idle word ≡ None
    → turn_fault s names (at h position) word ≡ place_fault s h position
path_turn s names h position [] path other = rw other refl
path_turn s names h position (byte ∷ bytes) path other =
    simp (other, not_hyphen byte bytes path) refl

path_walked : (s : Shape) (h : Held) (position : ℕ) (word : Text) → is_path word ≡ true
    → walked s.rules [] (at h position) word ≡ placed s (at h position) word
unfolding walked
path_walked s h position [] path = refl
path_walked s h position (byte ∷ bytes) path = simp (not_hyphen byte bytes path) refl

module _ (s : Shape) (read : List Row → Option Command) where
  pub ends_else : (w : Walk) (words : List Text)
      → answer (or_else (or_else (walk_fault s [] w words) (late_fault s (end_of s w words))) [])
      (read (finished s.rules (end_of s w words))) ≡ ends s read w words
  unfolding ends
  ends_else w words = answer_else (or_else (walk_fault s [] w words)
      (late_fault s (end_of s w words))) (read (finished s.rules (end_of s w words)))

  -- a word without a fault
  pub passes : (w : Walk) (word : Text) (rest : List Text) (next : Walk)
      → turn_fault s [] w word ≡ [] → walked s.rules [] w word ≡ next
      → ends s read w (word ∷ rest) ≡ ends s read next rest
  unfolding ends walk_fault
  passes w word rest next fine is = ap₂ (λ (kinds : Kinds) (v : Walk).
      answer (or_else (or_else kinds (walk_fault s [] v rest)) (late_fault s (end_of s v rest)))
      (read (finished s.rules (end_of s v rest)))) fine is

  -- a word with a fault
  pub stops : (w : Walk) (word : Text) (rest : List Text) (kind : ErrorKind) (kinds : Kinds)
      → turn_fault s [] w word ≡ kind ∷ kinds → ends s read w (word ∷ rest) ≡ None
  unfolding ends walk_fault
  stops w word rest kind kinds fault = ap (λ (found : Kinds).
      answer (or_else (or_else found (walk_fault s [] (walked s.rules [] w word) rest))
      (late_fault s (end_of s w (word ∷ rest))))
      (read (finished s.rules (end_of s w (word ∷ rest))))) fault

  pub path_passes : (h : Held) (position : ℕ) (word : Text) (rest : List Text)
      → is_path word ≡ true → place_fault s h position ≡ []
      → ends s read (at h position) (word ∷ rest)
      ≡ ends s read (placed s (at h position) word) rest
  path_passes h position word rest path fine =
      passes (at h position) word rest (placed s (at h position) word)
      (path_turn s [] h position word path refl ∙ fine) (path_walked s h position word path)

  pub path_stops : (h : Held) (position : ℕ) (word : Text) (rest : List Text) (kind : ErrorKind)
      (kinds : Kinds) → is_path word ≡ true → place_fault s h position ≡ kind ∷ kinds
      → ends s read (at h position) (word ∷ rest) ≡ None
  path_stops h position word rest kind kinds path fault =
      stops (at h position) word rest kind kinds
      (path_turn s [] h position word path refl ∙ fault)
