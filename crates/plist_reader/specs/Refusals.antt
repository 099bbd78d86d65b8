-- Why a source without a tree is refused, over whole texts: reading stops behind the longest front,
-- or prefix, of the text with which some text with a tree begins. Fontc's own.
use Rattle.std.specs.Prelude.{◌≡◌, ℕ, ◌+◌, ◌<◌, ◌≤◌, Bool, true, false, ◌&&◌, ◌==◌, nat_lt}
use Rattle.std.specs.Prelude.{if◌then◌else◌, List, [], ◌∷◌, ◌++◌, length, take, Some, ◌⊎◌}
use Rattle.std.specs.List.{list_any}
use Rattle.std.specs.Str.{IsUtf8, chars}
use Rattle.std.specs.Str.Lossy.{utf8_valid_len}
use Rattle.refusal_codes.specs.declared.refusal.Refusal.{Refusal}
use Rattle.refusal_codes.specs.declared.errors.ReadError.{ReadError}
use Rattle.refusal_codes.specs.declared.errors.ReadError.TheVariants as read_errors
use Rattle.refusal_codes.specs.declared.job.TheConstants.{TREE}
use Rattle.refusal_codes.specs.First.{refusal_of}
use Rattle.refusal_codes.specs.declared.rule.Rule.{Rule}
use Rattle.refusal_codes.specs.declared.rule.Rule.TheVariants.{NotUtf8, UnexpectedByte}
use Rattle.refusal_codes.specs.declared.rule.Rule.TheVariants.{UnexpectedEnd, BadEscape}
use Rattle.refusal_codes.specs.declared.rule.Rule.TheVariants.{DuplicateKey, TooDeep, TrailingText}
use Rattle.plist_reader.specs.declared.tree.Tree.{Tree}
use Rattle.plist_reader.specs.declared.tree.TreeNode.{TreeNode}
use Rattle.plist_reader.specs.declared.tree.TreeValue.{TreeValue}
use Rattle.plist_reader.specs.declared.tree.TreeValue.TheVariants as tree
use Rattle.plist_reader.specs.Grammar.{Value, node, width, IsWord, IsEscape, IsQuoted, IsTextOf}
use Rattle.plist_reader.specs.Grammar.{tree_of}
use Rattle.plist_reader.specs.Characters.{is_word}
use Rattle.plist_reader.specs.Tree.{node_at, is_key}

-- the refusal of a property list; it is found by the first of all jobs
abbrev pub refusal : Rule → ℕ → Refusal
refusal rule place = refusal_of TREE [] (record { rule = rule; place = place })

-- some text with a tree begins with these characters
abbrev pub CanGoOn : List ℕ → Type 0
CanGoOn front = (rest : List ℕ) × (v : Value) × IsTextOf v (front ++ rest)

-- a whole text
abbrev pub IsWhole : List ℕ → Type 0
IsWhole front = (v : Value) × IsTextOf v front

-- the longest front of a text with which some text with a tree begins: with the next character none
-- does
pub record IsLongest (front : List ℕ) (c : ℕ) : Type 0 where
  pub goes_on : CanGoOn front
  pub no_more : ¬ (CanGoOn (front ++ c ∷ []))

-- two sources begin with the same bytes, this many
abbrev pub AgreeInBytes : ℕ → List ℕ → List ℕ → Type 0
AgreeInBytes n xs ys = (n ≤ length xs) × (n ≤ length ys) × (take n xs ≡ take n ys)

-- ---- what is open at the end of a front

abbrev pub is_container : TreeValue → Bool
is_container (tree.Text text) = false
is_container (tree.Bytes bytes) = false
is_container (tree.Items items) = true
is_container (tree.Pairs pairs) = true

-- a list or dictionary that begins in front of a place and ends behind it
abbrev pub is_open_at : ℕ → TreeNode → Bool
is_open_at place node = is_container node.value && nat_lt node.place place && nat_lt place node.end

abbrev pub open_at : ℕ → List TreeNode → ℕ
open_at place [] = 0
open_at place (node ∷ nodes) = (if is_open_at place node then 1 else 0) + open_at place nodes

-- how many brackets are open at the end of a front, in each text with a tree that begins so
abbrev pub IsDeep : List ℕ → ℕ → Type 0
IsDeep front depth = (rest : List ℕ) (v : Value) → IsTextOf v (front ++ rest)
    → open_at (width front) (tree_of v).nodes ≡ depth

abbrev pub is_text : TreeValue → Bool
is_text (tree.Text text) = true
is_text (tree.Bytes bytes) = false
is_text (tree.Items items) = false
is_text (tree.Pairs pairs) = false

-- how many words and strings of a tree begin at a place
abbrev pub texts_at : ℕ → List TreeNode → ℕ
texts_at place [] = 0
texts_at place (node ∷ nodes) = (if is_text node.value && node.place == place then 1 else 0)
    + texts_at place nodes

-- a word or a string begins behind some first characters of a front, in each text with a tree that
-- begins so
abbrev pub HasText : List ℕ → List ℕ → Type 0
HasText front before = (rest : List ℕ) (v : Value) → IsTextOf v (front ++ rest)
    → 0 < texts_at (width before) (tree_of v).nodes

abbrev pub IsBracket : ℕ → Type 0
IsBracket c = (c ≡ 40) ⊎ (c ≡ 123)

-- a bracket that makes depth 65
abbrev pub IsTooDeep : List ℕ → ℕ → Type 0
IsTooDeep front c = IsBracket c × IsDeep front 64

-- A front that ends in an escape, which has begun at a place and isn't whole: in front of it stand
-- a quote and, to the backslash, whole characters and escapes, and the quote begins a string.
pub record IsInEscape (front : List ℕ) (place : ℕ) : Type 0 where
  pub before : List ℕ
  pub inner : List ℕ
  pub bytes : List ℕ
  pub escape : List ℕ
  pub more : List ℕ
  pub character : ℕ
  pub parts : front ≡ (before ++ 34 ∷ inner) ++ 92 ∷ escape
  pub place_is : place ≡ width (before ++ 34 ∷ inner)
  pub string : HasText front before
  pub quoted : IsQuoted inner bytes
  pub unfinished : 0 < length more
  pub known : IsEscape (escape ++ more) character

abbrev pub NotInEscape : List ℕ → Type 0
NotInEscape front = (place : ℕ) → ¬ (IsInEscape front place)

-- a word that a character ends, or a quoted string that it closes: so much of it as stands in
-- front, and its bytes
abbrev pub EndsText : List ℕ → ℕ → List ℕ → Type 0
EndsText cs c bytes = (IsWord cs bytes × (is_word c ≡ false))
    ⊎ ((c ≡ 34) × (inner : List ℕ) × (cs ≡ 34 ∷ inner) × IsQuoted inner bytes)

-- A dictionary of a tree has a key with these bytes, and behind it one that begins at a place.
pub record IsKeyBehind (key : List ℕ) (place : ℕ) (t : Tree) : Type 0 where
  pub dictionary : ℕ
  pub begin : ℕ
  pub end : ℕ
  pub earlier : List (ℕ × ℕ)
  pub number : ℕ
  pub value : ℕ
  pub later : List (ℕ × ℕ)
  pub own : TreeNode
  pub dictionary_is : node_at t dictionary
      ≡ Some (node begin end (tree.Pairs (earlier ++ (number, value) ∷ later)))
  pub known : list_any (λ pair. is_key t key pair.0) earlier ≡ true
  pub own_is : node_at t number ≡ Some own
  pub place_is : own.place ≡ place

-- A front that ends in a key which begins at a place, and which the next character ends, where its
-- dictionary has that key already: in a text with a tree that begins with the front, where the key
-- goes on to be another, it stands behind a key with its bytes.
pub record IsTwice (front : List ℕ) (c place : ℕ) : Type 0 where
  pub before : List ℕ
  pub text : List ℕ
  pub key : List ℕ
  pub rest : List ℕ
  pub other : Value
  pub parts : front ≡ before ++ text
  pub place_is : place ≡ width before
  pub ended : EndsText text c key
  pub goes_on : IsTextOf other (front ++ rest)
  pub behind : IsKeyBehind key place (tree_of other)

abbrev pub NotTwice : List ℕ → ℕ → Type 0
NotTwice front c = (place : ℕ) → ¬ (IsTwice front c place)

-- Why no text with a tree begins with a front and this character: the first of these cases that
-- holds.
pub data IsExplained (front : List ℕ) (c : ℕ) : Refusal → Type 0 where
  bad_escape : (place : ℕ) → IsInEscape front place → IsExplained front c (refusal BadEscape place)
  twice : (place : ℕ) → NotInEscape front → IsTwice front c place
      → IsExplained front c (refusal DuplicateKey place)
  too_deep : NotInEscape front → NotTwice front c → IsTooDeep front c
      → IsExplained front c (refusal TooDeep (width front))
  trailing : NotInEscape front → NotTwice front c → ¬ (IsTooDeep front c) → IsWhole front
      → IsExplained front c (refusal TrailingText (width front))
  unexpected : NotInEscape front → NotTwice front c → ¬ (IsTooDeep front c) → ¬ (IsWhole front)
      → IsExplained front c (refusal UnexpectedByte (width front))

-- why reading stops behind a front: the text ends there and could go on, or the front is the
-- longest that can
abbrev pub IsReason : List ℕ → List ℕ → Refusal → Type 0
IsReason front [] r = CanGoOn front × (¬ (IsWhole front))
    × (r ≡ refusal UnexpectedEnd (width front))
IsReason front (c ∷ cs) r = IsLongest front c × IsExplained front c r

-- a text is a front and what is left behind it, and this is why reading stops between them
pub record StopsIn (cs : List ℕ) (r : Refusal) : Type 0 where
  pub front : List ℕ
  pub rest : List ℕ
  pub parts : cs ≡ front ++ rest
  pub reason : IsReason front rest r

-- a refusal of this source
abbrev pub IsRefusal : List ℕ → Refusal → Type 0
IsRefusal source r = ((¬ (IsUtf8 source)) × (r ≡ refusal NotUtf8 (utf8_valid_len source)))
    ⊎ (IsUtf8 source × StopsIn (chars source) r)

-- an error is a refusal of the source, or want of memory
abbrev pub IsErrorOf : List ℕ → ReadError → Type 0
IsErrorOf source (read_errors.Refused r) = IsRefusal source r
IsErrorOf source read_errors.NoMemory = Unit {0}
