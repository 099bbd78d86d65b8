-- What a source gives, computed a character at a time: its tree, or the refusal of the first
-- character with which it can't go on. Fontc's own. Nobody has to believe it: it computes what
-- Grammar and Refusals say of whole texts, by the law `sources_have_one_answer`.
use Rattle.std.specs.Prelude.{ℕ, ◌+◌, ◌≡◌, Bool, true, false, not, ◌&&◌, ◌||◌, ◌==◌, nat_lt, List}
use Rattle.std.specs.Prelude.{[], ◌∷◌, ◌++◌, length, Option, Some, None, Result, Ok, Err}
use Rattle.std.specs.Prelude.{if◌then◌else◌, encode_utf8}
use Rattle.std.specs.Char.{len_utf8}
use Rattle.std.specs.Str.{is_utf8, chars}
use Rattle.std.specs.Str.Lossy.{utf8_valid_len}
use Rattle.refusal_codes.specs.declared.refusal.Refusal.{Refusal}
use Rattle.refusal_codes.specs.declared.errors.ReadError.{ReadError}
use Rattle.refusal_codes.specs.declared.rule.Rule.{Rule}
use Rattle.refusal_codes.specs.declared.rule.Rule.TheVariants.{NotUtf8, UnexpectedByte}
use Rattle.refusal_codes.specs.declared.rule.Rule.TheVariants.{UnexpectedEnd, BadEscape}
use Rattle.refusal_codes.specs.declared.rule.Rule.TheVariants.{DuplicateKey, TooDeep, TrailingText}
use Rattle.refusal_codes.specs.Gives.{RefusesRead, ◌>>=◌}
use Rattle.plist_reader.specs.declared.tree.Tree.{Tree}
use Rattle.plist_reader.specs.declared.tree.TreeValue.{TreeValue}
use Rattle.plist_reader.specs.declared.tree.TreeValue.TheVariants as tree
use Rattle.plist_reader.specs.declared.reader.Reader.{Reader}
use Rattle.plist_reader.specs.declared.reader.Phase.{Phase}
use Rattle.plist_reader.specs.declared.reader.Phase.TheVariants.{Value, Item, ItemEnd, Key, KeyEnd}
use Rattle.plist_reader.specs.declared.reader.Phase.TheVariants.{PairEnd, End}
use Rattle.plist_reader.specs.declared.reader.Token.{Token}
use Rattle.plist_reader.specs.declared.reader.Token.TheVariants.{Between, Word, Quoted, Escape}
use Rattle.plist_reader.specs.declared.reader.Token.TheVariants.{Bytes, Half}
use Rattle.plist_reader.specs.declared.reader.Open.{Open}
use Rattle.plist_reader.specs.declared.reader.Open.TheVariants.{Items, Pairs}
use Rattle.plist_reader.specs.declared.escape.Escape.TheVariants.{Begun}
use Rattle.plist_reader.specs.declared.escape.Escaped.{Escaped}
use Rattle.plist_reader.specs.declared.escape.Escaped.TheVariants.{More, Whole, Wrong}
use Rattle.plist_reader.specs.Characters.{is_space, is_word, hex_value, byte_of}
use Rattle.plist_reader.specs.Escapes.{escape_next}
use Rattle.plist_reader.specs.Refusals.{refusal}
use Rattle.plist_reader.specs.Keys.{is_among}

-- what a call made of a reader is what the definition gives, unless it refuses or memory ran out
abbrev pub Changes : {X : Type 0} → Result X ReadError → Reader → Result Reader Refusal → Type 0
Changes (Ok x) new definition = definition ≡ Ok new
Changes (Err e) new definition = RefusesRead e definition

-- before the first character a value is awaited
unfoldable pub start : Reader
start = record { nodes = []; brackets = []; phase = Value; token = Between; text = []; bytes = [] }

-- ---- values that end

-- one more value has ended; its number is how many there were
abbrev pub with_node : Reader → ℕ → ℕ → TreeValue → Reader
with_node r place end value = record r {
  nodes = r.nodes
      ++ record { place = place; end = end; value = value } ∷ [];
}

-- where the number of a value goes: into what is open around it
abbrev pub ended_in : Reader → ℕ → List Open → Reader
ended_in r number [] = record r { phase = End number }
ended_in r number (Items place items ∷ outer)
    = record r { brackets = Items place (items ++ number ∷ []) ∷ outer; phase = ItemEnd }
ended_in r number (Pairs d ∷ outer) = record r {
  brackets = Pairs (record d { pairs = d.pairs ++ (d.key, number) ∷ [] })
      ∷ outer;
  phase = PairEnd;
}

unfoldable pub value_ended : Reader → ℕ → ℕ → TreeValue → Reader
value_ended r place end value = ended_in (with_node r place end value) (length r.nodes) r.brackets

-- a key is a value too, and no other key of its dictionary has its text
abbrev pub key_ended_in : Reader → ℕ → ℕ → List ℕ → List Open → Result Reader Refusal
key_ended_in r place end text [] = Err (refusal UnexpectedByte place)
key_ended_in r place end text (Items at items ∷ outer) = Err (refusal UnexpectedByte place)
key_ended_in r place end text (Pairs d ∷ outer)
    = if is_among text d.keys then Err (refusal DuplicateKey place)
    else Ok (record r {
      nodes = r.nodes ++ record { place = place; end = end; value = tree.Text text } ∷ [];
      brackets = Pairs (record d { keys = d.keys ++ text ∷ []; key = length r.nodes }) ∷ outer;
      phase = KeyEnd;
    })

unfoldable pub key_ended : Reader → ℕ → ℕ → List ℕ → Result Reader Refusal
key_ended r place end text = key_ended_in r place end text r.brackets

abbrev pub is_key : Phase → Bool
is_key Key = true
is_key Value = false
is_key Item = false
is_key ItemEnd = false
is_key KeyEnd = false
is_key PairEnd = false
is_key (End number) = false

-- a word or a quoted string has ended
unfoldable pub text_ended : Reader → ℕ → ℕ → Result Reader Refusal
text_ended r place end = let s : Reader = record r { token = Between; text = [] } in
    if is_key r.phase then key_ended s place end r.text else Ok
    (value_ended s place end (tree.Text r.text))

-- ---- refusals

abbrev pub max_depth : ℕ
max_depth = 64

abbrev pub is_end : Phase → Bool
is_end (End number) = true
is_end Value = false
is_end Item = false
is_end ItemEnd = false
is_end Key = false
is_end KeyEnd = false
is_end PairEnd = false

abbrev pub is_bracket : ℕ → Bool
is_bracket c = c == 40 || c == 123

-- why reading stops at a character
unfoldable pub unexpected_rule : Reader → ℕ → Rule
unexpected_rule r c = if is_bracket c && not (nat_lt (length r.brackets) max_depth) then TooDeep
    else (if is_end r.phase then TrailingText else UnexpectedByte)

abbrev pub unexpected : Reader → ℕ → ℕ → Result Reader Refusal
unexpected r place c = Err (refusal (unexpected_rule r c) place)

-- ---- between tokens

-- a word or a quoted string begins
unfoldable pub text_begun : Reader → ℕ → ℕ → Result Reader Refusal
text_begun r place c = if c == 34 then Ok (record r { token = Quoted place })
    else (if is_word c then Ok (record r { token = Word place; text = r.text ++ encode_utf8 c })
    else unexpected r place c)

-- a bracket opens
abbrev pub list_opened : Reader → ℕ → Reader
list_opened r place = record r { brackets = Items place [] ∷ r.brackets; phase = Item }

abbrev pub dictionary_opened : Reader → ℕ → Reader
dictionary_opened r place = record r {
  brackets
      = Pairs (record { place = place; keys = []; pairs = []; key = 0 }) ∷ r.brackets;
  phase = Key;
}

unfoldable pub bracket_opened : Reader → ℕ → ℕ → Result Reader Refusal
bracket_opened r place c = if nat_lt (length r.brackets) max_depth then Ok
    (if c == 40 then list_opened r place else dictionary_opened r place)
    else unexpected r place c

-- a value begins
unfoldable pub value_begun : Reader → ℕ → ℕ → Result Reader Refusal
value_begun r place c = if is_bracket c then bracket_opened r place c
    else (if c == 60 then Ok (record r { token = Bytes place }) else text_begun r place c)

-- a bracket closes
abbrev pub list_closed_in : Reader → ℕ → List Open → Result Reader Refusal
list_closed_in r place [] = Err (refusal UnexpectedByte place)
list_closed_in r place (Pairs d ∷ outer) = Err (refusal UnexpectedByte place)
list_closed_in r place (Items at items ∷ outer)
    = Ok (value_ended (record r { brackets = outer }) at (place + 1) (tree.Items items))

unfoldable pub list_closed : Reader → ℕ → Result Reader Refusal
list_closed r place = list_closed_in r place r.brackets

abbrev pub dictionary_closed_in : Reader → ℕ → List Open → Result Reader Refusal
dictionary_closed_in r place [] = Err (refusal UnexpectedByte place)
dictionary_closed_in r place (Items at items ∷ outer) = Err (refusal UnexpectedByte place)
dictionary_closed_in r place (Pairs d ∷ outer)
    = Ok (value_ended (record r { brackets = outer }) d.place (place + 1) (tree.Pairs d.pairs))

unfoldable pub dictionary_closed : Reader → ℕ → Result Reader Refusal
dictionary_closed r place = dictionary_closed_in r place r.brackets

abbrev pub awaited : Reader → ℕ → ℕ → Phase → Result Reader Refusal
awaited r place c Value = value_begun r place c
awaited r place c Item = if c == 41 then list_closed r place else value_begun r place c
awaited r place c ItemEnd = if c == 41 then list_closed r place else
    (if c == 44 then Ok (record r { phase = Item }) else unexpected r place c)
awaited r place c Key = if c == 125 then dictionary_closed r place else text_begun r place c
awaited r place c KeyEnd = if c == 61 then Ok (record r { phase = Value }) else unexpected r place c
awaited r place c PairEnd = if c == 59 then Ok (record r { phase = Key }) else unexpected r place c
awaited r place c (End number) = unexpected r place c

-- a character between two tokens
unfoldable pub between : Reader → ℕ → ℕ → Result Reader Refusal
between r place c = if is_space c then Ok r else awaited r place c r.phase

-- ---- in a token

-- a word ends at the first character that isn't its own
unfoldable pub in_word : Reader → ℕ → ℕ → ℕ → Result Reader Refusal
in_word r at place c = if is_word c then Ok (record r { text = r.text ++ encode_utf8 c })
    else (text_ended r at place >>= λ s. between s place c)

unfoldable pub in_quoted : Reader → ℕ → ℕ → ℕ → Result Reader Refusal
in_quoted r at place c = if c == 34 then text_ended r at (place + 1)
    else (if c == 92 then Ok (record r { token = Escape at place Begun }) else Ok
    (record r { text = r.text ++ encode_utf8 c }))

abbrev pub after_escape : Reader → ℕ → ℕ → Escaped → Result Reader Refusal
after_escape r at backslash (More escape) = Ok (record r { token = Escape at backslash escape })
after_escape r at backslash (Whole character)
    = Ok (record r { token = Quoted at; text = r.text ++ encode_utf8 character })
after_escape r at backslash Wrong = Err (refusal BadEscape backslash)

abbrev pub after_half : Reader → ℕ → ℕ → ℕ → Option ℕ → Result Reader Refusal
after_half r at place c None = unexpected r place c
after_half r at place c (Some byte) = Ok
    (record r { token = Bytes at; bytes = r.bytes ++ byte ∷ [] })

abbrev pub after_hex : Reader → ℕ → ℕ → ℕ → Option ℕ → Result Reader Refusal
after_hex r at place c None = unexpected r place c
after_hex r at place c (Some digit) = Ok (record r { token = Half at c })

-- two digits make a byte, and white space may stand anywhere
unfoldable pub in_bytes : Reader → ℕ → ℕ → ℕ → Result Reader Refusal
in_bytes r at place c = if is_space c then Ok r
    else (if c == 62 then Ok (value_ended (record r { token = Between; bytes = [] }) at (place + 1)
    (tree.Bytes r.bytes)) else after_hex r at place c (hex_value c))

unfoldable pub in_half : Reader → ℕ → ℕ → ℕ → ℕ → Result Reader Refusal
in_half r at high place c = if is_space c then Ok r else after_half r at place c (byte_of high c)

abbrev pub step_in : Reader → ℕ → ℕ → Token → Result Reader Refusal
step_in r place c Between = between r place c
step_in r place c (Word at) = in_word r at place c
step_in r place c (Quoted at) = in_quoted r at place c
step_in r place c (Escape at backslash escape) = after_escape r at backslash (escape_next escape c)
step_in r place c (Bytes at) = in_bytes r at place c
step_in r place c (Half at high) = in_half r at high place c

-- what a character makes of a reader
unfoldable pub step : Reader → ℕ → ℕ → Result Reader Refusal
step r place c = step_in r place c r.token

-- ---- whole texts

abbrev pub whole_in : Reader → ℕ → Phase → Result Tree Refusal
whole_in r length (End number) = Ok (record { nodes = r.nodes; top = number })
whole_in r length Value = Err (refusal UnexpectedEnd length)
whole_in r length Item = Err (refusal UnexpectedEnd length)
whole_in r length ItemEnd = Err (refusal UnexpectedEnd length)
whole_in r length Key = Err (refusal UnexpectedEnd length)
whole_in r length KeyEnd = Err (refusal UnexpectedEnd length)
whole_in r length PairEnd = Err (refusal UnexpectedEnd length)

unfoldable pub whole : Reader → ℕ → Result Tree Refusal
whole r length = whole_in r length r.phase

-- only a word outside all brackets is ended by the text's end
abbrev pub finish_in : Reader → ℕ → Token → Result Tree Refusal
finish_in r end Between = whole r end
finish_in r end (Word at) = if length r.brackets == 0 then
    (text_ended r at end >>= λ s. whole s end) else Err (refusal UnexpectedEnd end)
finish_in r end (Quoted at) = Err (refusal UnexpectedEnd end)
finish_in r end (Escape at backslash escape) = Err (refusal UnexpectedEnd end)
finish_in r end (Bytes at) = Err (refusal UnexpectedEnd end)
finish_in r end (Half at high) = Err (refusal UnexpectedEnd end)

unfoldable pub finish : Reader → ℕ → Result Tree Refusal
finish r end = finish_in r end r.token

-- what the characters behind a place make of a reader
abbrev pub run : Reader → ℕ → List ℕ → Result Tree Refusal
run r place [] = finish r place
run r place (c ∷ cs) = step r place c >>= λ s. run s (place + len_utf8 c) cs

-- what a source gives: its tree, or the refusal that explains why it has none
unfoldable pub read_of : List ℕ → Result Tree Refusal
read_of source = if is_utf8 source then run start 0 (chars source) else Err
    (refusal NotUtf8 (utf8_valid_len source))
