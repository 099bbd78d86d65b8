-- The grammar of property lists, over whole texts: which characters spell a value, and which tree
-- that value is. Fontc's own, narrowed from the text form of NeXTSTEP property lists in which
-- Glyphs writes format 3. Texts are lists of characters, each a Unicode scalar value, and places
-- and ends count their bytes in UTF-8.
--
--     text       = spaces value spaces
--     value      = word | string | bytes | list | dictionary
--     string     = " { character | escape } "         any character but " and \
--     bytes      = < { digit spaces digit } >         spaces anywhere inside
--     list       = ( [ value { , value } [ , ] ] )
--     dictionary = { { key = value ; } }              the keys of a dictionary differ
--     key        = word | string
--     word       = one or more visible characters of ASCII but { } ( ) = ; , " ' < > \
--     escape     = \" | \\ | \n | \r | \t | \ and three octal digits up to 177 | \U and four digits
--     digit      = one of 0 to 9, a to f and A to F
--
-- Behind \U and a high surrogate stands \U and a low one, and the two are one character.
--
-- Spaces may stand between any two tokens. At most 64 brackets are open at once.
use Rattle.std.specs.Prelude.{◌≡◌, ℕ, ◌+◌, ◌-◌, ◌*◌, ◌<◌, ◌≤◌, true, false, List, [], ◌∷◌, ◌++◌}
use Rattle.std.specs.Prelude.{length, Some, ◌⊎◌, encode_utf8}
use Rattle.std.specs.List.{AllByRecursion}
use Rattle.std.specs.Char.{IsScalar, len_utf8}
use Rattle.std.specs.Str.{IsUtf8, chars}
use Rattle.plist_reader.specs.declared.tree.Tree.{Tree}
use Rattle.plist_reader.specs.declared.tree.TreeNode.{TreeNode}
use Rattle.plist_reader.specs.declared.tree.TreeValue.{TreeValue}
use Rattle.plist_reader.specs.declared.tree.TreeValue.TheVariants as tree
use Rattle.plist_reader.specs.Characters.{is_space, is_word, octal_value, hex_value}
use Rattle.plist_reader.specs.Keys.{is_among}

-- ---- values

-- A value with the place of its first byte and the place behind its last. A text and a byte string
-- have their bytes.
mutual
  pub data Value : Type 0 where
    Text : (place end : ℕ) → List ℕ → Value
    Bytes : (place end : ℕ) → List ℕ → Value
    Items : (place end : ℕ) → Values → Value
    Pairs : (place end : ℕ) → Entries → Value

  pub data Values : Type 0 where
    NoValues : Values
    AndValue : Value → Values → Values

  -- a key has a place, an end and bytes
  pub data Entries : Type 0 where
    NoEntries : Entries
    AndEntry : (place end : ℕ) → List ℕ → Value → Entries → Entries

-- ---- their numbers: the order in which they end, each behind those in it, and a key before its
-- value

abbrev pub node : ℕ → ℕ → TreeValue → TreeNode
node place end value = record { place = place; end = end; value = value }

-- Where `first` values have ended before: the nodes inside a value, its own node, and the numbers
-- of what is in it.
abbrev mutual
  pub inner_of : Value → ℕ → List TreeNode
  inner_of (Text place end bytes) first = []
  inner_of (Bytes place end bytes) first = []
  inner_of (Items place end items) first = items_nodes items first
  inner_of (Pairs place end entries) first = entries_nodes entries first

  pub own_of : Value → ℕ → TreeNode
  own_of (Text place end bytes) first = node place end (tree.Text bytes)
  own_of (Bytes place end bytes) first = node place end (tree.Bytes bytes)
  own_of (Items place end items) first = node place end (tree.Items (items_numbers items first))
  own_of (Pairs place end entries) first = node place end
      (tree.Pairs (entries_numbers entries first))

  pub items_nodes : Values → ℕ → List TreeNode
  items_nodes NoValues first = []
  items_nodes (AndValue v vs) first = inner_of v first ++ own_of v first
      ∷ items_nodes vs (first + length (inner_of v first) + 1)

  pub items_numbers : Values → ℕ → List ℕ
  items_numbers NoValues first = []
  items_numbers (AndValue v vs) first = (first + length (inner_of v first))
      ∷ items_numbers vs (first + length (inner_of v first) + 1)

  pub entries_nodes : Entries → ℕ → List TreeNode
  entries_nodes NoEntries first = []
  entries_nodes (AndEntry place end key v entries) first = node place end (tree.Text key)
      ∷ (inner_of v (first + 1) ++ own_of v (first + 1)
      ∷ entries_nodes entries (first + 1 + length (inner_of v (first + 1)) + 1))

  pub entries_numbers : Entries → ℕ → List (ℕ × ℕ)
  entries_numbers NoEntries first = []
  entries_numbers (AndEntry place end key v entries) first
      = (first, first + 1 + length (inner_of v (first + 1)))
      ∷ entries_numbers entries (first + 1 + length (inner_of v (first + 1)) + 1)

-- the tree of a whole value
abbrev pub tree_of : Value → Tree
tree_of v = record { nodes = inner_of v 0 ++ own_of v 0 ∷ []; top = length (inner_of v 0) }

-- ---- tokens

-- how many bytes characters take
abbrev pub width : List ℕ → ℕ
width [] = 0
width (c ∷ cs) = len_utf8 c + width cs

abbrev pub AreSpaces : List ℕ → Type 0
AreSpaces cs = AllByRecursion (λ c. is_space c ≡ true) cs

-- a word is not empty, and its bytes are its characters
pub record IsWord (cs bytes : List ℕ) : Type 0 where
  pub some : 0 < length cs
  pub own : AllByRecursion (λ c. is_word c ≡ true) cs
  pub same : bytes ≡ cs

-- four hexadecimal digits, and the unit of UTF-16 that they write
pub record IsUnit (a b c d unit : ℕ) : Type 0 where
  pub first : ℕ
  pub second : ℕ
  pub third : ℕ
  pub fourth : ℕ
  pub first_is : hex_value a ≡ Some first
  pub second_is : hex_value b ≡ Some second
  pub third_is : hex_value c ≡ Some third
  pub fourth_is : hex_value d ≡ Some fourth
  pub unit_is : unit ≡ first * 4096 + second * 256 + third * 16 + fourth

abbrev pub IsHigh : ℕ → Type 0
IsHigh unit = (0xD800 ≤ unit) × (unit < 0xDC00)

abbrev pub IsLow : ℕ → Type 0
IsLow unit = (0xDC00 ≤ unit) × (unit < 0xE000)

-- what stands behind a backslash, and the character that the escape is
pub data IsEscape : List ℕ → ℕ → Type 0 where
  quote : IsEscape (34 ∷ []) 34
  backslash : IsEscape (92 ∷ []) 92
  line_feed : IsEscape (110 ∷ []) 10
  carriage_return : IsEscape (114 ∷ []) 13
  tab : IsEscape (116 ∷ []) 9
  octal : (a b c x y z : ℕ) → octal_value a ≡ Some x → octal_value b ≡ Some y
      → octal_value c ≡ Some z → x * 64 + y * 8 + z < 128
      → IsEscape (a ∷ b ∷ c ∷ []) (x * 64 + y * 8 + z)
  unit : (a b c d u : ℕ) → IsUnit a b c d u → ¬ (IsHigh u) → ¬ (IsLow u)
      → IsEscape (85 ∷ a ∷ b ∷ c ∷ d ∷ []) u
  units : (a b c d e f g h high low : ℕ) → IsUnit a b c d high → IsUnit e f g h low → IsHigh high
      → IsLow low
      → IsEscape (85 ∷ a ∷ b ∷ c ∷ d ∷ 92 ∷ 85 ∷ e ∷ f ∷ g ∷ h ∷ [])
      (0x1_0000 + (high - 0xD800) * 1024 + (low - 0xDC00))

-- what stands between two quotes, and its bytes after escapes are undone
pub data IsQuoted : List ℕ → List ℕ → Type 0 where
  no_more : IsQuoted [] []
  plain : (c : ℕ) (cs bytes : List ℕ) → IsScalar c → ¬ (c ≡ 34) → ¬ (c ≡ 92) → IsQuoted cs bytes
      → IsQuoted (c ∷ cs) (encode_utf8 c ++ bytes)
  escaped : (c : ℕ) (escape cs bytes : List ℕ) → IsEscape escape c → IsQuoted cs bytes
      → IsQuoted (92 ∷ (escape ++ cs)) (encode_utf8 c ++ bytes)

-- a word or a quoted string
abbrev pub IsText : List ℕ → List ℕ → Type 0
IsText cs bytes = IsWord cs bytes ⊎ ((inner : List ℕ) × (cs ≡ 34 ∷ (inner ++ 34 ∷ []))
    × IsQuoted inner bytes)

-- what stands between < and >, and the bytes that it writes
pub data IsHex : List ℕ → List ℕ → Type 0 where
  no_digits : IsHex [] []
  space : (c : ℕ) (cs bytes : List ℕ) → is_space c ≡ true → IsHex cs bytes → IsHex (c ∷ cs) bytes
  digits : (a b x y : ℕ) (gap cs bytes : List ℕ) → hex_value a ≡ Some x → AreSpaces gap
      → hex_value b ≡ Some y → IsHex cs bytes → IsHex (a ∷ (gap ++ b ∷ cs)) ((x * 16 + y) ∷ bytes)

-- ---- lists and dictionaries

-- Behind a value of a list: nothing where it is the last, or a comma and the others.
abbrev pub IsTail : Type 0 → (ℕ → List ℕ → Type 0) → ℕ → List ℕ → Type 0
IsTail last others place tail = (last × (tail ≡ []))
    ⊎ ((rest : List ℕ) × (tail ≡ 44 ∷ rest) × others (place + 1) rest)

-- a value of a list, with spaces around it, and what follows
pub record IsItem (value : ℕ → List ℕ → Type 0) (last : Type 0) (others : ℕ → List ℕ → Type 0)
    (place : ℕ) (cs : List ℕ) : Type 0 where
  pub gap : List ℕ
  pub text : List ℕ
  pub after : List ℕ
  pub tail : List ℕ
  pub parts : cs ≡ gap ++ (text ++ (after ++ tail))
  pub gap_spaces : AreSpaces gap
  pub spelled : value (place + width gap) text
  pub after_spaces : AreSpaces after
  pub followed : IsTail last others (place + width gap + width text + width after) tail

-- an entry of a dictionary, with spaces between its parts, and the entries behind it
pub record IsEntry (key_place key_end : ℕ) (key : List ℕ) (value : ℕ → List ℕ → Type 0)
    (others : ℕ → List ℕ → Type 0) (place : ℕ) (cs : List ℕ) : Type 0 where
  pub gap : List ℕ
  pub key_text : List ℕ
  pub before_sign : List ℕ
  pub behind_sign : List ℕ
  pub text : List ℕ
  pub after : List ℕ
  pub rest : List ℕ
  pub parts : cs ≡ gap ++ (key_text ++ (before_sign ++ 61
      ∷ (behind_sign ++ (text ++ (after ++ 59 ∷ rest)))))
  pub gap_spaces : AreSpaces gap
  pub key_place_is : key_place ≡ place + width gap
  pub key_end_is : key_end ≡ key_place + width key_text
  pub key_spelled : IsText key_text key
  pub before_spaces : AreSpaces before_sign
  pub behind_spaces : AreSpaces behind_sign
  pub spelled : value (key_end + width before_sign + 1 + width behind_sign) text
  pub after_spaces : AreSpaces after
  pub followed : others (key_end + width before_sign + 1 + width behind_sign + width text
      + width after + 1) rest

abbrev pub AreNone : Values → Type 0
AreNone NoValues = Unit {0}
AreNone (AndValue v vs) = ⊥

-- Which characters spell a value at a place, while `depth` brackets are open.
abbrev mutual
  pub Spells : Value → ℕ → ℕ → List ℕ → Type 0
  Spells (Text at end bytes) depth place cs = (at ≡ place) × (end ≡ place + width cs)
      × IsText cs bytes
  Spells (Bytes at end bytes) depth place cs = (at ≡ place) × (end ≡ place + width cs)
      × (inner : List ℕ) × (cs ≡ 60 ∷ (inner ++ 62 ∷ [])) × IsHex inner bytes
  Spells (Items at end items) depth place cs = (at ≡ place) × (end ≡ place + width cs)
      × (depth < 64)
      × (inner : List ℕ) × (cs ≡ 40 ∷ (inner ++ 41 ∷ []))
      × SpellItems items (depth + 1) (place + 1) inner
  Spells (Pairs at end entries) depth place cs = (at ≡ place) × (end ≡ place + width cs)
      × (depth < 64)
      × (inner : List ℕ) × (cs ≡ 123 ∷ (inner ++ 125 ∷ []))
      × SpellEntries entries (depth + 1) [] (place + 1) inner

  -- what stands between ( and )
  pub SpellItems : Values → ℕ → ℕ → List ℕ → Type 0
  SpellItems NoValues depth place cs = AreSpaces cs
  SpellItems (AndValue v vs) depth place cs
      = IsItem (λ p text. Spells v depth p text) (AreNone vs) (λ p rest. SpellItems vs depth p rest)
      place cs

  -- what stands between { and }, behind entries with these keys
  pub SpellEntries : Entries → ℕ → List (List ℕ) → ℕ → List ℕ → Type 0
  SpellEntries NoEntries depth keys place cs = AreSpaces cs
  SpellEntries (AndEntry at end key v entries) depth keys place cs = (is_among key keys ≡ false)
      × IsEntry at end key (λ p text. Spells v depth p text)
      (λ p rest. SpellEntries entries depth (keys ++ key ∷ []) p rest) place cs

-- ---- whole texts

-- a value with spaces around it
pub record IsTextOf (v : Value) (cs : List ℕ) : Type 0 where
  pub gap : List ℕ
  pub text : List ℕ
  pub after : List ℕ
  pub parts : cs ≡ gap ++ (text ++ after)
  pub gap_spaces : AreSpaces gap
  pub spelled : Spells v 0 (width gap) text
  pub after_spaces : AreSpaces after

-- a source is a text in UTF-8, and its value has this tree
pub record HasTree (source : List ℕ) (t : Tree) : Type 0 where
  pub utf8 : IsUtf8 source
  pub value : Value
  pub spelled : IsTextOf value (chars source)
  pub numbered : t ≡ tree_of value
