-- Worked examples, computed: texts with their refusals, and texts with their trees. Another
-- program, a recursive descent along the grammar that was written apart from this definition, gives
-- the same outcomes.
use Rattle.std.proofs.Common.{◌≡◌, ℕ, List, [], ◌∷◌, ◌++◌, map, replicate, take, Option, Some, None}
use Rattle.std.proofs.Common.{Result, Ok, Err, refl}
use Rattle.std.specs.Prelude.{codes, ⊤}
use Rattle.std.specs.List.{range_with_len, flat_map}
use lib.Utf8.{encode}
use Rattle.std.specs.Str.{is_utf8, chars}
use Rattle.std.specs.Str.Lossy.{utf8_valid_len}
use Rattle.refusal_codes.specs.declared.refusal.Refusal.{Refusal}
use Rattle.refusal_codes.specs.declared.rule.Rule.{Rule}
use Rattle.refusal_codes.specs.declared.rule.Rule.TheVariants.{NotUtf8, UnexpectedByte}
use Rattle.refusal_codes.specs.declared.rule.Rule.TheVariants.{UnexpectedEnd, BadEscape}
use Rattle.refusal_codes.specs.declared.rule.Rule.TheVariants.{DuplicateKey, TooDeep, TrailingText}
use Rattle.plist_reader.specs.declared.tree.Tree.{Tree}
use Rattle.plist_reader.specs.declared.tree.TreeNode.{TreeNode}
use Rattle.plist_reader.specs.declared.tree.TreeValue.{TreeValue}
use Rattle.plist_reader.specs.declared.tree.TreeValue.TheVariants as tree
use Rattle.plist_reader.specs.Characters.{is_space, is_word, octal_value, hex_value, byte_of}
use Rattle.plist_reader.specs.Escapes.{character_of, escape_begun, escape_unit, escape_digit}
use Rattle.plist_reader.specs.Escapes.{escape_next}
use Rattle.plist_reader.specs.Refusals.{IsRefusal, refusal}
use Rattle.plist_reader.proofs.OneAnswer.{refusal-of}
use Rattle.plist_reader.specs.Reading.{start, value_ended, key_ended, text_ended, unexpected_rule}
use Rattle.plist_reader.specs.Reading.{text_begun, bracket_opened, value_begun, list_closed}
use Rattle.plist_reader.specs.Reading.{dictionary_closed, between, in_word, in_quoted, in_bytes}
use Rattle.plist_reader.specs.Reading.{in_half, step, whole, finish, read_of}

-- what an answer unfolds to compute what is read of a literal
on_literals : ⊤
unfolding read_of is_utf8 chars utf8_valid_len encode is_space is_word octal_value hex_value byte_of
    character_of escape_begun escape_unit escape_digit escape_next start value_ended key_ended
    text_ended unexpected_rule text_begun bracket_opened value_begun list_closed dictionary_closed
    between in_word in_quoted in_bytes in_half step whole finish
on_literals = tt

abbrev refusal_in : Result Tree Refusal → Option Refusal
refusal_in (Ok t) = None
refusal_in (Err r) = Some r

-- rows of a text and of its refusal, or None where it has a tree
abbrev are_read : List (List ℕ × Option Refusal) → Type 0
are_read rows = map (λ row. refusal_in (read_of row.0)) rows ≡ map (λ row. row.1) rows

abbrev refused : Rule → ℕ → Option Refusal
refused rule place = Some (refusal rule place)

abbrev has_tree : Option Refusal
has_tree = None

-- one text several times
abbrev times : ℕ → List ℕ → List ℕ
times n text = flat_map (λ t. t) (replicate n text)

-- each rule: an empty text, text behind the value, a key twice, an escape that is none, an end too
-- early, a missing value, a bad byte, and a bracket too deep
first_refusals : are_read (
    ([], refused UnexpectedEnd 0)
    ∷ (codes "{a = 1;} x", refused TrailingText 9)
    ∷ (codes "{a=1;a=2;}", refused DuplicateKey 5)
    ∷ (codes "{a=\"\\q\";}", refused BadEscape 4)
    ∷ (codes "{a=(1,2", refused UnexpectedEnd 7)
    ∷ (codes "{a=;}", refused UnexpectedByte 3)
    ∷ (255 ∷ [], refused NotUtf8 0)
    ∷ (times 65 (codes "("), refused TooDeep 64) ∷ [])
unfolding on_literals
first_refusals = refl

-- each computed refusal is one by the grammar, as here of a key that stands twice
twice_computed : read_of (codes "{a=1;a=2;}") ≡ Err (refusal DuplicateKey 5)
unfolding on_literals
twice_computed = refl

twice_refused : IsRefusal (codes "{a=1;a=2;}") (refusal DuplicateKey 5)
twice_refused = refusal-of (codes "{a=1;a=2;}") (refusal DuplicateKey 5) twice_computed

-- of one whose first stands bare and whose second is quoted, with an escape
abbrev twice_escaped : List ℕ
twice_escaped = codes "{a=1;\"\\141\"=2;}"

twice_escaped_computed : read_of twice_escaped ≡ Err (refusal DuplicateKey 5)
unfolding on_literals
twice_escaped_computed = refl

twice_escaped_refused : IsRefusal twice_escaped (refusal DuplicateKey 5)
twice_escaped_refused = refusal-of twice_escaped (refusal DuplicateKey 5) twice_escaped_computed

-- and of the sixty-fifth bracket
abbrev too_many_brackets : List ℕ
too_many_brackets = times 65 (codes "(")

too_deep_computed : read_of too_many_brackets ≡ Err (refusal TooDeep 64)
unfolding on_literals
too_deep_computed = refl

too_deep_refused : IsRefusal too_many_brackets (refusal TooDeep 64)
too_deep_refused = refusal-of too_many_brackets (refusal TooDeep 64) too_deep_computed

-- a key stands twice whether it is bare or quoted; a word is known as a key only where it has ended
keys_twice : are_read (
    (codes "{a=1;\"a\"=2;}", refused DuplicateKey 5)
    ∷ (codes "{a=1;a", refused UnexpectedEnd 6)
    ∷ (codes "{a=1;a ", refused DuplicateKey 5)
    ∷ (codes "{a=1;a\"", refused DuplicateKey 5)
    ∷ (codes "{a=1;\"a", refused UnexpectedEnd 7)
    ∷ (codes "{a=1;\"a\"", refused DuplicateKey 5)
    ∷ (codes "{a=1;aa=2;}", has_tree)
    ∷ (codes "{a=1;b={a=2;};}", has_tree)
    ∷ (codes "{a=1;b=2;a=3;}", refused DuplicateKey 9)
    ∷ (codes "{a=1;\"\\141\"=2;}", refused DuplicateKey 5) ∷ [])
unfolding on_literals
keys_twice = refl

-- a high surrogate is followed by a low one, and the two are one escape; no low one stands first
surrogates : are_read (
    (codes "\"\\Ud83d\"", refused BadEscape 1)
    ∷ (codes "\"\\Ude00\"", refused BadEscape 1)
    ∷ (codes "\"\\Ud83d\\Ude00\"", has_tree)
    ∷ (codes "\"\\Ud83dx\"", refused BadEscape 1)
    ∷ (codes "\"\\Ud83d", refused UnexpectedEnd 7)
    ∷ (codes "\"\\Ud83d\\", refused UnexpectedEnd 8)
    ∷ (codes "\"\\Ud83d\\Ud", refused UnexpectedEnd 10)
    ∷ (codes "\"\\Ud83d\\Uda", refused BadEscape 1)
    ∷ (codes "\"\\UD", refused UnexpectedEnd 4)
    ∷ (codes "\"\\UDC", refused BadEscape 1)
    ∷ (codes "\"\\Udbff\\Udfff\"", has_tree)
    ∷ (codes "\"\\Ue000\"", has_tree) ∷ [])
unfolding on_literals
surrogates = refl

-- three octal digits up to 177
octal_escapes : are_read (
    (codes "\"\\200\"", refused BadEscape 1)
    ∷ (codes "\"\\177\"", has_tree)
    ∷ (codes "\"\\000\"", has_tree)
    ∷ (codes "\"\\18\"", refused BadEscape 1)
    ∷ (codes "\"\\7\"", refused BadEscape 1)
    ∷ (codes "\"\\1\"", refused BadEscape 1) ∷ [])
unfolding on_literals
octal_escapes = refl

-- two digits make a byte, and white space may stand anywhere
byte_strings : are_read (
    (codes "<a>", refused UnexpectedByte 2)
    ∷ (codes "<a b>", has_tree)
    ∷ (codes "<ab c>", refused UnexpectedByte 5)
    ∷ (codes "<>", has_tree)
    ∷ (codes "< 0a\tF>", refused UnexpectedByte 6)
    ∷ (codes "<0g>", refused UnexpectedByte 2)
    ∷ (codes "<0", refused UnexpectedEnd 2) ∷ [])
unfolding on_literals
byte_strings = refl

-- what is no UTF-8 comes before all else
bad_bytes : are_read (
    (255 ∷ codes "}", refused NotUtf8 0)
    ∷ (codes "}" ++ 255 ∷ [], refused NotUtf8 1)
    ∷ (codes "{a=1;a=2;" ++ 255 ∷ [], refused NotUtf8 9)
    ∷ (codes "\"" ++ 195 ∷ codes "\"", refused NotUtf8 1)
    ∷ (codes "\"" ++ 195 ∷ 169 ∷ codes "\"", has_tree)
    ∷ (195 ∷ 169 ∷ [], refused UnexpectedByte 0) ∷ [])
unfolding on_literals
bad_bytes = refl

-- commas stand between values, and one may stand behind the last
lists : are_read (
    (codes "()", has_tree)
    ∷ (codes "(1,)", has_tree)
    ∷ (codes "(,)", refused UnexpectedByte 1)
    ∷ (codes "(1,,2)", refused UnexpectedByte 3)
    ∷ (codes "(1 2)", refused UnexpectedByte 3)
    ∷ (codes "{a=1}", refused UnexpectedByte 4)
    ∷ (codes "{a}", refused UnexpectedByte 2)
    ∷ (codes "{}x", refused TrailingText 2)
    ∷ (codes "a b", refused TrailingText 2)
    ∷ (codes "\"a\"b\"", refused TrailingText 3) ∷ [])
unfolding on_literals
lists = refl

-- 64 brackets of both kinds may be open, and no more, also where no bracket may stand
depths : are_read (
    (times 64 (codes "(") ++ times 64 (codes ")"), has_tree)
    ∷ (times 64 (codes "(") ++ codes "{", refused TooDeep 64)
    ∷ (times 32 (codes "({a=") ++ codes "1" ++ times 32 (codes ";})"), has_tree)
    ∷ (times 32 (codes "({a=") ++ codes "(", refused TooDeep 128)
    ∷ (times 32 (codes "({a=") ++ codes "b(", refused TooDeep 129)
    ∷ (times 32 (codes "({a=") ++ codes "\"(\"" ++ times 32 (codes ";})"), has_tree) ∷ [])
unfolding on_literals
depths = refl

-- places count bytes, so also behind a character of two: text behind the value, and an escape that
-- is none
behind_accents : are_read (
    (codes "\"" ++ 195 ∷ 169 ∷ codes "\"x", refused TrailingText 4)
    ∷ (codes "\"" ++ 195 ∷ 169 ∷ codes "\\q\"", refused BadEscape 3) ∷ [])
unfolding on_literals
behind_accents = refl

-- of several rules the first holds: a bracket too deep also in a byte string, a key twice before a
-- bracket too deep, and an escape before both
first_of_several : are_read (
    (times 64 (codes "(") ++ codes "<(", refused TooDeep 65)
    ∷ (times 63 (codes "(") ++ codes "{a=1;a(", refused DuplicateKey 68)
    ∷ (times 64 (codes "(") ++ codes "\"\\(", refused BadEscape 65) ∷ [])
unfolding on_literals
first_of_several = refl

-- texts of random characters, compared with that other program
from_outside : are_read (
    (codes "(a1", refused UnexpectedEnd 3)
    ∷ (codes "a){;)\\}1\\\"(\\", refused TrailingText 1)
    ∷ (codes "()", has_tree)
    ∷ (codes "1\\1", refused TrailingText 1)
    ∷ (codes "\"\\Ud83d\"", refused BadEscape 1)
    ∷ (codes "a<,", refused TrailingText 1)
    ∷ (codes "{a=(1,2,);}", has_tree)
    ∷ (codes "{a=1;aa=2;}", has_tree)
    ∷ (codes "aa=><,\\a\n\n)(", refused TrailingText 2)
    ∷ (codes "1, ;} \t\"", refused TrailingText 1)
    ∷ (codes "a1{\t;\t<=", refused TrailingText 2)
    ∷ (codes "\"\\U00g\"", refused BadEscape 1)
    ∷ (codes "() \"}", refused TrailingText 3)
    ∷ (codes "a)}", refused TrailingText 1)
    ∷ (codes "\"\\", refused UnexpectedEnd 2)
    ∷ (codes " \ta}1", refused TrailingText 3)
    ∷ (codes " a,\t(", refused TrailingText 2)
    ∷ (codes "{\"\"=1;}", has_tree)
    ∷ (codes "<>1", refused TrailingText 2)
    ∷ (codes "\"a\nb\"", has_tree)
    ∷ (codes "\t {", refused UnexpectedEnd 3)
    ∷ (codes " \"\n", refused UnexpectedEnd 3)
    ∷ (codes "1aa>;\"a{\";\t<", refused TrailingText 3)
    ∷ (codes "a<\t", refused TrailingText 1)
    ∷ (codes ")((,)<( {,}\n", refused UnexpectedByte 0)
    ∷ (codes "{a<", refused UnexpectedByte 2)
    ∷ (codes " ;\\", refused UnexpectedByte 1)
    ∷ (codes "<\t\\}a", refused UnexpectedByte 2)
    ∷ (codes "< (", refused UnexpectedByte 2)
    ∷ (codes ">a(;;{\n)\");=", refused UnexpectedByte 0)
    ∷ (codes "{<)=)=>=", refused UnexpectedByte 1)
    ∷ (codes ";\\(()", refused UnexpectedByte 0)
    ∷ (codes ";}a", refused UnexpectedByte 0)
    ∷ (codes ",\t>{\n", refused UnexpectedByte 0)
    ∷ (codes ">\n\t" ++ 195 ∷ 169 ∷ codes "\"a>", refused UnexpectedByte 0)
    ∷ (codes "(a(", refused UnexpectedByte 2)
    ∷ (codes "\\=,", refused UnexpectedByte 0)
    ∷ (codes ">\\\\", refused UnexpectedByte 0)
    ∷ (codes "<\t\\\t, }\"", refused UnexpectedByte 2)
    ∷ (codes "=} ", refused UnexpectedByte 0)
    ∷ (codes "><a<} ),", refused UnexpectedByte 0)
    ∷ (codes "{={1\\\n)\";;a)", refused UnexpectedByte 1)
    ∷ (codes "(,\"}=", refused UnexpectedByte 1)
    ∷ (codes "<\\>", refused UnexpectedByte 1)
    ∷ (codes "<" ++ 255 ∷ codes ">" ++ 195 ∷ codes ",\n,>a()\\", refused NotUtf8 1)
    ∷ (codes "=<" ++ 255 ∷ codes "(<a,>", refused NotUtf8 2)
    ∷ (codes ",;" ++ 195 ∷ codes ";))" ++ 169 ∷ 169 ∷ [], refused NotUtf8 2)
    ∷ (codes "\"" ++ 195 ∷ codes "\"", refused NotUtf8 1)
    ∷ (255 ∷ codes ")" ++ 195 ∷ codes "1\"\t=>", refused NotUtf8 0)
    ∷ (codes "\"(a" ++ 169 ∷ codes "\t) \t", refused NotUtf8 3)
    ∷ (codes " a" ++ 169 ∷ [], refused NotUtf8 2)
    ∷ (codes "\"= a(,>" ++ 195 ∷ 195 ∷ codes "1<a", refused NotUtf8 7) ∷ [])
unfolding on_literals
from_outside = refl

-- ---- a whole source, of 259 bytes

abbrev lines : List (List ℕ) → List ℕ
lines texts = flat_map (λ text. text ++ 10 ∷ []) texts

abbrev triangle : List ℕ
triangle = lines (codes "{" ∷ codes ".formatVersion = 3;" ∷ codes "familyName = Tri;"
    ∷ codes "fontMaster = (" ∷ codes "{" ∷ codes "id = m1;" ∷ codes "}" ∷ codes ");"
    ∷ codes "glyphs = (" ∷ codes "{" ∷ codes "glyphname = A;" ∷ codes "layers = (" ∷ codes "{"
    ∷ codes "layerId = m1;" ∷ codes "shapes = (" ∷ codes "{" ∷ codes "closed = 1;"
    ∷ codes "nodes = (" ∷ codes "(0,0,l)," ∷ codes "(500,0,l)," ∷ codes "(250,700,l)" ∷ codes ");"
    ∷ codes "}" ∷ codes ");" ∷ codes "width = 500;" ∷ codes "}" ∷ codes ");" ∷ codes "unicode = 65;"
    ∷ codes "}" ∷ codes ");" ∷ codes "unitsPerEm = 1000;" ∷ codes "}" ∷ [])

abbrev bracket_in : TreeNode → TreeValue → List (ℕ × ℕ)
bracket_in node (tree.Text text) = []
bracket_in node (tree.Bytes bytes) = []
bracket_in node (tree.Items items) = (node.place, node.end) ∷ []
bracket_in node (tree.Pairs pairs) = (node.place, node.end) ∷ []

abbrev brackets_in : Result Tree Refusal → List (ℕ × ℕ)
brackets_in (Ok t) = flat_map (λ node. bracket_in node node.value) t.nodes
brackets_in (Err r) = []

-- its lists and dictionaries, in the order in which they end: the nodes stand at 161, 170 and 181,
-- their path at 137, the layer at 110 and the glyph at 82
triangle_brackets : brackets_in (read_of triangle)
    ≡ (55, 67) ∷ (53, 69) ∷ (161, 168) ∷ (170, 179) ∷ (181, 192) ∷ (159, 194) ∷ (137, 197)
    ∷ (135, 199) ∷ (110, 215) ∷ (108, 217) ∷ (82, 234) ∷ (80, 236) ∷ (0, 258) ∷ []
unfolding on_literals
triangle_brackets = refl

-- behind its end stands no more text, and each front of less than 258 bytes ends too early
triangle_behind : are_read ((triangle ++ codes "end", refused TrailingText 259) ∷ [])
unfolding on_literals
triangle_behind = refl

triangle_fronts : map (λ n. refusal_in (read_of (take n triangle))) (range_with_len 0 258)
    ≡ map (λ n. Some (refusal UnexpectedEnd n)) (range_with_len 0 258)
unfolding on_literals
triangle_fronts = refl

-- without its last line feed it is the same tree
triangle_trimmed : read_of (take 258 triangle) ≡ read_of triangle
unfolding on_literals
triangle_trimmed = refl

-- ---- trees

-- a string may have line feeds as they are, and characters beyond ASCII of two, three and four
-- bytes
raw_string : read_of (codes "\"a\n" ++ 195 ∷ 169 ∷ 226 ∷ 130 ∷ 172 ∷ 240 ∷ 159 ∷ 152 ∷ 128
    ∷ codes "\"")
    ≡ Ok (record {
      nodes = record {
        place = 0;
        end = 13;
        value
            = tree.Text (97 ∷ 10 ∷ 195 ∷ 169 ∷ 226 ∷ 130 ∷ 172 ∷ 240 ∷ 159 ∷ 152 ∷ 128 ∷ []);
      }
          ∷ [];
      top = 0;
    })
unfolding on_literals
raw_string = refl

-- escapes are undone, and each value has its place and end
quoted_tree : read_of (codes " \"a\\n\\Ud83d\\Ude00\"")
    ≡ Ok (record {
      nodes = record {
        place = 1;
        end = 18;
        value
            = tree.Text (97 ∷ 10 ∷ 240 ∷ 159 ∷ 152 ∷ 128 ∷ []);
      } ∷ [];
      top = 0;
    })
unfolding on_literals
quoted_tree = refl

-- each escape: a carriage return, a tab, a quote, a backslash, a unit of UTF-16, and octal digits
escaped_tree : read_of (codes "\"\\r\\t\\\"\\\\\\U00e9\\101\"")
    ≡ Ok (record {
      nodes = record {
        place = 0;
        end = 20;
        value
            = tree.Text (13 ∷ 9 ∷ 34 ∷ 92 ∷ 195 ∷ 169 ∷ 65 ∷ []);
      } ∷ [];
      top = 0;
    })
unfolding on_literals
escaped_tree = refl

-- children stand before their parents, and a key before its value
dictionary_tree : read_of (codes "{a=(1);b=<aF>;}") ≡ Ok (record {
  nodes =
      record { place = 1; end = 2; value = tree.Text (97 ∷ []) }
      ∷ record { place = 4; end = 5; value = tree.Text (49 ∷ []) }
      ∷ record { place = 3; end = 6; value = tree.Items (1 ∷ []) }
      ∷ record { place = 7; end = 8; value = tree.Text (98 ∷ []) }
      ∷ record { place = 9; end = 13; value = tree.Bytes (175 ∷ []) }
      ∷ record { place = 0; end = 15; value = tree.Pairs ((0, 2) ∷ (3, 4) ∷ []) } ∷ [];
  top = 5;
})
unfolding on_literals
dictionary_tree = refl
