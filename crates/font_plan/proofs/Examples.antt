-- Worked examples, computed: the font of a source of one triangle, sources that have the same font,
-- and sources that are refused.
use Rattle.std.proofs.Common.{◌≡◌, ℕ, List, [], ◌∷◌, ◌++◌, map, take, replicate, Ok, Err, refl}
use Rattle.std.specs.Prelude.{◌+◌, ◌-◌, ◌*◌, codes, true, Result, is_ok, nat_lt, if◌then◌else◌}
use Rattle.std.specs.List.{flat_map}
use Rattle.refusal_codes.specs.First.{refusal_of}
use Rattle.refusal_codes.specs.declared.job.Job.{Job}
use Rattle.refusal_codes.specs.declared.job.TheConstants.{TREE, HEADER, INDEX, RAW}
use Rattle.refusal_codes.specs.declared.refusal.Refusal.{Refusal}
use Rattle.refusal_codes.specs.declared.rule.Rule.{Rule}
use Rattle.refusal_codes.specs.declared.rule.Rule.TheVariants.{NotUtf8, UnexpectedByte, BadEscape}
use Rattle.refusal_codes.specs.declared.rule.Rule.TheVariants.{DuplicateKey, TooDeep, UnexpectedEnd}
use Rattle.refusal_codes.specs.declared.rule.Rule.TheVariants.{TrailingText, MissingKey, NotWhole}
use Rattle.refusal_codes.specs.declared.rule.Rule.TheVariants.{OutOfRange, DuplicateGlyph}
use Rattle.refusal_codes.specs.declared.rule.Rule.TheVariants.{WrongVersion, NoMaster, AxisCount}
use Rattle.refusal_codes.specs.declared.rule.Rule.TheVariants.{MissingLayer, CubicNode, OpenContour}
use Rattle.refusal_codes.specs.declared.rule.Rule.TheVariants.{CoordinateTooLarge, DuplicateUnicode}
use Rattle.font_plan.specs.Direct.{direct_font}
use Rattle.font_plan.specs.Font.{font_of}
use Rattle.font_plan.proofs.FontLaws.{all_made}
use Rattle.font_plan.proofs.OnLiterals.{font_on_literals}
use Rattle.font_plan.proofs.TablesOnLiterals.{tables_on_literals}

abbrev lines : List (List ℕ) → List ℕ
lines texts = flat_map (λ text. text ++ 10 ∷ []) texts

-- a source: its format version, the lines of its masters and of its glyphs, and those behind them
abbrev source_of : List ℕ → List (List ℕ) → List (List ℕ) → List (List ℕ) → List ℕ
source_of version masters glyphs more =
    lines ((codes "{" ∷ (codes ".formatVersion = " ++ version ++ codes ";")
    ∷ codes "familyName = Tri;" ∷ codes "fontMaster = (" ∷ masters) ++ codes ");"
    ∷ (codes "glyphs = (" ∷ glyphs) ++ codes ");" ∷ more ++ codes "}" ∷ [])

-- a master: its id, and the lines behind it
abbrev master : List ℕ → List (List ℕ) → List (List ℕ)
master id more = codes "{" ∷ (codes "id = " ++ id ++ codes ";") ∷ more ++ codes "}" ∷ []

-- a source of version 3 with one master: the lines of its glyphs, and those behind them
abbrev source : List (List ℕ) → List (List ℕ) → List ℕ
source glyphs more = source_of (codes "3") (master (codes "m1") []) glyphs more

-- a glyph: its name, its contour's `closed` and second and third node, the lines behind its
-- contours, and the line behind its layers
abbrev glyph : List ℕ → List ℕ → List ℕ → List ℕ → List (List ℕ) → List ℕ → List (List ℕ)
glyph name closed second third more rest =
    codes "{" ∷ (codes "glyphname = " ++ name ++ codes ";") ∷ codes "layers = (" ∷ codes "{"
    ∷ codes "layerId = m1;" ∷ codes "shapes = (" ∷ codes "{"
    ∷ (codes "closed = " ++ closed ++ codes ";") ∷ codes "nodes = (" ∷ codes "(0,0,l),"
    ∷ (second ++ codes ",") ∷ third ∷ codes ");" ∷ codes "}" ∷ codes ");" ∷ more ++ codes "}"
    ∷ codes ");" ∷ rest ∷ codes "}" ∷ []

-- the triangle, 500 units wide
abbrev triangle : List ℕ → List ℕ → List (List ℕ)
triangle name rest = glyph name (codes "1") (codes "(500,0,l)") (codes "(250,700,l)")
    (codes "width = 500;" ∷ []) rest

abbrev letter : List (List ℕ)
letter = triangle (codes "A") (codes "unicode = 65;")

-- the letter with another `closed`, second node, third node or lines behind its contours
abbrev letter_with : List ℕ → List ℕ → List ℕ → List (List ℕ) → List (List ℕ)
letter_with closed second third more = glyph (codes "A") closed second third more
    (codes "unicode = 65;")

-- a glyph behind the letter
abbrev behind_letter : List (List ℕ) → List (List ℕ)
behind_letter more = letter ++ codes "," ∷ more

-- a `.notdef` as the made one, with a line behind its layers
abbrev own_notdef : List ℕ → List (List ℕ)
own_notdef rest = codes "{" ∷ codes "glyphname = .notdef;" ∷ codes "layers = (" ∷ codes "{"
    ∷ codes "layerId = m1;" ∷ codes "width = 500;" ∷ codes "}" ∷ codes ");" ∷ rest ∷ codes "}" ∷ []

-- a source of 1000 units per em
abbrev thousand : List (List ℕ) → List ℕ
thousand glyphs = source glyphs (codes "unitsPerEm = 1000;" ∷ [])

-- the source of 259 bytes
abbrev triangle_source : List ℕ
triangle_source = thousand letter

-- bytes by their hexadecimal digits
abbrev digit : ℕ → ℕ
digit c = if nat_lt c 58 then c - 48 else c - 87

abbrev hex : List ℕ → List ℕ
hex [] = []
hex (c ∷ []) = []
hex (high ∷ low ∷ others) = (16 * digit high + digit low) ∷ hex others

-- its font, of 728 bytes: the directory, and the tables in its order
abbrev pub triangle_font : List ℕ
triangle_font =
    hex (codes "00010000000a008000030020")
    ++ hex (codes "4f532f325ca758e7000000ac00000060")
    ++ hex (codes "636d6170000c00740000010c0000002c")
    ++ hex (codes "676c79665cbacbf7000001380000001c")
    ++ hex (codes "68656164610a43a00000015400000036")
    ++ hex (codes "686865610516012f0000018c00000024")
    ++ hex (codes "686d747803e80000000001b000000008")
    ++ hex (codes "6c6f63610000001c000001b80000000c")
    ++ hex (codes "6d61787000040005000001c400000020")
    ++ hex (codes "6e616d650c54237e000001e4000000ca")
    ++ hex (codes "706f737400a20173000002b000000028")
    -- OS/2
    ++ hex (codes "000401f4019000050000028a028a0000008c028a028a000001e0003201040000")
    ++ hex (codes "00000000000000000000000000000000000000000000000000004e4f4e4500c0")
    ++ hex (codes "004100410320ff380000032000c8000000000000000000000000000000200000")
    -- cmap
    ++ hex (codes "00000001000300010000000c00040020000000040004000100000041ffff0000")
    ++ hex (codes "0041ffffffc0000100000000")
    -- glyf
    ++ hex (codes "00010000000001f402bc00020000130321fafa01f402bcfd44000000")
    -- head
    ++ hex (codes "000100000001000044b77d0d5f0f3cf5000303e8000000000000000000000000")
    ++ hex (codes "000000000000000001f402bc000000060002000100000000")
    -- hhea
    ++ hex (codes "000100000320ff38000001f40000000001f40001000000000000000000000000")
    ++ hex (codes "00000002")
    -- hmtx
    ++ hex (codes "01f4000001f40000")
    -- loca
    ++ hex (codes "00000000000000000000001c")
    -- maxp
    ++ hex (codes "0001000000020003000100000000000200000000000000000000000000000000")
    -- name
    ++ hex (codes "00000006004e0003000104090001000600000003000104090002000e00060003")
    ++ hex (codes "000104090003002200140003000104090004001600360003000104090005001a")
    ++ hex (codes "004c0003000104090006001600660054007200690052006500670075006c0061")
    ++ hex (codes "00720031002e003000300030003b005400720069002d0052006500670075006c")
    ++ hex (codes "0061007200540072006900200052006500670075006c00610072005600650072")
    ++ hex (codes "00730069006f006e00200031002e003000300030005400720069002d00520065")
    ++ hex (codes "00670075006c006100720000")
    -- post
    ++ hex (codes "0002000000000000ff9c00320000000000000000000000000000000000000000")
    ++ hex (codes "0002000001020141")

-- the source, the same without its last line feed, and with a coordinate that has a fraction of
-- zero. With keys that mean nothing here, a fourth value in a node and a layer of no master. With a
-- `.notdef` behind the letter that is as the made one, and is exported whatever it says of that.
-- And with a glyph that isn't exported, whose contour may be any.
abbrev worked : List (List ℕ)
worked =
    triangle_source
    ∷ take 258 triangle_source
    ∷ thousand (letter_with (codes "1") (codes "(500.0,0,l)") (codes "(250,700,l)")
    (codes "width = 500;" ∷ []))
    ∷ source (letter_with (codes "1") (codes "(500,0,l)") (codes "(250,700,l,{name = x;})")
    (codes "width = 500;" ∷ codes "}," ∷ codes "{" ∷ codes "associatedMasterId = m1;"
    ∷ codes "layerId = backup;" ∷ [])) (codes "unitsPerEm = 1000;" ∷ codes "userData = {"
    ∷ codes "a = 1;" ∷ codes "};" ∷ codes "note = x;" ∷ codes "settings = {" ∷ codes "};" ∷ [])
    ∷ thousand (behind_letter (own_notdef (codes "export = 1;")))
    ∷ thousand (behind_letter (own_notdef (codes "export = 0;")))
    ∷ thousand (behind_letter (glyph (codes "B") (codes "1") (codes "(500,0,l)")
    (codes "(250,700,c)") (codes "width = 900;" ∷ []) (codes "export = 0;")))
    ∷ []

defined : map direct_font worked ≡ replicate 7 (Ok triangle_font)
unfolding font_on_literals tables_on_literals
defined = refl

-- all of them have this font, which their jobs make as it is defined
pub accepted : map font_of worked ≡ replicate 7 (Ok triangle_font)
accepted = all_made triangle_font worked defined

-- rows of a source and of what becomes of it
abbrev are_fonts : List (List ℕ × Result (List ℕ) Refusal) → Type 0
are_fonts rows = map (λ row. font_of row.0) rows ≡ map (λ row. row.1) rows

abbrev refused : Job → List ℕ → Rule → ℕ → Result (List ℕ) Refusal
refused job name rule place = Err (refusal_of job name (record { rule = rule; place = place }))

-- a rule that the text fails
abbrev of_text : Rule → ℕ → Result (List ℕ) Refusal
of_text rule place = refused TREE [] rule place

-- a rule that the letter's layers fail
abbrev of_letter : Rule → ℕ → Result (List ℕ) Refusal
of_letter rule place = refused RAW (codes "A") rule place

-- no text at all, the source without its last two bytes, and text behind it
pub fronts_refused : are_fonts (
    ([], of_text UnexpectedEnd 0)
    ∷ (take 257 triangle_source, of_text UnexpectedEnd 257)
    ∷ ((triangle_source ++ codes "end"), of_text TrailingText 259)
    ∷ [])
unfolding font_on_literals tables_on_literals
fronts_refused = refl

-- text behind a dictionary, a key that stands twice, an escape that is none, a list without an end,
-- a key without a value, a byte that isn't UTF-8 and 65 lists in one another. Of a dictionary
-- without keys, the header lacks one.
pub texts_refused : are_fonts (
    (codes "{a = 1;} x", of_text TrailingText 9)
    ∷ (codes "{a=1;a=2;}", of_text DuplicateKey 5)
    ∷ (codes "{a=\"\\q\";}", of_text BadEscape 4)
    ∷ (codes "{a=(1,2", of_text UnexpectedEnd 7)
    ∷ (codes "{a=;}", of_text UnexpectedByte 3)
    ∷ ((255 ∷ []), of_text NotUtf8 0)
    ∷ (replicate 65 40, of_text TooDeep 64)
    ∷ (codes "{}", refused HEADER [] MissingKey 0)
    ∷ [])
unfolding font_on_literals tables_on_literals
texts_refused = refl

-- an em of 15 units, a name that stands twice and a code that does
pub parts_refused : are_fonts (
    (source letter (codes "unitsPerEm = 15;" ∷ []), refused HEADER [] OutOfRange 251)
    ∷ (
      thousand (behind_letter (triangle (codes "A") (codes "unicode = 66;"))),
      refused INDEX []
          DuplicateGlyph 237,
    )
    ∷ (
      thousand (behind_letter (triangle (codes "B") (codes "unicode = 65;"))),
      refused INDEX []
          DuplicateUnicode 237,
    )
    ∷ [])
unfolding font_on_literals tables_on_literals
parts_refused = refl

-- the letter's source with another version or other masters
abbrev letter_under : List ℕ → List (List ℕ) → List ℕ
letter_under version masters = source_of version masters letter (codes "unitsPerEm = 1000;" ∷ [])

-- version 2, no master, a master with a coordinate although there is no axis, and a master of which
-- the letter has no layer
pub masters_refused : are_fonts (
    (letter_under (codes "2") (master (codes "m1") []), refused HEADER [] WrongVersion 19)
    ∷ (letter_under (codes "3") [], refused HEADER [] NoMaster 53)
    ∷ (
      letter_under (codes "3") (master (codes "m1")
          (codes "axesValues = (" ∷ codes "1" ∷ codes ");" ∷ [])),
      refused HEADER [] AxisCount 55,
    )
    ∷ (letter_under (codes "3") (master (codes "m2") []), of_letter MissingLayer 82)
    ∷ [])
unfolding font_on_literals tables_on_literals
masters_refused = refl

-- a cubic node, an open contour, no width, a fraction and a coordinate that is too large
pub glyphs_refused : are_fonts ((
  thousand (letter_with (codes "1") (codes "(500,0,l)") (codes "(250,700,c)")
      (codes "width = 500;" ∷ [])),
  of_letter CubicNode 181,
)
    ∷ (
      thousand (letter_with (codes "0") (codes "(500,0,l)") (codes "(250,700,l)")
          (codes "width = 500;" ∷ [])),
      of_letter OpenContour 137,
    )
    ∷ (
      thousand (letter_with (codes "1") (codes "(500,0,l)") (codes "(250,700,l)") []),
      of_letter
          MissingKey 110,
    )
    ∷ (
      thousand (letter_with (codes "1") (codes "(500.5,0,l)") (codes "(250,700,l)")
          (codes "width = 500;" ∷ [])),
      of_letter NotWhole 171,
    )
    ∷ (
      thousand (letter_with (codes "1") (codes "(16384,0,l)") (codes "(250,700,l)")
          (codes "width = 500;" ∷ [])),
      of_letter CoordinateTooLarge 171,
    )
    ∷ [])
unfolding font_on_literals tables_on_literals
glyphs_refused = refl

-- the greatest coordinate
pub greatest_accepted : is_ok (font_of (thousand
    (letter_with (codes "1") (codes "(16383,0,l)") (codes "(250,700,l)")
    (codes "width = 500;" ∷ [])))) ≡ true
unfolding font_on_literals tables_on_literals
greatest_accepted = refl

-- ---- of two failures the least is told

-- the letter behind a glyph "B" with a cubic node, and itself with an open contour: the lesser name
abbrev both_glyphs : List ℕ
both_glyphs = thousand (glyph (codes "B") (codes "1") (codes "(500,0,l)") (codes "(250,700,c)")
    (codes "width = 500;" ∷ []) (codes "unicode = 66;") ++ codes ","
    ∷ letter_with (codes "0") (codes "(500,0,l)") (codes "(250,700,l)")
    (codes "width = 500;" ∷ []))

-- an em of 15 units, and a name that stands twice: the header. A code that stands twice, and a
-- cubic node: the index. Two glyphs, of which the second has the lesser name: that one, although it
-- stands behind the other.
pub least_told : are_fonts ((
  source (behind_letter (triangle (codes "A") (codes "unicode = 66;")))
      (codes "unitsPerEm = 15;" ∷ []),
  refused HEADER [] OutOfRange 406,
)
    ∷ (
      thousand (letter_with (codes "1") (codes "(500,0,l)") (codes "(250,700,c)")
          (codes "width = 500;" ∷ []) ++ codes "," ∷ triangle (codes "B") (codes "unicode = 65;")),
      refused INDEX [] DuplicateUnicode 237,
    )
    ∷ (both_glyphs, of_letter OpenContour 292)
    ∷ [])
unfolding font_on_literals tables_on_literals
least_told = refl

-- while the direct definition stops at the first that it meets
pub first_met : direct_font both_glyphs ≡ refused RAW (codes "B") CubicNode 181
unfolding font_on_literals tables_on_literals
first_met = refl
