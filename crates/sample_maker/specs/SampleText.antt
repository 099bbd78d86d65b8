-- The text of a sample: a Glyphs source (Glyphs file format, version 3) of two masters on one axis,
-- a glyph a line. How it is written is fontc's own.
use Rattle.std.specs.Prelude.{ℕ, ◌+◌, ◌*◌, ◌/◌, ◌%◌, ◌==◌, nat_lt, Bool, not, ◌&&◌, List, [], ◌∷◌}
use Rattle.std.specs.Prelude.{◌++◌, codes, if◌then◌else◌}
use Rattle.std.specs.Fmt.{decimal}
use Rattle.sample_maker.specs.declared.glyphs.SampleGlyph.{SampleGlyph}
use Rattle.sample_maker.specs.declared.glyphs.SampleShape.{SampleShape}
use Rattle.sample_maker.specs.declared.glyphs.SampleShape.TheVariants.{Component, Rectangle}
use Rattle.sample_maker.specs.Glyphs.{glyphs_of}

-- ---- a glyph

-- a glyph's name: g and its number in five digits
abbrev pub digit : ℕ → ℕ
digit n = 48 + n % 10

unfoldable pub glyph_name : ℕ → List ℕ
glyph_name number =
    codes "g"
    ++ digit (number / 10000) ∷ digit (number / 1000) ∷ digit (number / 100) ∷ digit (number / 10)
    ∷ digit number ∷ []

abbrev pub pair_text : ℕ → ℕ → List ℕ
pair_text x y = decimal x ++ codes "," ++ decimal y

-- a node on the curve
abbrev pub node_text : ℕ → ℕ → List ℕ
node_text x y = codes "(" ++ pair_text x y ++ codes ",l)"

-- a rectangle, counterclockwise from its lower left corner
abbrev pub rectangle_text : ℕ × ℕ → ℕ × ℕ → List ℕ
rectangle_text corner size =
    let x = corner.0 in
    let y = corner.1 in
    codes "{nodes = ("
    ++ node_text x y
    ++ codes ","
    ++ node_text (x + size.0) y
    ++ codes ","
    ++ node_text (x + size.0) (y + size.1)
    ++ codes ","
    ++ node_text x (y + size.1)
    ++ codes ");}"

abbrev pub component_text : ℕ → ℕ × ℕ → List ℕ
component_text base at =
    codes "{pos = (" ++ pair_text at.0 at.1 ++ codes ");ref = " ++ glyph_name base ++ codes ";}"

-- the shape at the first and at the second master
abbrev pub first_shape : SampleShape → List ℕ
first_shape (Component base first second) = component_text base first
first_shape (Rectangle corner first second) = rectangle_text corner first

abbrev pub second_shape : SampleShape → List ℕ
second_shape (Component base first second) = component_text base second
second_shape (Rectangle corner first second) = rectangle_text corner second

abbrev pub layer_text : List ℕ → List ℕ → ℕ → List ℕ
layer_text id shape width =
    codes "{layerId = "
    ++ id
    ++ codes ";shapes = ("
    ++ shape
    ++ codes ");width = "
    ++ decimal width
    ++ codes ";}"

-- the last of each eight glyphs isn't exported
abbrev pub is_exported : ℕ → Bool
is_exported number = not (number % 8 == 7)

unfoldable pub export_text : ℕ → List ℕ
export_text number = if is_exported number then [] else codes "export = 0;"

-- the exported ones of the first 6,400 have the codes of the private use area, from 57344 on
unfoldable pub unicode_text : ℕ → List ℕ
unicode_text number =
    if is_exported number && nat_lt number 6400
    then codes "unicode = " ++ decimal (57344 + number) ++ codes ";"
    else []

-- how a glyph begins, and its layers
unfoldable pub opening_text : ℕ → List ℕ
opening_text number = codes "{glyphname = " ++ glyph_name number

unfoldable pub layers_text : SampleGlyph → List ℕ
layers_text glyph =
    codes "layers = ("
    ++ layer_text (codes "m1") (first_shape glyph.shape) glyph.widths.0
    ++ codes ","
    ++ layer_text (codes "m2") (second_shape glyph.shape) glyph.widths.1
    ++ codes ");"

abbrev pub glyph_text : SampleGlyph → List ℕ
glyph_text glyph =
    opening_text glyph.number
    ++ codes ";"
    ++ export_text glyph.number
    ++ layers_text glyph
    ++ unicode_text glyph.number
    ++ codes "}"

-- ---- the whole text

-- each glyph on its line, with a comma behind each but the last
abbrev pub line_end : List SampleGlyph → List ℕ
line_end [] = codes "\n"
line_end (glyph ∷ glyphs) = codes ",\n"

abbrev pub glyph_lines : List SampleGlyph → List ℕ
glyph_lines [] = []
glyph_lines (glyph ∷ glyphs) = glyph_text glyph ++ line_end glyphs ++ glyph_lines glyphs

-- the lines before the glyphs, and those behind them
unfoldable pub font_lines : List ℕ
font_lines =
    codes "{\n.formatVersion = 3;\naxes = ({name = Weight;tag = wght;});\nfamilyName = Sample;\n"

unfoldable pub masters_line : List ℕ
masters_line =
    codes "fontMaster = ({axesValues = (400);id = m1;},{axesValues = (700);id = m2;});\n"

unfoldable pub tail_text : List ℕ
tail_text = codes ");\nunitsPerEm = 1000;\n}\n"

abbrev pub head_text : List ℕ
head_text = font_lines ++ masters_line ++ codes "glyphs = (\n"

-- the text of the sample with this seed and so many glyphs
unfoldable pub sample_text : ℕ → ℕ → List ℕ
sample_text seed glyphs = head_text ++ glyph_lines (glyphs_of seed glyphs) ++ tail_text
