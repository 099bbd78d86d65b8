-- The sample of one glyph with the seed 7: x is 266, y 140, the width 400 and the height 83; 4 and
-- 17 more at the second master; 680, and 7 more there.
use Rattle.std.proofs.Common.{◌≡◌, ℕ, List, length, ◌++◌, refl}
use Rattle.std.specs.Prelude.{codes}
use Rattle.std.specs.Fmt.{digits}
use Rattle.sample_maker.specs.Draws.{next, below}
use Rattle.sample_maker.specs.SampleText.{glyph_name, opening_text, layers_text, export_text}
use Rattle.sample_maker.specs.SampleText.{unicode_text, font_lines, masters_line, tail_text}
use Rattle.sample_maker.specs.SampleText.{sample_text}

sample_of_one : sample_text 7 1
    ≡ codes "{\n.formatVersion = 3;\naxes = ({name = Weight;tag = wght;});\nfamilyName = "
    ++ codes "Sample;\nfontMaster = ({axesValues = (400);id = m1;},{axesValues = (700);id = "
    ++ codes "m2;});\nglyphs = (\n{glyphname = g00000;layers = ({layerId = m1;shapes = ({nodes = "
    ++ codes "((266,140,l),(666,140,l),(666,223,l),(266,223,l));});width = 680;},{layerId = "
    ++ codes "m2;shapes = ({nodes = ((266,140,l),(670,140,l),(670,240,l),(266,240,l));});width = "
    ++ codes "687;});unicode = 57344;}\n);\nunitsPerEm = 1000;\n}\n"
unfolding digits next below glyph_name opening_text layers_text export_text unicode_text font_lines
    masters_line tail_text sample_text
sample_of_one = refl

its_length : length (sample_text 7 1) ≡ 441
unfolding digits next below glyph_name opening_text layers_text export_text unicode_text font_lines
    masters_line tail_text sample_text
its_length = refl
