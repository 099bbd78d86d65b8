-- what is written, and the lines of the glyphs that are left, are the lines of all
use Rattle.std.proofs.Common.{◌≡◌, ◌++◌, ◌-◌}
use Rattle.std.specs.String.{string_bytes}
use Rattle.sample_maker.specs.Glyphs.{glyphs_of, glyphs_from}
use Rattle.sample_maker.specs.SampleText.{glyph_lines}
use Rattle.sample_maker.proofs.text.push_glyphs.Given as goal

abbrev pub invariant-loop-number : goal.invariant-loop-number
invariant-loop-number l =
    string_bytes l.text
    ++ glyph_lines (glyphs_from (l.glyphs - l.number) l.number l.last l.draws.state)
    ≡ string_bytes l.initial.text ++ glyph_lines (glyphs_of l.seed l.glyphs)
