-- The glyphs of a sample, as they are drawn: rectangles, and components of the last rectangle
-- before them. fontc's own.
use Rattle.std.specs.Prelude.{ℕ, zero, suc, ◌+◌, ◌≤◌, ◌==◌, Bool, true, false, not, ◌&&◌, List}
use Rattle.std.specs.Prelude.{[], ◌∷◌, if◌then◌else◌}
use Rattle.sample_maker.specs.declared.glyphs.SampleShape.{SampleShape}
use Rattle.sample_maker.specs.declared.glyphs.SampleGlyph.{SampleGlyph}
use Rattle.sample_maker.specs.declared.glyphs.SampleShape.TheVariants.{Component, Rectangle}
use Rattle.sample_maker.specs.Draws.{next, drawn, after}

-- the first draw for a glyph says what it is. The first glyph is always a rectangle
abbrev pub is_component : ℕ → ℕ → Bool
is_component number x = not (number == 0) && drawn 0 4 x == 0

-- the width at the second master is that at the first one and a little more
abbrev pub widths : ℕ → ℕ → ℕ × ℕ
widths before x = (600 + drawn before 200 x, 600 + drawn before 200 x + drawn (before + 1) 50 x)

-- a component, placed anew at each master. The state is the one behind the first draw
abbrev pub component_glyph : ℕ → ℕ → ℕ → SampleGlyph
component_glyph number base x = record {
  number = number;
  shape = Component base (drawn 0 200 x, drawn 1 200 x) (drawn 2 200 x, drawn 3 200 x);
  widths = widths 4 x;
}

-- a rectangle, a little larger at the second master
abbrev pub rectangle_glyph : ℕ → ℕ → SampleGlyph
rectangle_glyph number x = record {
  number = number;
  shape = Rectangle (drawn 0 400 x, drawn 1 400 x) (50 + drawn 2 400 x, 50 + drawn 3 400 x)
      (50 + drawn 2 400 x + drawn 4 40 x, 50 + drawn 3 400 x + drawn 5 40 x);
  widths = widths 6 x;
}

-- so many glyphs from this number on, where this rectangle is the last one before them, and this
-- the state
abbrev pub glyphs_from : ℕ → ℕ → ℕ → ℕ → List SampleGlyph
glyphs_from zero number last x = []
glyphs_from (suc more) number last x =
    if is_component number x
    then component_glyph number last (next x) ∷ glyphs_from more (number + 1) last (after 7 x)
    else rectangle_glyph number (next x) ∷ glyphs_from more (number + 1) number (after 9 x)

-- the glyphs of a sample: the seed is the first state
abbrev pub glyphs_of : ℕ → ℕ → List SampleGlyph
glyphs_of seed glyphs = glyphs_from glyphs 0 0 seed

-- whether a shape is a contour of its own
abbrev pub is_rectangle : SampleShape → Bool
is_rectangle (Component base first second) = false
is_rectangle (Rectangle corner first second) = true

-- no number is so large that a sum of two leaves 16 bits
abbrev pub IsSmallPair : ℕ × ℕ → Type 0
IsSmallPair pair = (pair.0 ≤ 1000) × (pair.1 ≤ 1000)

abbrev pub IsSmallShape : SampleShape → Type 0
IsSmallShape (Component base first second) = IsSmallPair first × IsSmallPair second
IsSmallShape (Rectangle corner first second) =
    IsSmallPair corner × IsSmallPair first × IsSmallPair second
