-- The glyphs that are measured.
use Rattle.std.specs.Prelude.{◌≡◌, ℕ, ◌<◌, pos, List, [], ◌∷◌, length, slice_index_or, IfSome}
use Rattle.std.specs.List.{All}
use Rattle.fixtures.specs.Families.{ends}
use Rattle.font_ir.specs.Glyphs.{gid_of}
use Rattle.font_ir.specs.declared.glyph.FlatGlyph.{FlatGlyph}
use Rattle.font_ir.specs.declared.glyph.Kept.{Kept}
use Rattle.font_ir.specs.FlatGlyphs.{IsFlatGlyph}
use Rattle.metrics_tables.specs.Nesting.{bases_of}

-- a component that doesn't move its glyph, which by these names has a lower number
pub record IsLowerComponent (names : List (List ℕ)) (gid : ℕ) (kept : Kept) : Type 0 where
  pub at : kept.at ≡ (pos 0, pos 0) ∷ (pos 0, pos 0) ∷ []
  pub lower : IfSome (gid_of names kept.base) (λ base. base < gid)

-- a glyph at the masters' places, whose components, by these names, have lower numbers than its own
pub record IsMeasurable (names : List (List ℕ)) (gid : ℕ) (glyph : FlatGlyph) : Type 0 where
  pub flat : IsFlatGlyph glyph
  pub places : glyph.places ≡ ends
  pub lower : All (λ base. base < gid) (bases_of names glyph)

-- each of the glyphs is one
abbrev pub AreMeasurable : List (List ℕ) → List FlatGlyph → Type 0
AreMeasurable names glyphs = (gid : ℕ) (d : FlatGlyph) → gid < length glyphs
    → IsMeasurable names gid (slice_index_or glyphs gid d)
