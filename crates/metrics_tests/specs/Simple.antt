-- What `measure` asks of glyphs that have no components.
use Rattle.std.specs.Prelude.{◌≡◌, List, []}
use Rattle.std.specs.List.{All}
use Rattle.std.specs.declared.alloc.Global.{Global}
use Rattle.std.specs.declared.sync.Arc.{Arc}
use Rattle.font_ir.specs.FlatGlyphs.{IsFlatGlyph}
use Rattle.font_ir.specs.declared.header.Header.{Header}
use Rattle.font_ir.specs.declared.glyph.FlatGlyph.{FlatGlyph}
use Rattle.metrics_tables.specs.Changes.{BeginsWithMasters}

-- a glyph without components, whose places begin with those of the masters
pub record IsSimpleIn (header : Header) (glyph : FlatGlyph) : Type 0 where
  pub flat : IsFlatGlyph glyph
  pub places : BeginsWithMasters header glyph
  pub no_components : glyph.kept ≡ []

abbrev pub AreSimpleIn : Header → List (Arc FlatGlyph Global) → Type 0
AreSimpleIn header glyphs = All (λ glyph. IsSimpleIn header glyph.value) glyphs
