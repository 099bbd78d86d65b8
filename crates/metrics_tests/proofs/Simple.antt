-- What follows for the list of glyphs.
use Rattle.std.proofs.Common.{◌≡◌, List, []}
use Rattle.std.specs.List.{All}
use Rattle.std.specs.declared.alloc.Global.{Global}
use Rattle.std.specs.declared.sync.Arc.{Arc}
use Rattle.std.specs.Arc.{arc_value}
use Rattle.std.proofs.lemmas.List.Elements.{All-map, All-weaker, recursion_from_All}
use Rattle.font_ir.specs.FlatGlyphs.{IsFlatGlyph, glyphs_of}
use Rattle.font_ir.specs.declared.header.Header.{Header}
use Rattle.font_ir.specs.declared.glyph.FlatGlyph.{FlatGlyph}
use Rattle.metrics_tables.specs.Changes.{BeginsWithMasters}
use Rattle.metrics_tables.specs.Nesting.{NoneLeadsToItself, bases_in}
use Rattle.metrics_tables.specs.StaticLaws.{none_leads}
use Rattle.std.proofs.Common.{ℕ}
use Rattle.metrics_tests.specs.Simple.{AreSimpleIn, IsSimpleIn}

module _ (header : Header) (glyphs : List (Arc FlatGlyph Global)) (are : AreSimpleIn header glyphs) where
  simple : All (IsSimpleIn header) (glyphs_of glyphs)
  simple = All-map (IsSimpleIn header) arc_value glyphs are

  pub all_flat : All IsFlatGlyph (glyphs_of glyphs)
  all_flat = All-weaker (IsSimpleIn header) IsFlatGlyph (λ glyph is. is.flat) (glyphs_of glyphs)
      simple

  pub all_begin : All (BeginsWithMasters header) (glyphs_of glyphs)
  all_begin = All-weaker (IsSimpleIn header) (BeginsWithMasters header) (λ glyph is. is.places)
      (glyphs_of glyphs) simple

  no_components : All (λ (glyph : FlatGlyph). glyph.kept ≡ []) (glyphs_of glyphs)
  no_components = All-weaker (IsSimpleIn header) (λ (glyph : FlatGlyph). glyph.kept ≡ [])
      (λ glyph is. is.no_components) (glyphs_of glyphs) simple

  pub none_lead : (names : List (List ℕ)) → NoneLeadsToItself (bases_in names (glyphs_of glyphs))
  none_lead names = none_leads names (glyphs_of glyphs)
      (recursion_from_All (λ (glyph : FlatGlyph). glyph.kept ≡ []) (glyphs_of glyphs) no_components)
