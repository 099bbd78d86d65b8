use Rattle.std.proofs.Common.{[], ◌≡◌, rules}
use Rattle.std.specs.List.{All}
use Rattle.std.proofs.lemmas.List.Elements.{recursion_from_All}
use Rattle.font_ir.specs.FlatGlyphs.{glyphs_of}
use Rattle.font_ir.specs.declared.glyph.FlatGlyph.{FlatGlyph}
use Rattle.metrics_tables.specs.StaticLaws.{none_leads}
use Rattle.writer_tests.proofs.metrics.measured.Goals as goal

pub measure-requires-clause-nesting : goal.measure-requires-clause-nesting
measure-requires-clause-nesting g c =
    let glyphs = glyphs_of c.as_slice.result.now in
    let simple : All (λ (glyph : FlatGlyph). glyph.kept ≡ []) glyphs = search rules in
    none_leads _ glyphs
    (recursion_from_All (λ (glyph : FlatGlyph). glyph.kept ≡ []) glyphs simple)
