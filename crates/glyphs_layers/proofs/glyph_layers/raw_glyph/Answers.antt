use Rattle.std.proofs.Common.{◌∙◌, ap, sym, Option}
use Rattle.std.specs.Prelude.{◌≡◌, IfOk, option_map}
use Rattle.font_ir.specs.declared.glyph.GlyphIr.{GlyphIr}
use Rattle.font_ir.specs.ReadGlyphs.{IsReadGlyph}
use Rattle.refusal_codes.specs.declared.first.Failure.{Failure}
use Rattle.refusal_codes.specs.Gives.{Gives}
use Rattle.refusal_codes.specs.First.{noted}
use Rattle.glyphs_layers.specs.GlyphRules.{glyph_failures}
use Rattle.glyphs_layers.specs.GlyphPlaces.{places_of}
use Rattle.glyphs_layers.specs.GlyphReading.{glyph_in, glyph_of}
use Rattle.glyphs_layers.specs.SourceGlyphs.{HasMastersFirst, HasKnownBases, IsWholeGlyph}
use Rattle.glyphs_layers.proofs.ReadLaws.{of_given, given_answer}
use Rattle.glyphs_layers.proofs.glyph_layers.raw_glyph.Goals as goal

given : (c : goal.After-judge) → Gives (λ (x : GlyphIr). x) c.judge.result
    (glyph_of c.args.tree.now c.args.header.now c.args.index.now c.args.number)
given c =
    let got = c.unwrap.result in
    let t = c.args.tree.now in
    let h = c.args.header.now in
    given_answer t h c.args.index.now c.args.number (glyph_failures t h) (got.0.now, got.1.now)
    (sym c.at.ensures ∙ ap (option_map (λ entry. (entry.0.now, entry.1.now))) c.unwrap.ensures)
    c.get.result
    (c.get.ensures ∙ c.in_ok-held.ensures.failures
    ∙ ap (λ (least : Option Failure). noted least (glyph_failures t h got.1.now.node))
    c.new-first.ensures)
    c.judge.result c.judge.ensures

-- what holds of each glyph that is read holds of this one
from_whole : (c : goal.After-judge) (P : GlyphIr → Type 0)
    → ((glyph : GlyphIr) → IsWholeGlyph c.args.tree.now c.args.header.now c.args.index.now
    c.args.number glyph → P glyph) → IfOk c.judge.result P
from_whole c P from =
    let definition = glyph_of c.args.tree.now c.args.header.now c.args.index.now c.args.number in
    of_given P definition
    (λ glyph e. from glyph (c.read_glyphs_are_whole.ensures c.args.tree.now c.args.header.now
    c.args.index.now c.args.number glyph c.requires.header e)) c.judge.result (given c)

pub returns-clause-record : goal.returns-clause-record
returns-clause-record c = given c

pub returns-clause-number : goal.returns-clause-number
returns-clause-number c =
    from_whole c (λ glyph. glyph.number ≡ c.args.number) (λ glyph whole. whole.number_is)

pub returns-clause-places : goal.returns-clause-places
returns-clause-places c =
    from_whole c (λ glyph. glyph.places
    ≡ places_of c.args.tree.now c.args.header.now (glyph_in c.args.index.now c.args.number))
    (λ glyph whole. whole.places)

pub returns-clause-read : goal.returns-clause-read
returns-clause-read c = from_whole c IsReadGlyph (λ glyph whole. whole.read)

pub returns-clause-masters : goal.returns-clause-masters
returns-clause-masters c =
    from_whole c (HasMastersFirst c.args.header.now) (λ glyph whole. whole.masters)

pub returns-clause-bases : goal.returns-clause-bases
returns-clause-bases c =
    from_whole c (HasKnownBases c.args.index.now) (λ glyph whole. whole.bases)

pub judge-requires-clause-header : goal.judge-requires-clause-header
judge-requires-clause-header c =
    c.read_headers_are_whole.ensures c.args.tree.now c.args.header.now c.requires.header
