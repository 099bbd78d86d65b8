-- What the layers of a glyph say, as the job of a glyph's layers answers it (Glyphs file format,
-- version 3; the rules and their order are fontc's own). The local rules come first, at the least
-- place; then the whole rules in their order.
use Rattle.std.specs.Prelude.{ℕ, List, [], length, map, flat_map, Option, Result, slice_get}
use Rattle.std.specs.Option.{option_map_or}
use Rattle.plist_reader.specs.declared.tree.Tree.{Tree}
use Rattle.font_ir.specs.declared.header.Header.{Header}
use Rattle.font_ir.specs.declared.glyph.GlyphIr.{GlyphIr}
use Rattle.refusal_codes.specs.declared.refusal.Refusal.{Refusal}
use Rattle.refusal_codes.specs.declared.first.Failure.{Failure}
use Rattle.refusal_codes.specs.First.{first_of, foremost, or_next, refusal_of, judged}
use Rattle.refusal_codes.specs.declared.job.TheConstants.{RAW}
use Rattle.source_values.specs.Values.{place_at}
use Rattle.glyphs_source.specs.declared.entries.IndexEntry.{IndexEntry}
use Rattle.glyphs_layers.specs.declared.layers.SourceLayer.{SourceLayer}
use Rattle.glyphs_layers.specs.SourceLayers.{source_layers}
use Rattle.glyphs_layers.specs.GlyphRules.{glyph_failures}
use Rattle.glyphs_layers.specs.GlyphPlaces.{layers_failure, places_of, places_failure}
use Rattle.glyphs_layers.specs.Forms.{record_of, incompatible}
use Rattle.glyphs_layers.specs.Bases.{unknown_components, too_many_components}

-- the name of the glyph with this number in the index, and its dictionary
abbrev pub name_in : List (List ℕ × IndexEntry) → ℕ → List ℕ
name_in index number = option_map_or (λ glyph. glyph.0) (slice_get index number) []

abbrev pub glyph_in : List (List ℕ × IndexEntry) → ℕ → ℕ
glyph_in index number = option_map_or (λ glyph. glyph.1.node) (slice_get index number) 0

-- the whole rules on what the layers hold: their forms in the order of the places, and then
-- components, each rule at its least place
unfoldable pub shapes_failure : Tree → List (List ℕ × IndexEntry) → List SourceLayer
    → Option Failure
shapes_failure t index layers =
    or_next (foremost (incompatible t layers))
    (or_next (first_of (flat_map (unknown_components t index) layers))
    (first_of (flat_map (too_many_components t) layers)))

unfoldable pub glyph_record : Tree → Header → ℕ → ℕ → GlyphIr
glyph_record t header number glyph = record {
  number = number;
  place = place_at t glyph;
  masters = length header.masters;
  places = places_of t header glyph;
  layers = map (record_of t) (source_layers t header glyph);
}

-- the first of the whole rules that fail, in their order
unfoldable pub whole_failure : Tree → Header → List (List ℕ × IndexEntry) → ℕ → Option Failure
whole_failure t header index glyph =
    let layers = source_layers t header glyph in
    or_next (layers_failure t header glyph)
    (or_next (places_failure t glyph layers (places_of t header glyph))
    (shapes_failure t index layers))

-- the answer where these are the local rules that fail
unfoldable pub judged_glyph : List Failure → Tree → Header → List (List ℕ × IndexEntry) → ℕ
    → Result GlyphIr Refusal
judged_glyph local t header index number =
    let glyph = glyph_in index number in
    judged (refusal_of RAW (name_in index number)) (first_of local)
    (whole_failure t header index glyph) (glyph_record t header number glyph)

-- the layers of the glyph with this number in the index
abbrev pub glyph_of : Tree → Header → List (List ℕ × IndexEntry) → ℕ → Result GlyphIr Refusal
glyph_of t header index number =
    judged_glyph (glyph_failures t header (glyph_in index number)) t header index number
