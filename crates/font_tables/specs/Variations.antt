-- How the points of one glyph change over a font's design space: its data in gvar, or why they
-- can't be written (OpenType 1.9, "gvar", "Glyph variation data"). That the regions of the font's
-- masters are shared is fontc's own.
use Rattle.std.specs.Prelude.{ℕ, ℤ, List, drop, map, Option, None, Some, Result, Ok, Err}
use Rattle.refusal_codes.specs.declared.refusal.Refusal.{Refusal}
use Rattle.refusal_codes.specs.declared.rule.Rule.TheVariants.{DeltaTooLarge}
use Rattle.refusal_codes.specs.declared.job.TheConstants.{VARIATIONS}
use Rattle.refusal_codes.specs.First.{refusal_of}
use Rattle.fixed_math.specs.declared.F2Dot14.{F2Dot14}
use Rattle.font_ir.specs.declared.header.Header.{Header}
use Rattle.font_ir.specs.declared.glyph.FlatGlyph.{FlatGlyph}
use Rattle.font_ir.specs.declared.variation.Region.{Region}
use Rattle.variation_model.specs.Supports.{supports_of}
use Rattle.gvar_writer.specs.GlyphPoints.{too_large}
use Rattle.gvar_writer.specs.GlyphVariations.{variation_data}

-- where the masters lie
abbrev pub places_of : Header → List (List F2Dot14)
places_of header = map (λ master. master.location) header.masters

-- the regions that glyphs share: those of places but for the first, at which nothing moves
abbrev pub regions_behind : List (List F2Dot14) → List Region
regions_behind places = drop 1 (supports_of places)

abbrev pub shared_of : Header → List Region
shared_of header = regions_behind (places_of header)

-- a delta of a point can't be stored
abbrev pub variations_refused : List ℕ → FlatGlyph → Refusal
variations_refused name glyph = refusal_of VARIATIONS name
    (record { rule = DeltaTooLarge; place = glyph.place })

abbrev pub variations_unless : Option (ℕ × ℤ) → List Region → List ℕ → FlatGlyph
    → Result (List ℕ) Refusal
variations_unless (Some large) shared name glyph = Err (variations_refused name glyph)
variations_unless None shared name glyph = Ok (variation_data shared glyph)

-- the data of a glyph with this name, in a font of which the glyphs share these regions
abbrev pub variations_over : List Region → List ℕ → FlatGlyph → Result (List ℕ) Refusal
variations_over shared name glyph = variations_unless (too_large glyph) shared name glyph

-- the same in a font with this header
abbrev pub variations_of : Header → List ℕ → FlatGlyph → Result (List ℕ) Refusal
variations_of header name glyph = variations_over (shared_of header) name glyph
