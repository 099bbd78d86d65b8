-- Glyphs that are shared, as the bases of a glyph.
use Rattle.std.proofs.Common.{◌≡◌, true, List, get_or}
use Rattle.std.specs.Prelude.{◌==◌}
use Rattle.std.specs.Cmp.{unsigned_Decides}
use Rattle.std.specs.List.{All, list_all}
use Rattle.std.proofs.lemmas.List.Sums.{AllPass-from_list_all}
use Rattle.std.specs.Arc.{arc_value}
use Rattle.std.specs.declared.alloc.Global.{Global}
use Rattle.std.specs.declared.sync.Arc.{Arc}
use Rattle.std.proofs.lemmas.List.Elements.{All-map}
use Rattle.fixed_math.specs.declared.F2Dot14.{F2Dot14}
use Rattle.font_ir.specs.declared.glyph.FlatGlyph.{FlatGlyph}
use Rattle.font_ir.specs.FlatGlyphs.{IsFlatGlyph, glyphs_of}
use Rattle.font_ir.specs.Places.{axis_count}
use Rattle.component_flatten.specs.Flattening.{IsBase}

has_axes : (places : List (List F2Dot14)) (bases : List (Arc FlatGlyph Global))
    → list_all (λ base. axis_count (arc_value {X = FlatGlyph} base).places == axis_count places) bases ≡ true
    → All (λ base. axis_count (arc_value {X = FlatGlyph} base).places ≡ axis_count places) bases
has_axes places bases e = λ k base lt.
    (unsigned_Decides (axis_count (arc_value {X = FlatGlyph} (get_or bases k base)).places) (axis_count places)).0
    (AllPass-from_list_all (λ base. axis_count (arc_value {X = FlatGlyph} base).places == axis_count places) bases e
    k base lt)

pub bases_fit : (places : List (List F2Dot14)) (bases : List (Arc FlatGlyph Global))
    → All (λ base. IsFlatGlyph (arc_value base)) bases
    → list_all (λ base. axis_count (arc_value {X = FlatGlyph} base).places == axis_count places) bases ≡ true
    → All (IsBase places) (glyphs_of bases)
bases_fit places bases flat e = All-map (IsBase places) arc_value bases
    (λ k base lt. record { flat = flat k base lt; axes = has_axes places bases e k base lt })
