-- Which glyphs stay composites, and how their components are placed (Glyphs file format, version 3;
-- OpenType 1.9, "glyf", "Composite glyph description"). That a component stays one where it is only
-- moved, by whole font units, and its base is exported is fontc's own.
use Rattle.std.specs.Prelude.{ℕ, Bool, true, false, ◌&&◌, ◌==◌, not, nat_eq, if◌then◌else◌, List, []}
use Rattle.std.specs.Prelude.{◌∷◌, length, map, slice_index_or, Option, Some, None, ℤ, pos, ◌*ℤ◌}
use Rattle.std.specs.List.{list_all}
use Rattle.std.specs.Map.{lookup}
use Rattle.std.specs.Cmp.Lexicographic.{pointwise}
use Rattle.std.specs.Ordering.{int_eq}
use Rattle.fixed_math.specs.declared.Fixed.{Fixed}
use Rattle.fixed_math.specs.FixedPoint.{floor_quotient}
use Rattle.font_ir.specs.declared.glyph.Shape.{Shape}
use Rattle.font_ir.specs.declared.glyph.Shape.TheVariants.{Path, Component}
use Rattle.font_ir.specs.declared.glyph.LayerIr.{LayerIr}
use Rattle.font_ir.specs.declared.glyph.GlyphIr.{GlyphIr}
use Rattle.font_ir.specs.declared.glyph.Kept.{Kept}
use Rattle.glyphs_source.specs.declared.entries.IndexEntry.{IndexEntry}
use Rattle.component_flatten.specs.Numbered.{flat_numbered}
use Rattle.component_flatten.specs.Drawing.{first_shapes}

-- ---- a component that is only moved

-- a number in 16.16, in font units, rounded down
abbrev pub units : Fixed → ℤ
units f = floor_quotient f.0 (pos 65536)

abbrev pub is_whole : Fixed → Bool
is_whole f = int_eq (units f *ℤ pos 65536) f.0

abbrev pub is_one : Fixed → Bool
is_one f = int_eq f.0 (pos 65536)

abbrev pub is_only_moved : Shape → Bool
is_only_moved (Path contour) = false
is_only_moved (Component base at scale quarters) =
    is_one scale.0 && is_one scale.1 && (quarters == 0) && is_whole at.0 && is_whole at.1

abbrev pub are_only_moved : LayerIr → Bool
are_only_moved layer = list_all is_only_moved layer.shapes

-- ---- a glyph whose components stay

abbrev pub is_exported_entry : Option IndexEntry → Bool
is_exported_entry None = false
is_exported_entry (Some entry) = entry.exported

-- whether the glyph with this name goes into the font
abbrev pub is_exported : List (List ℕ × IndexEntry) → List ℕ → Bool
is_exported index name = is_exported_entry (lookup (pointwise nat_eq name) index)

-- a path has no base
abbrev pub has_exported_base : List (List ℕ × IndexEntry) → Shape → Bool
has_exported_base index (Path contour) = true
has_exported_base index (Component base at scale quarters) = is_exported index base

-- it has only components, at least one, and their bases are exported
abbrev pub stays_composite : List (List ℕ × IndexEntry) → GlyphIr → Bool
stays_composite index glyph =
    not (length (first_shapes glyph) == 0) && list_all are_only_moved glyph.layers
    && list_all (has_exported_base index) (first_shapes glyph)

-- by how much a shape is moved, in font units
abbrev pub offset_of : Shape → ℤ × ℤ
offset_of (Path contour) = (pos 0, pos 0)
offset_of (Component base at scale quarters) = (units at.0, units at.1)

abbrev pub offset_in : ℕ → LayerIr → ℤ × ℤ
offset_in n layer = offset_of (slice_index_or layer.shapes n (Path (record { points = [] })))

-- a component with its number, and its offset in each layer; a path is none
abbrev pub kept_shape : List LayerIr → ℕ → Shape → List Kept
kept_shape layers n (Path contour) = []
kept_shape layers n (Component base at scale quarters) =
    record { base = base; at = map (offset_in n) layers } ∷ []

-- the components that stay
abbrev pub kept_of : List (List ℕ × IndexEntry) → GlyphIr → List Kept
kept_of index glyph =
    if stays_composite index glyph
    then flat_numbered (kept_shape glyph.layers) 0 (first_shapes glyph) else []
