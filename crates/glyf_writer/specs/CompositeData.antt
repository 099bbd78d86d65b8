-- The bytes of a composite glyph (OpenType 1.9, "glyf", "Glyph Headers" and "Composite Glyph
-- Description"). Each component stands by its offset alone, in words; the padding is fontc's own.
use Rattle.std.specs.Prelude.{ℕ, ℤ, pos, neg_ℤ, Bool, true, false, List, [], ◌∷◌, ◌++◌}
use Rattle.std.specs.Prelude.{slice_index_or, unwrap_or, if◌then◌else◌}
use Rattle.font_ir.specs.declared.glyph.FlatGlyph.{FlatGlyph}
use Rattle.font_ir.specs.declared.glyph.Kept.{Kept}
use Rattle.font_ir.specs.declared.outline.StoredPoint.{StoredPoint}
use Rattle.font_ir.specs.Outlines.{points_at, bounds_of}
use Rattle.table_bytes.specs.DataTypes.{uint16, int16, padded}

-- a glyph, and where it is moved to
pub record Component : Type 0 where
  pub glyph : ℕ
  pub x : ℤ
  pub y : ℤ

pub record CompositeGlyph : Type 0 where
  pub contour_count : ℤ
  -- xMin, yMin, xMax and yMax
  pub bounds : List ℤ
  pub components : List Component

-- bit 0: the offset is in words; bit 1: it is an offset, not two points; bit 5: more components
-- follow
abbrev pub flags_of : Bool → ℕ
flags_of more = if more then 35 else 3

abbrev pub component_bytes : Bool → Component → List ℕ
component_bytes more component = uint16 (flags_of more) ++ uint16 component.glyph
    ++ int16 component.x ++ int16 component.y

abbrev pub components_bytes : List Component → List ℕ
components_bytes [] = []
components_bytes (component ∷ []) = component_bytes false component
components_bytes (component ∷ next ∷ others) = component_bytes true component
    ++ components_bytes (next ∷ others)

abbrev pub composite_bytes : CompositeGlyph → List ℕ
composite_bytes glyph =
    int16 glyph.contour_count
    ++ int16 (slice_index_or glyph.bounds 0 (pos 0))
    ++ int16 (slice_index_or glyph.bounds 1 (pos 0))
    ++ int16 (slice_index_or glyph.bounds 2 (pos 0))
    ++ int16 (slice_index_or glyph.bounds 3 (pos 0))
    ++ components_bytes glyph.components

-- a kept component's glyph number, and where it stands at a place
abbrev pub component_at : ℕ → Kept → ℕ → Component
component_at place kept gid = record {
  glyph = gid;
  x = (slice_index_or kept.at place (pos 0, pos 0)).0;
  y = (slice_index_or kept.at place (pos 0, pos 0)).1;
}

-- kept components with a glyph number each
abbrev pub components_at : ℕ → List Kept → List ℕ → List Component
components_at place [] gids = []
components_at place (kept ∷ others) [] = []
components_at place (kept ∷ others) (gid ∷ gids) = component_at place kept gid
    ∷ components_at place others gids

-- a glyph of components, and the points that are drawn of it. Its bounds are theirs, and zeros
-- where
-- there is none.
abbrev pub composite_of : List StoredPoint → List Component → CompositeGlyph
composite_of points components = record {
  contour_count = neg_ℤ (pos 1);
  bounds = unwrap_or (bounds_of points) (pos 0 ∷ pos 0 ∷ pos 0 ∷ pos 0 ∷ []);
  components = components;
}

-- what is stored of a glyph of kept components at a place, with zeros up to a multiple of four
-- bytes
abbrev pub composite_data : ℕ → FlatGlyph → List ℕ → List ℕ
composite_data place glyph gids = padded (composite_bytes
    (composite_of (points_at place glyph) (components_at place glyph.kept gids)))
