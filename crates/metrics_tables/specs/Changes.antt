-- How the advance widths of a font's glyphs change over its design space: the masters' regions behind
-- the first and the others in which one changes, and each glyph's deltas there (OpenType 1.9,
-- "HVAR"). Which regions a font has, and their order, are fontc's own.
use Rattle.std.specs.Prelude.{◌≡◌, ℕ, ◌+◌, nat_lt, Bool, not, if◌then◌else◌, List, [], ◌∷◌, ◌++◌}
use Rattle.std.specs.Prelude.{length, map}
use Rattle.std.specs.Prelude.{drop, take, filter, ℤ, pos, ◌*ℤ◌, Option, None, Some}
use Rattle.std.specs.List.{flat_map, fold, list_any, zip}
use Rattle.std.specs.Option.{option_map}
use Rattle.std.specs.Ordering.{int_eq}
use Rattle.std.specs.Cmp.Lexicographic.{pointwise}
use Rattle.fixed_math.specs.declared.F2Dot14.{F2Dot14}
use Rattle.fixed_math.specs.declared.Fixed.{Fixed}
use Rattle.font_ir.specs.declared.header.Header.{Header}
use Rattle.font_ir.specs.declared.glyph.FlatGlyph.{FlatGlyph}
use Rattle.font_ir.specs.declared.variation.Region.{Region}
use Rattle.variation_model.specs.Supports.{supports_of}
use Rattle.variation_model.specs.Deltas.{deltas_of, first_large}
use Rattle.metrics_tables.specs.declared.changes.LargeDelta.{LargeDelta}

-- the masters' locations, in their order
abbrev pub master_places : Header → List (List F2Dot14)
master_places header = map (λ master. master.location) header.masters

-- a glyph's first places are these
abbrev pub BeginsWithMasters : Header → FlatGlyph → Type 0
BeginsWithMasters header glyph = take (length header.masters) glyph.places ≡ master_places header

-- ---- one glyph

-- a number of font units in 16.16
abbrev pub in_16_16 : ℤ → Fixed
in_16_16 width = record { 0 = width *ℤ pos 65536 }

-- the deltas of a glyph's advance width, in the order of the model of its places
abbrev pub advance_deltas : FlatGlyph → List ℤ
advance_deltas glyph = deltas_of glyph.places (map in_16_16 glyph.widths)

-- a region, and by how much an advance width changes there
abbrev pub Change : Type 0
Change = Region × ℤ

abbrev pub is_change : Change → Bool
is_change change = not (int_eq change.1 (pos 0))

-- the supports behind the first at which the delta isn't zero, with it
abbrev pub changes_over : List Region → List ℤ → List Change
changes_over supports deltas = filter is_change (zip supports deltas)

abbrev pub changes_of : FlatGlyph → List Change
changes_of glyph = changes_over (drop 1 (supports_of glyph.places)) (drop 1 (advance_deltas glyph))

-- ---- the regions

-- the numbers of a region: start, peak and end on each axis
abbrev pub numbers_of : Region → List ℤ
numbers_of region = flat_map (λ side. side.0.0 ∷ side.1.0 ∷ side.2.0 ∷ []) region.sides

abbrev pub same_region : Region → Region → Bool
same_region a b = pointwise int_eq (numbers_of a) (numbers_of b)

abbrev pub is_there : List Region → Region → Bool
is_there regions region = list_any (same_region region) regions

-- a region that isn't there yet stands behind the others
abbrev pub with_region : List Region → Region → List Region
with_region regions region = if is_there regions region then regions else regions ++ region ∷ []

abbrev pub with_changes : List Region → List Change → List Region
with_changes regions changes = fold (λ so_far change. with_region so_far change.0) regions changes

abbrev pub with_glyphs : List Region → List FlatGlyph → List Region
with_glyphs regions glyphs = fold (λ so_far glyph. with_changes so_far (changes_of glyph)) regions
    glyphs

-- the masters' supports behind the first, and then, glyph by glyph, those of its changes
abbrev pub regions_of : Header → List FlatGlyph → List Region
regions_of header glyphs = with_glyphs (drop 1 (supports_of (master_places header))) glyphs

-- ---- the rows

-- the delta that a glyph has at a region: 0 where nothing changes there
abbrev pub delta_at : List Change → Region → ℤ
delta_at changes region =
    fold (λ so_far change. if same_region change.0 region then change.1 else so_far) (pos 0) changes

abbrev pub row_over : List Region → List Change → List ℤ
row_over regions changes = map (delta_at changes) regions

-- ---- what can't be stored

-- the first delta that an int16 doesn't hold, of a glyph that has this number in the font
abbrev pub large_of : ℕ → FlatGlyph → Option LargeDelta
large_of gid glyph =
    option_map (λ large. record { number = glyph.number; gid = gid; value = large.1 })
    (first_large 0 (advance_deltas glyph))

-- of two of them that of the glyph that stands first in the source, and the first one where their
-- glyphs have the same place there
abbrev pub first_in_source : LargeDelta → LargeDelta → LargeDelta
first_in_source large other = if nat_lt other.number large.number then other else large

abbrev pub first_of : Option LargeDelta → Option LargeDelta → Option LargeDelta
first_of None others = others
first_of (Some large) None = Some large
first_of (Some large) (Some other) = Some (first_in_source large other)

-- that of the glyph that stands first in the source, of glyphs of which the first one has this
-- number in the font
abbrev pub large_from : ℕ → List FlatGlyph → Option LargeDelta
large_from gid [] = None
large_from gid (glyph ∷ glyphs) = first_of (large_of gid glyph) (large_from (gid + 1) glyphs)
