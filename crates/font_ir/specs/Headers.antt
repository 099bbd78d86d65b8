-- What a header fulfils: the ranges of its numbers, lengths and counts, as many coordinates as
-- axes, masters that lie where their coordinates say, no two of them at one place, and a map from
-- user to design coordinates on each axis. The ranges are fontc's own.
use Rattle.std.specs.Prelude.{◌≡◌, ◌≢◌, ℕ, ◌<◌, ◌≤◌, ℤ, pos, neg_ℤ, ◌≤ℤ◌, List, length, map}
use Rattle.std.specs.Prelude.{slice_index_or}
use Rattle.std.specs.List.{All, AllPairs}
use Rattle.fixed_math.specs.declared.Fixed.{Fixed}
use Rattle.fixed_math.specs.declared.F2Dot14.{F2Dot14}
use Rattle.refusal_codes.specs.declared.limits.TheConstants.{NAME_BYTES, AXES, MASTERS, INSTANCES}
use Rattle.font_ir.specs.declared.header.Axis.{Axis}
use Rattle.font_ir.specs.declared.header.Instance.{Instance}
use Rattle.font_ir.specs.declared.header.Master.{Master}
use Rattle.font_ir.specs.declared.header.KernEntry.{KernEntry}
use Rattle.font_ir.specs.declared.header.Header.{Header}
use Rattle.font_ir.specs.declared.header.CoordinateScale.TheVariants.{Design}
use Rattle.font_ir.specs.Tags.{IsTag}
use Rattle.font_ir.specs.FlatGlyphs.{IsSmall}
use Rattle.font_ir.specs.Coordinates.{normal_on}
use Rattle.font_ir.specs.AxisMaps.{Pair, pairs_of, IsRisingList}

-- a name has 1 to 255 bytes
abbrev pub IsNameLong : List ℕ → Type 0
IsNameLong name = (1 ≤ length name) × (length name ≤ NAME_BYTES)

-- a kerning value is a number of 16 bits (OpenType 1.9, "Data types", FWORD)
abbrev pub IsKerningValue : ℤ → Type 0
IsKerningValue z = (neg_ℤ (pos 32768) ≤ℤ z) × (z ≤ℤ pos 32767)

-- a coordinate is from -32767 to 32767: in 16.16 its raw number is at most 32767 times 65536 in
-- size
abbrev pub IsAxisCoordinate : Fixed → Type 0
IsAxisCoordinate f = (neg_ℤ (pos 2147418112) ≤ℤ f.0) × (f.0 ≤ℤ pos 2147418112)

-- a master of a font with so many axes
pub record IsMaster (axes : ℕ) (master : Master) : Type 0 where
  pub design : length master.design ≡ axes
  pub user : length master.user ≡ axes
  pub location : length master.location ≡ axes
  pub design_range : All IsAxisCoordinate master.design
  pub user_range : All IsAxisCoordinate master.user
  pub ascender : IsSmall master.ascender
  pub descender : IsSmall master.descender
  pub cap : IsSmall master.cap
  pub xheight : IsSmall master.xheight

pub record IsInstance (axes : ℕ) (instance : Instance) : Type 0 where
  pub name : IsNameLong instance.name
  pub design : length instance.design ≡ axes
  pub design_range : All IsAxisCoordinate instance.design

-- two entries are of different masters, or of different pairs
abbrev pub AreOfTwoPairs : KernEntry → KernEntry → Type 0
AreOfTwoPairs a b = ¬ ((a.master ≡ b.master) × (a.first ≡ b.first) × (a.second ≡ b.second))

abbrev pub location_at : ℕ → Master → F2Dot14
location_at axis master = slice_index_or master.location axis (record { 0 = pos 0 })

-- on an axis each master lies where its design coordinate is between the least and the greatest one
-- of the masters
abbrev pub LieWhereTheySay : Header → ℕ → Type 0
LieWhereTheySay header axis =
    All (λ master. location_at axis master
    ≡ normal_on Design header.origin axis header.masters master) header.masters

-- an axis has a map from user to design coordinates
abbrev pub HasMap : Header → ℕ → Type 0
HasMap header axis = (pairs : List Pair)
    × IsRisingList (pairs_of header.masters header.origin axis) pairs

pub record IsHeader (header : Header) : Type 0 where
  pub units : (16 ≤ header.upem) × (header.upem ≤ 16384)
  pub family : IsNameLong header.family
  pub major : header.major ≤ 32767
  pub minor : header.minor ≤ 999
  pub few_axes : length header.axes ≤ AXES
  pub axes : All (λ axis. IsNameLong axis.name) header.axes
  pub tags : All (λ axis. IsTag axis.tag) header.axes
  pub few_masters : length header.masters ≤ MASTERS
  pub masters : All (IsMaster (length header.axes)) header.masters
  pub origin : header.origin < length header.masters
  pub few_instances : length header.instances ≤ INSTANCES
  pub instances : All (IsInstance (length header.axes)) header.instances
  pub kerning : All (λ entry. entry.master < length header.masters) header.kerning
  pub kerning_values : All (λ entry. IsKerningValue entry.value) header.kerning
  pub one_value : AllPairs AreOfTwoPairs header.kerning
  pub locations : (axis : ℕ) → axis < length header.axes → LieWhereTheySay header axis
  pub different : AllPairs (λ a b. a ≢ b) (map (λ master. master.location) header.masters)
  pub maps : (axis : ℕ) → axis < length header.axes → HasMap header axis
