-- Where masters and layers lie in a design space (OpenType 1.9, "Coordinate scales and
-- normalization"): on each axis their design coordinate is normalised between the least one of the
-- masters, the default master's and the greatest one. That it is the design coordinate, and not the
-- user's, is fontc's own.
use Rattle.std.specs.Prelude.{◌≡◌, ◌≢◌, ℕ, ◌<◌, ◌≤◌, List, map, length, ◌≤ℤ◌}
use Rattle.std.specs.List.{All, AllPairs, AllZip, range_with_len}
use Rattle.fixed_math.specs.declared.F2Dot14.{F2Dot14}
use Rattle.fixed_math.specs.declared.Fixed.{Fixed}
use Rattle.font_ir.specs.declared.header.Header.{Header}
use Rattle.font_ir.specs.declared.header.Master.{Master}
use Rattle.font_ir.specs.declared.header.CoordinateScale.TheVariants.{Design}
use Rattle.font_ir.specs.Normal.{normalised}
use Rattle.font_ir.specs.Extremes.{least, greatest}
use Rattle.font_ir.specs.Coordinates.{coordinate_at, coordinates_on, default_on, normal_on}
use Rattle.font_ir.specs.Headers.{location_at, LieWhereTheySay, HasMap}

-- a master has so many design and user coordinates, or more
pub record HasAxes (axes : ℕ) (master : Master) : Type 0 where
  pub design : axes ≤ length master.design
  pub user : axes ≤ length master.user

-- a design coordinate lies between the masters' least and greatest one on an axis
pub record IsWithin (masters : List Master) (axis : ℕ) (v : Fixed) : Type 0 where
  pub from_least : least (coordinates_on Design axis masters) ≤ℤ v.0
  pub to_greatest : v.0 ≤ℤ greatest (coordinates_on Design axis masters)

-- design coordinates do so on each of their axes
abbrev pub AreWithin : List Master → List Fixed → Type 0
AreWithin masters design =
    (axis : ℕ) → axis < length design → IsWithin masters axis (coordinate_at design axis)

-- a design coordinate, normalised on an axis. The default master is the one at origin
abbrev pub normal_at : List Master → ℕ → ℕ → Fixed → F2Dot14
normal_at masters origin axis v =
    let all = coordinates_on Design axis masters in
    record { 0 = normalised v.0 (least all) (default_on Design origin axis masters) (greatest all) }

-- the place of design coordinates, on so many axes
unfoldable pub place_of : List Master → ℕ → ℕ → List Fixed → List F2Dot14
place_of masters origin axes design =
    map (λ axis. normal_at masters origin axis (coordinate_at design axis)) (range_with_len 0 axes)

-- masters with their places. Nothing else of them changes
abbrev pub placed_master : List Master → ℕ → ℕ → Master → Master
placed_master masters origin axes master =
    record master { location = place_of masters origin axes master.design }

unfoldable pub placed : ℕ → ℕ → List Master → List Master
placed origin axes masters = map (placed_master masters origin axes) masters

-- a master is another one but for the location
pub record IsBesideLocation (before after : Master) : Type 0 where
  pub id : after.id ≡ before.id
  pub design : after.design ≡ before.design
  pub user : after.user ≡ before.user
  pub ascender : after.ascender ≡ before.ascender
  pub descender : after.descender ≡ before.descender
  pub cap : after.cap ≡ before.cap
  pub xheight : after.xheight ≡ before.xheight
  pub place : after.place ≡ before.place

-- masters are the same as before but for their locations, which have a number for each axis; and on
-- each axis they lie where their design coordinate is between the least and the greatest one
pub record ArePlaced (origin axes : ℕ) (before after : List Master) : Type 0 where
  pub same : AllZip IsBesideLocation before after
  pub one_each : All (λ master. length master.location ≡ axes) after
  pub lie : (axis : ℕ) → axis < axes → All (λ master. location_at axis master
      ≡ normal_on Design origin axis after master) after

-- what the masters of a header and their axes have to fulfil: the masters lie where they say, no
-- two of them at one place, and each axis has a map
pub record FulfilsPlaces (header : Header) : Type 0 where
  pub locations : (axis : ℕ) → axis < length header.axes → LieWhereTheySay header axis
  pub different : AllPairs (λ a b. a ≢ b) (map (λ master. master.location) header.masters)
  pub maps : (axis : ℕ) → axis < length header.axes → HasMap header axis
