-- What the masters that are read fulfil where no rule fails: what every call that takes a header
-- asks of them, but for their locations, which are not read here.
use Rattle.std.specs.Prelude.{◌≡◌, ◌≢◌, ℕ, ◌<◌, ◌≤◌, List, [], length, map, codes, Some, None}
use Rattle.std.specs.List.{All, AllPairs}
use Rattle.plist_reader.specs.declared.tree.Tree.{Tree}
use Rattle.refusal_codes.specs.declared.limits.TheConstants.{MASTERS}
use Rattle.refusal_codes.specs.First.{foremost}
use Rattle.font_ir.specs.declared.header.Master.{Master}
use Rattle.font_ir.specs.Headers.{IsAxisCoordinate}
use Rattle.font_ir.specs.FlatGlyphs.{IsSmall}
use Rattle.source_values.specs.Asking.{required}
use Rattle.source_masters.specs.Metrics.{used_metrics}
use Rattle.source_masters.specs.MasterRules.{masters_failures}
use Rattle.source_masters.specs.WholeRules.{too_many_masters, no_master, duplicate_masters}
use Rattle.source_masters.specs.WholeRules.{axis_counts, origin_of, unknown_origin}
use Rattle.source_masters.specs.MasterReading.{masters_of}

-- a master of a font with so many axes, but for its location
pub record IsReadMaster (axes : ℕ) (master : Master) : Type 0 where
  pub design : length master.design ≡ axes
  pub user : length master.user ≡ axes
  pub design_range : All IsAxisCoordinate master.design
  pub user_range : All IsAxisCoordinate master.user
  pub ascender : IsSmall master.ascender
  pub descender : IsSmall master.descender
  pub cap : IsSmall master.cap
  pub xheight : IsSmall master.xheight

-- masters of a font with so many axes
pub record AreReadMasters (axes : ℕ) (masters : List Master) : Type 0 where
  pub some : 1 ≤ length masters
  pub few : length masters ≤ MASTERS
  pub each : All (IsReadMaster axes) masters
  pub ids : AllPairs (λ a b. a ≢ b) (map (λ master. master.id) masters)

-- the masters of a source fail no rule, in a font with so many axes
pub record HasSoundMasters (t : Tree) (axes : ℕ) : Type 0 where
  pub local : required (codes "fontMaster") (masters_failures (used_metrics t)) t t.top ≡ []
  pub few : foremost (too_many_masters t) ≡ None
  pub some : foremost (no_master t) ≡ None
  pub ids : foremost (duplicate_masters t) ≡ None
  pub counts : axis_counts axes t ≡ []
  pub origin : foremost (unknown_origin t) ≡ None

-- the position of the default master, which is below the number of masters
pub record HasOrigin (t : Tree) (masters : List Master) : Type 0 where
  pub origin : ℕ
  pub there : origin_of t ≡ Some origin
  pub within : origin < length masters

-- where no rule fails, the masters that are read fulfil what is asked of them
abbrev pub SoundMastersAreRead : Type 0
SoundMastersAreRead =
    (t : Tree) (axes : List (List ℕ))
    → HasSoundMasters t (length axes)
    → AreReadMasters (length axes) (masters_of t axes) × HasOrigin t (masters_of t axes)
