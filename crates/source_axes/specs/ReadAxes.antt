-- What the axes and the instances that are read fulfil where no rule fails: what every call that
-- takes a header asks of them.
use Rattle.std.specs.Prelude.{◌≡◌, ℕ, ◌≤◌, List, [], length, codes, None}
use Rattle.std.specs.List.{All}
use Rattle.plist_reader.specs.declared.tree.Tree.{Tree}
use Rattle.refusal_codes.specs.declared.limits.TheConstants.{AXES, INSTANCES}
use Rattle.refusal_codes.specs.First.{foremost}
use Rattle.font_ir.specs.declared.header.Axis.{Axis}
use Rattle.font_ir.specs.declared.header.Instance.{Instance}
use Rattle.font_ir.specs.Headers.{IsNameLong, IsInstance}
use Rattle.font_ir.specs.Tags.{IsTag}
use Rattle.source_values.specs.Asking.{optional}
use Rattle.source_axes.specs.AxisReading.{axes_failures, axes_of, too_many_axes}
use Rattle.source_axes.specs.InstanceReading.{instances_failures, instances_of}
use Rattle.source_axes.specs.InstanceReading.{instance_count_failures}

pub record AreReadAxes (axes : List Axis) : Type 0 where
  pub few : length axes ≤ AXES
  pub names : All (λ axis. IsNameLong axis.name) axes
  pub tags : All (λ axis. IsTag axis.tag) axes

-- instances of a font with so many axes
pub record AreReadInstances (axes : ℕ) (instances : List Instance) : Type 0 where
  pub few : length instances ≤ INSTANCES
  pub each : All (IsInstance axes) instances

-- the axes of a source fail no rule, and nor do its instances
pub record HasSoundAxes (t : Tree) : Type 0 where
  pub local : optional (codes "axes") axes_failures t t.top ≡ []
  pub few : foremost (too_many_axes t) ≡ None

pub record HasSoundInstances (t : Tree) (axes : ℕ) : Type 0 where
  pub local : optional (codes "instances") instances_failures t t.top ≡ []
  pub counts : instance_count_failures t axes ≡ []

-- where no rule fails, what is read fulfils what is asked of it
abbrev pub SoundAxesAreRead : Type 0
SoundAxesAreRead = (t : Tree) → HasSoundAxes t → AreReadAxes (axes_of t)

abbrev pub SoundInstancesAreRead : Type 0
SoundInstancesAreRead =
    (t : Tree) (axes : ℕ) → HasSoundInstances t axes → AreReadInstances axes (instances_of t)
