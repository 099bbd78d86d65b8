-- Worked rows: the styles of a family whose masters lie at 400, the default, and 700, and of one of
-- two axes.
use Rattle.std.proofs.Common.{◌≡◌, ℕ, pos, ℤ, List, [], ◌∷◌, map, codes, refl}
use Rattle.fixed_math.specs.declared.Fixed.{Fixed}
use Rattle.font_ir.specs.declared.header.Axis.{Axis}
use Rattle.font_ir.specs.declared.header.Header.{Header}
use Rattle.font_ir.specs.declared.header.Instance.{Instance}
use Rattle.font_ir.specs.declared.header.Master.{Master}
use Rattle.axis_space.specs.Points.{user_at}
use Rattle.style_tables.specs.Stat.{axis_fields, axis_record, axis_value, stat_head, stat_table}
use Rattle.style_tables.specs.Stat.{value_array, value_fields}
use Rattle.style_tables.specs.AxisValues.{values_of}
use Rattle.style_tables.specs.declared.axis_values.AxisValue.{AxisValue}

-- numbers in 16.16
abbrev fixed_all : List ℤ → List Fixed
fixed_all raw = map (λ z. record { 0 = z }) raw

-- a master at these design and user coordinates, by their raw numbers
abbrev master : List ℤ → List ℤ → Master
master design user = record {
  id = [];
  design = fixed_all design;
  user = fixed_all user;
  location = [];
  ascender = pos 0;
  descender = pos 0;
  cap = pos 0;
  xheight = pos 0;
  place = 0;
}

abbrev axis : List ℕ → Axis
axis tag = record { name = codes "Axis"; tag = record { 0 = tag } }

abbrev instance : List ℤ → Instance
instance design = record { name = codes "Style"; design = fixed_all design }

abbrev family : List Axis → List Master → List Instance → Header
family axes masters instances = record {
  upem = 1000;
  family = codes "Tri";
  major = 1;
  minor = 0;
  axes = axes;
  masters = masters;
  masters_place = 0;
  origin = 0;
  instances = instances;
  kerning = [];
  kern_place = 0;
  features = [];
}

-- 400 and 700 on both scales
abbrev plain : List Master
plain = master (pos 26214400 ∷ []) (pos 26214400 ∷ [])
    ∷ master (pos 45875200 ∷ []) (pos 45875200 ∷ []) ∷ []

-- 42 bytes: the axis, and the value of its default
one_value : stat_table (family (axis (codes "wght") ∷ []) plain [])
    ≡ 0 ∷ 1 ∷ 0 ∷ 1 ∷ 0 ∷ 8 ∷ 0 ∷ 1 ∷ 0 ∷ 0 ∷ 0 ∷ 0x14 ∷ 0 ∷ 1 ∷ 0 ∷ 0 ∷ 0 ∷ 0x1c ∷ 0 ∷ 2
    ∷ 0x77 ∷ 0x67 ∷ 0x68 ∷ 0x74 ∷ 1 ∷ 0 ∷ 0 ∷ 0
    ∷ 0 ∷ 2 ∷ 0 ∷ 1 ∷ 0 ∷ 0 ∷ 0 ∷ 2 ∷ 0 ∷ 2 ∷ 1 ∷ 0x90 ∷ 0 ∷ 0 ∷ []
unfolding stat_table stat_head axis_fields value_fields axis_record value_array axis_value
one_value = refl

abbrev value : ℕ → ℕ → ℕ → ℤ → AxisValue
value axis flags name user = record {
  axis = axis;
  flags = flags;
  name = name;
  user = record { 0 = user };
}

-- Of the instances at 400, 550, 550 and 700 the first one lies at the default and the third one at
-- the second: two have values of their own, under their names. Where design coordinates from 0 to
-- 1000 are user coordinates from 400 to 700, the values have user coordinates.
two_instances : values_of (family (axis (codes "wght") ∷ [])
    (master (pos 0 ∷ []) (pos 26214400 ∷ []) ∷ master (pos 65536000 ∷ []) (pos 45875200 ∷ [])
    ∷ [])
    (instance (pos 0 ∷ []) ∷ instance (pos 32768000 ∷ []) ∷ instance (pos 32768000 ∷ [])
    ∷ instance (pos 65536000 ∷ []) ∷ []))
    ≡ value 0 2 2 (pos 26214400) ∷ value 0 0 258 (pos 36044800) ∷ value 0 0 260 (pos 45875200) ∷ []
unfolding user_at
two_instances = refl

-- in a family of two axes the instances have no values
two_axes : values_of (family (axis (codes "wght") ∷ axis (codes "wdth") ∷ [])
    (master (pos 26214400 ∷ pos 6553600 ∷ []) (pos 26214400 ∷ pos 6553600 ∷ []) ∷ [])
    (instance (pos 26214400 ∷ pos 6553600 ∷ []) ∷ []))
    ≡ value 0 2 2 (pos 26214400) ∷ value 1 2 2 (pos 6553600) ∷ []
two_axes = refl
