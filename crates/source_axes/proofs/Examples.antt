-- Worked examples: the axes and the instances of small sources, and the rules that they fail.
use Rattle.std.specs.Prelude.{◌≡◌, ℕ, ◌+◌, List, [], ◌∷◌, ◌++◌, length, map, replicate, ℤ, pos}
use Rattle.std.specs.Prelude.{negsuc, codes, refl}
use Rattle.plist_reader.specs.declared.tree.Tree.{Tree}
use Rattle.plist_reader.specs.declared.tree.TreeNode.{TreeNode}
use Rattle.plist_reader.specs.declared.tree.TreeValue.TheVariants as tree
use Rattle.font_ir.specs.declared.header.Axis.{Axis}
use Rattle.font_ir.specs.declared.header.Instance.{Instance}
use Rattle.refusal_codes.specs.declared.rule.Rule.{Rule}
use Rattle.refusal_codes.specs.declared.rule.Rule.TheVariants.{MissingKey, OutOfRange, NotWhole}
use Rattle.refusal_codes.specs.declared.rule.Rule.TheVariants.{BadTag, TooManyAxes, AxisCount}
use Rattle.refusal_codes.specs.declared.first.Failure.{Failure}
use Rattle.source_values.specs.Asking.{optional}
use Rattle.source_axes.specs.AxisValues.{axis_coordinate}
use Rattle.source_axes.specs.AxisReading.{axes_failures, axes_of, too_many_axes}
use Rattle.source_axes.specs.InstanceReading.{instances_failures, instances_of}
use Rattle.source_axes.specs.InstanceReading.{instance_count_failures}
use Rattle.source_axes.specs.OnLiterals.{axes_on_literals}

-- a bare word at a place, a quoted text, a list and a dictionary between two places
abbrev word : ℕ → List ℕ → TreeNode
word place bytes = record { place = place; end = place + length bytes; value = tree.Text bytes }

abbrev quoted : ℕ → ℕ → List ℕ → TreeNode
quoted from to bytes = record { place = from; end = to; value = tree.Text bytes }

abbrev items : ℕ → ℕ → List ℕ → TreeNode
items from to numbers = record { place = from; end = to; value = tree.Items numbers }

abbrev pairs : ℕ → ℕ → List (ℕ × ℕ) → TreeNode
pairs from to numbers = record { place = from; end = to; value = tree.Pairs numbers }

abbrev failure : Rule → ℕ → Failure
failure rule place = record { rule = rule; place = place }

abbrev local_axes : Tree → List Failure
local_axes t = optional (codes "axes") axes_failures t t.top

abbrev local_instances : Tree → List Failure
local_instances t = optional (codes "instances") instances_failures t t.top

-- ---- coordinates in 16.16

abbrev number : List ℕ → Tree
number text = record { top = 0; nodes = word 0 text ∷ [] }

-- thousandths and billionths are rounded to the nearest, and halves up; what is out of range is 0
abbrev coordinate_rows : List (List ℕ × ℤ)
coordinate_rows =
    (codes "400", pos 26214400)
    ∷ (codes "-32767", negsuc 2147418111)
    ∷ (codes "32767", pos 2147418112)
    ∷ (codes "0.5", pos 32768)
    ∷ (codes "10000.1", pos 655366554)
    ∷ (codes "0.000007629", pos 0)
    ∷ (codes "0.000007630", pos 1)
    ∷ (codes "-0.00000763", negsuc 0)
    ∷ (codes "0.00000762939453125", pos 0)
    ∷ (codes "32767.000000001", pos 0)
    ∷ (codes "wide", pos 0)
    ∷ []

coordinates-computed :
    map (λ row. (axis_coordinate (number row.0) 0).0) coordinate_rows
    ≡ map (λ row. row.1) coordinate_rows
unfolding axes_on_literals
coordinates-computed = refl

-- ---- axes and instances

-- two axes; two instances are kept, of which one has one coordinate, the others are not exported
-- and of another type
abbrev pub two_axes : Tree
two_axes = record {
  top = 40;
  nodes =
      word 1 (codes "axes") ∷
      word 8 (codes "name") ∷
      word 13 (codes "Weight") ∷
      word 20 (codes "tag") ∷
      word 24 (codes "wght") ∷
      pairs 7 30 ((1, 2) ∷ (3, 4) ∷ []) ∷
      word 32 (codes "name") ∷
      word 37 (codes "Width") ∷
      word 43 (codes "tag") ∷
      word 47 (codes "wd") ∷
      pairs 31 51 ((6, 7) ∷ (8, 9) ∷ []) ∷
      items 6 52 (5 ∷ 10 ∷ []) ∷
      word 53 (codes "instances") ∷
      word 65 (codes "name") ∷
      word 70 (codes "Bold") ∷
      word 75 (codes "axesValues") ∷
      word 87 (codes "10000.1") ∷
      word 95 (codes "-0.5") ∷
      items 86 100 (16 ∷ 17 ∷ []) ∷
      pairs 64 102 ((13, 14) ∷ (15, 18) ∷ []) ∷
      word 104 (codes "name") ∷
      word 109 (codes "Off") ∷
      word 113 (codes "exports") ∷
      word 121 (codes "0") ∷
      word 123 (codes "axesValues") ∷
      word 135 (codes "1") ∷
      items 134 137 (25 ∷ []) ∷
      pairs 103 139 ((20, 21) ∷ (22, 23) ∷ (24, 26) ∷ []) ∷
      word 141 (codes "name") ∷
      word 146 (codes "Var") ∷
      word 150 (codes "type") ∷
      word 155 (codes "variable") ∷
      pairs 140 165 ((28, 29) ∷ (30, 31) ∷ []) ∷
      word 167 (codes "name") ∷
      word 172 (codes "Odd") ∷
      word 176 (codes "axesValues") ∷
      word 188 (codes "1") ∷
      items 187 190 (36 ∷ []) ∷
      pairs 166 192 ((33, 34) ∷ (35, 37) ∷ []) ∷
      items 63 193 (19 ∷ 27 ∷ 32 ∷ 38 ∷ []) ∷
      pairs 0 195 ((0, 11) ∷ (12, 39) ∷ []) ∷ [];
}

-- tags are padded, and coordinates rounded: 65536 times 10000.1 is 655366553.6
axes-read : axes_of two_axes ≡
    record { name = codes "Weight"; tag = record { 0 = codes "wght" } }
    ∷ record { name = codes "Width"; tag = record { 0 = codes "wd  " } } ∷ []
unfolding axes_on_literals
axes-read = refl

instances-read : instances_of two_axes ≡
    record {
      name = codes "Bold";
      design = record { 0 = pos 655366554 } ∷ record { 0 = negsuc 32767 } ∷ [];
    }
    ∷ record { name = codes "Odd"; design = record { 0 = pos 65536 } ∷ [] } ∷ []
unfolding axes_on_literals
instances-read = refl

-- no local rule fails; of the kept instances one hasn't two coordinates
no-axes-fail : local_axes two_axes ++ too_many_axes two_axes ++ local_instances two_axes ≡ []
unfolding axes_on_literals
no-axes-fail = refl

one-count-fails : instance_count_failures two_axes 2 ≡ failure AxisCount 166 ∷ []
unfolding axes_on_literals
one-count-fails = refl

-- a tag that stands again, one with a space, one of five bytes, an axis without a name and one
-- without a tag
abbrev pub bad_axes : Tree
bad_axes = record {
  top = 33;
  nodes =
      word 1 (codes "axes") ∷
      word 8 (codes "name") ∷
      word 13 (codes "A") ∷
      word 15 (codes "tag") ∷
      word 19 (codes "wght") ∷
      pairs 7 25 ((1, 2) ∷ (3, 4) ∷ []) ∷
      word 27 (codes "name") ∷
      word 32 (codes "B") ∷
      word 34 (codes "tag") ∷
      word 38 (codes "opsz") ∷
      pairs 26 44 ((6, 7) ∷ (8, 9) ∷ []) ∷
      word 46 (codes "name") ∷
      word 51 (codes "C") ∷
      word 53 (codes "tag") ∷
      word 57 (codes "wght") ∷
      pairs 45 63 ((11, 12) ∷ (13, 14) ∷ []) ∷
      word 65 (codes "name") ∷
      word 70 (codes "D") ∷
      word 72 (codes "tag") ∷
      quoted 76 81 (codes "a b") ∷
      pairs 64 83 ((16, 17) ∷ (18, 19) ∷ []) ∷
      word 85 (codes "name") ∷
      word 90 (codes "E") ∷
      word 92 (codes "tag") ∷
      word 96 (codes "abcde") ∷
      pairs 84 103 ((21, 22) ∷ (23, 24) ∷ []) ∷
      word 105 (codes "tag") ∷
      word 109 (codes "x") ∷
      pairs 104 112 ((26, 27) ∷ []) ∷
      word 114 (codes "name") ∷
      word 119 (codes "G") ∷
      pairs 113 122 ((29, 30) ∷ []) ∷
      items 6 123 (5 ∷ 10 ∷ 15 ∷ 20 ∷ 25 ∷ 28 ∷ 31 ∷ []) ∷
      pairs 0 125 ((0, 32) ∷ []) ∷ [];
}

bad-axes-fail : local_axes bad_axes ≡
    failure BadTag 76
    ∷ failure BadTag 96
    ∷ failure MissingKey 104
    ∷ failure MissingKey 113
    ∷ failure BadTag 57 ∷ []
unfolding axes_on_literals
bad-axes-fail = refl

-- instances of a font without axes: none is kept, but each is looked at
abbrev pub no_axes : Tree
no_axes = record {
  top = 13;
  nodes =
      word 1 (codes "instances") ∷
      word 13 (codes "name") ∷
      word 18 (codes "Bold") ∷
      word 23 (codes "axesValues") ∷
      word 35 (codes "7") ∷
      items 34 37 (4 ∷ []) ∷
      pairs 12 39 ((1, 2) ∷ (3, 5) ∷ []) ∷
      word 41 (codes "name") ∷
      word 46 (codes "Off") ∷
      word 50 (codes "exports") ∷
      word 58 (codes "0.5") ∷
      pairs 40 63 ((7, 8) ∷ (9, 10) ∷ []) ∷
      items 11 64 (6 ∷ 11 ∷ []) ∷
      pairs 0 66 ((0, 12) ∷ []) ∷ [];
}

none-kept : instances_of no_axes ≡ []
unfolding axes_on_literals
none-kept = refl

fraction-fails : local_instances no_axes ≡ failure NotWhole 58 ∷ []
unfolding axes_on_literals
fraction-fails = refl

-- so many times the same axis, and the same instance: the lists stand at 20 and at 40
abbrev many : ℕ → ℕ → Tree
many axes instances = record {
  top = 9;
  nodes =
      word 1 (codes "axes") ∷
      word 22 (codes "name") ∷
      word 27 (codes "A") ∷
      pairs 21 30 ((1, 2) ∷ []) ∷
      items 20 31 (replicate axes 3) ∷
      word 32 (codes "instances") ∷
      pairs 41 50 ((1, 2) ∷ []) ∷
      items 40 51 (replicate instances 6) ∷
      word 60 (codes "unused") ∷
      pairs 0 70 ((0, 4) ∷ (5, 7) ∷ []) ∷ [];
}

eight-axes : too_many_axes (many 8 0) ≡ []
unfolding axes_on_literals
eight-axes = refl

nine-axes : too_many_axes (many 9 0) ≡ failure TooManyAxes 20 ∷ []
unfolding axes_on_literals
nine-axes = refl

many-instances : local_instances (many 1 64) ≡ []
unfolding axes_on_literals
many-instances = refl

too-many-instances : local_instances (many 1 65) ≡ failure OutOfRange 40 ∷ []
unfolding axes_on_literals
too-many-instances = refl
