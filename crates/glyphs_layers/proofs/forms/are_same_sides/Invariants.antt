-- the points that are left are the same exactly where all are
use Rattle.std.proofs.Common.{◌≡◌, drop}
use Rattle.std.specs.Cmp.Lexicographic.{pointwise}
use Rattle.glyphs_layers.specs.Forms.{same_side}
use Rattle.glyphs_layers.proofs.forms.are_same_sides.Given as goal

abbrev pub invariant-loop-i : goal.invariant-loop-i
invariant-loop-i l =
    pointwise same_side (drop l.i l.a) (drop l.i l.b) ≡ pointwise same_side l.a l.b
