-- the first layer unlike the first one among those that are left is the first among all
use Rattle.std.proofs.Common.{◌≡◌, drop}
use Rattle.std.specs.Prelude.{flat_map}
use Rattle.refusal_codes.specs.First.{foremost}
use Rattle.glyphs_layers.specs.Forms.{unlike_first}
use Rattle.glyphs_layers.proofs.forms.first_unlike.Given as goal

abbrev pub invariant-loop-i : goal.invariant-loop-i
invariant-loop-i l =
    foremost (flat_map (unlike_first l.tree l.first) (drop l.i l.layers))
    ≡ foremost (flat_map (unlike_first l.tree l.first) l.layers)
