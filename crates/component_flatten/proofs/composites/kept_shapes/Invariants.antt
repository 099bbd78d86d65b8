use Rattle.std.proofs.Common.{◌≡◌, ◌++◌, drop}
use Rattle.component_flatten.specs.Numbered.{flat_numbered}
use Rattle.component_flatten.specs.Composites.{kept_shape}
use Rattle.component_flatten.proofs.composites.kept_shapes.Given as goal

abbrev pub invariant-loop-n : goal.invariant-loop-n
invariant-loop-n l =
    l.kept ++ flat_numbered (kept_shape l.glyph.layers) l.n (drop l.n l.shapes)
    ≡ flat_numbered (kept_shape l.glyph.layers) 0 l.shapes
