use Rattle.std.proofs.Common.{◌≡◌, ◌++◌, drop}
use Rattle.std.specs.List.{list_all}
use Rattle.font_ir.specs.FlatGlyphs.{glyphs_of}
use Rattle.component_flatten.specs.Numbered.{numbered}
use Rattle.component_flatten.specs.Drawing.{layer_drawn}
use Rattle.component_flatten.specs.Flattening.{are_small}
use Rattle.component_flatten.proofs.drawing.drawn.Given as goal

abbrev pub invariant-loop-i : goal.invariant-loop-i
invariant-loop-i l = record {
  so_far : l.drawn ++ numbered (layer_drawn l.glyph.places (glyphs_of l.bases)) l.i
      (drop l.i l.layers) ≡ numbered (layer_drawn l.glyph.places (glyphs_of l.bases)) 0 l.layers;
  small : list_all are_small (numbered (layer_drawn l.glyph.places (glyphs_of l.bases)) l.i
      (drop l.i l.layers)) ≡ list_all are_small
      (numbered (layer_drawn l.glyph.places (glyphs_of l.bases)) 0 l.layers);
}
