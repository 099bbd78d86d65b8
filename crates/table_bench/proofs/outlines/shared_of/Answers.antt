use Rattle.std.proofs.Common.{◌≡◌, ◌<◌, ◌≤◌, ◌∙◌, ap, drop, length, arith}
use Rattle.std.proofs.lemmas.List.{take_rest}
use Rattle.font_ir.specs.Places.{AreGlyphPlaces}
use Rattle.variation_model.specs.Supports.{supports_of}
use Rattle.gvar_writer.specs.GlyphVariations.{AreShared}
use Rattle.table_bench.proofs.outlines.shared_of.Goals as goal

pub returns : goal.returns
returns c = record {
  masters = c.args.model.now;
  are_places = c.requires;
  are_regions = take_rest c.supports.result.now 1 ∙ ap (drop 1) c.supports.ensures.value;
}
