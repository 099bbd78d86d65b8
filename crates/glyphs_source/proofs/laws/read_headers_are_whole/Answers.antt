-- proved for all trees, of the laws of the parts
use Rattle.glyphs_source.proofs.HeaderLaws.{read_whole}
use Rattle.glyphs_source.proofs.laws.read_headers_are_whole.Goals as goal

pub returns : goal.returns
returns c = read_whole (record {
  axes = c.sound_axes_are_read.ensures;
  instances = c.sound_instances_are_read.ensures;
  masters = c.sound_masters_are_read.ensures;
  repeats = c.first_repeat_is_the_first.ensures;
  unmapped = c.first_unmapped_is_the_first.ensures;
})
