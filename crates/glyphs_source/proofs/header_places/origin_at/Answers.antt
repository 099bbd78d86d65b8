use Rattle.glyphs_source.proofs.HeaderLaws.{few_masters}
use Rattle.glyphs_source.proofs.header_places.origin_at.Goals as goal

pub origin-requires : goal.origin-requires
origin-requires c = few_masters c.args.tree.now c.requires
