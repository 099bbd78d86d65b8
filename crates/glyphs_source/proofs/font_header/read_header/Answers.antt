-- nothing is noted only where no local rule fails
use Rattle.glyphs_source.specs.HeaderReading.{header_failures}
use Rattle.glyphs_source.proofs.HeaderLaws.{none_noted}
use Rattle.glyphs_source.proofs.font_header.read_header.Goals as goal

pub finish-requires-clause-none : goal.finish-requires-clause-none
finish-requires-clause-none c =
    none_noted c.new-first.result c.read_numbers.new.first (header_failures c.args.tree.now)
    c.new-first.ensures c.in_ok-numbers.ensures.failures
