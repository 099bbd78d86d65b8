use Rattle.metrics_tables.proofs.RegionLemmas.{told_there}
use Rattle.metrics_tables.proofs.region_index.RegionIndex.place_of.Goals as goal

pub returns-clause-there : goal.returns-clause-there
returns-clause-there c = (told_there c.args.self.now c.requires.index c.args.numbers.now
    c.args.region.now c.requires.numbers c.get_index_of.result c.get_index_of.ensures.index
    c.get_index_of.ensures.found).0

pub returns-clause-place : goal.returns-clause-place
returns-clause-place c = (told_there c.args.self.now c.requires.index c.args.numbers.now
    c.args.region.now c.requires.numbers c.get_index_of.result c.get_index_of.ensures.index
    c.get_index_of.ensures.found).1

pub returns-clause-new : goal.returns-clause-new
returns-clause-new c = (told_there c.args.self.now c.requires.index c.args.numbers.now
    c.args.region.now c.requires.numbers c.get_index_of.result c.get_index_of.ensures.index
    c.get_index_of.ensures.found).2
