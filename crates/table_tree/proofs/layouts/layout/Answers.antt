use Rattle.table_tree.specs.Trees.{spelling_injective}
use Rattle.table_tree.proofs.LeadsLaws.{near_offsets_lead}
use Rattle.table_tree.proofs.FarLaws.{far_offsets_lead}
use Rattle.table_tree.proofs.layouts.layout.Goals as goal

pub returns-clause-near : goal.returns-clause-near
returns-clause-near c = near_offsets_lead

pub returns-clause-far : goal.returns-clause-far
returns-clause-far c = far_offsets_lead

pub returns-clause-equal : goal.returns-clause-equal
returns-clause-equal c = spelling_injective
