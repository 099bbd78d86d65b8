-- what the job finds is what its part reads
use Rattle.std.proofs.Common.{ap, sym, ◌∙◌, subst, Some}
use Rattle.font_plan.specs.Jobs.{parts}
use Rattle.font_plan.specs.Settling.{Comes}
use Rattle.font_graph.specs.Running.{raw_finds}
use Rattle.font_plan.proofs.Made.{number_within}
use Rattle.font_plan.proofs.Runs.{raw_comes}
use Rattle.font_plan.proofs.plan.FontPlan.run_raw.Goals as goal

pub tree_in-requires : goal.tree_in-requires
tree_in-requires c = (raw_finds (parts c.args.self.now) c.args.glyph c.args.reads.now c.requires.due
    c.requires.done).tree

pub header_in-requires : goal.header_in-requires
header_in-requires c = (raw_finds (parts c.args.self.now) c.args.glyph c.args.reads.now
    c.requires.due c.requires.done).header

pub index_in-requires : goal.index_in-requires
index_in-requires c = (raw_finds (parts c.args.self.now) c.args.glyph c.args.reads.now
    c.requires.due c.requires.done).index

pub run_raw-requires-clause-header : goal.run_raw-requires-clause-header
run_raw-requires-clause-header c = (raw_finds (parts c.args.self.now) c.args.glyph
    c.args.reads.now c.requires.due c.requires.done).header_is c.get-tree.result.now
    c.get-header.result.now
    (c.tree_in.ensures ∙ ap Some (sym c.get-tree.ensures.value))
    (c.header_in.ensures ∙ ap Some (sym c.get-header.ensures.value))

pub run_raw-requires-clause-index : goal.run_raw-requires-clause-index
run_raw-requires-clause-index c = (raw_finds (parts c.args.self.now) c.args.glyph
    c.args.reads.now c.requires.due c.requires.done).index_is c.get-tree.result.now
    c.get-index.result.now
    (c.tree_in.ensures ∙ ap Some (sym c.get-tree.ensures.value))
    (c.index_in.ensures ∙ ap Some (sym c.get-index.ensures.value))

pub run_raw-requires-clause-glyph : goal.run_raw-requires-clause-glyph
run_raw-requires-clause-glyph c = number_within c.get-index.result.now c.args.glyph
    ((raw_finds (parts c.args.self.now) c.args.glyph c.args.reads.now c.requires.due
    c.requires.done).glyph_is
    c.get-index.result.now (c.index_in.ensures ∙ ap Some (sym c.get-index.ensures.value)))

pub returns : goal.returns
returns c = subst (Comes c.run_raw.result)
    (raw_comes c.args.self.now c.args.reads.now c.args.glyph c.get-tree.result.now
    c.get-header.result.now c.get-index.result.now
    (c.tree_in.ensures ∙ ap Some (sym c.get-tree.ensures.value))
    (c.header_in.ensures ∙ ap Some (sym c.get-header.ensures.value))
    (c.index_in.ensures ∙ ap Some (sym c.get-index.ensures.value))) c.run_raw.ensures
