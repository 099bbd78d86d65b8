-- what the job finds is what its part reads
use Rattle.std.proofs.Common.{ap, sym, ◌∙◌, subst, Some}
use Rattle.font_plan.specs.Jobs.{parts}
use Rattle.font_plan.specs.Settling.{Comes}
use Rattle.font_graph.specs.Running.{index_finds}
use Rattle.font_plan.proofs.Runs.{index_comes}
use Rattle.font_plan.proofs.plan.FontPlan.run_index.Goals as goal

pub tree_in-requires : goal.tree_in-requires
tree_in-requires c = (index_finds (parts c.args.self.now) c.args.reads.now c.requires.due
    c.requires.done).tree

pub returns : goal.returns
returns c = subst (Comes c.run_index.result)
    (index_comes c.args.self.now c.args.reads.now c.get.result.now
    (c.tree_in.ensures ∙ ap Some (sym c.get.ensures.value))) c.run_index.ensures
