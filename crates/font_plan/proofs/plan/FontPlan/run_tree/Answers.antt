-- what the job finds is what its part reads
use Rattle.std.proofs.Common.{ap, ◌∙◌, subst}
use Rattle.font_plan.specs.Settling.{Comes}
use Rattle.font_graph.specs.declared.items.Item.TheVariants as an
use Rattle.font_plan.specs.Jobs.{tree_of}
use Rattle.font_plan.specs.Settling.{made_by, none}
use Rattle.font_plan.proofs.Runs.{tree_comes}
use Rattle.font_plan.proofs.plan.FontPlan.run_tree.Goals as goal

pub returns : goal.returns
returns c = subst (Comes c.run_tree.result)
    (ap (λ bytes. made_by an.Tree none (tree_of bytes)) c.source.ensures
    ∙ tree_comes c.args.self.now c.args._reads.now) c.run_tree.ensures
