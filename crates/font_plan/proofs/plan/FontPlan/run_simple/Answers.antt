-- what the job finds is what its part reads
use Rattle.std.proofs.Common.{ap, sym, ◌∙◌, subst, Some}
use Rattle.font_graph.specs.Running.{simple_finds}
use Rattle.font_plan.specs.Jobs.{parts}
use Rattle.font_plan.specs.Settling.{Comes}
use Rattle.font_plan.proofs.Found.{found_drawn, nothing_kept}
use Rattle.font_plan.proofs.Runs.{simple_comes}
use Rattle.font_plan.proofs.plan.FontPlan.run_simple.Goals as goal

pub header_in-requires : goal.header_in-requires
header_in-requires c = (simple_finds (parts c.args.self.now) c.args.glyph c.args.reads.now
    c.requires.due c.requires.done).header

pub flat_in-requires : goal.flat_in-requires
flat_in-requires c = (simple_finds (parts c.args.self.now) c.args.glyph c.args.reads.now
    c.requires.due c.requires.done).flat

pub run_simple-requires-clause-drawn : goal.run_simple-requires-clause-drawn
run_simple-requires-clause-drawn c =
    found_drawn c.drawing_laws.ensures c.args.self.now c.get-header.result.now
    c.get-flat.result.now ((simple_finds (parts c.args.self.now) c.args.glyph c.args.reads.now
    c.requires.due c.requires.done).flat_is c.get-header.result.now c.get-flat.result.now
    (c.header_in.ensures ∙ ap Some (sym c.get-header.ensures.value))
    (c.flat_in.ensures ∙ ap Some (sym (c.get-flat.ensures ∙ c.get.ensures.value))))

pub run_simple-requires-clause-simple : goal.run_simple-requires-clause-simple
run_simple-requires-clause-simple c = nothing_kept c.get-flat.result.now
    ((simple_finds (parts c.args.self.now) c.args.glyph c.args.reads.now c.requires.due
    c.requires.done).is_simple c.get-flat.result.now
    (c.flat_in.ensures ∙ ap Some (sym (c.get-flat.ensures ∙ c.get.ensures.value))))

pub returns : goal.returns
returns c = subst (Comes c.run_simple.result)
    (simple_comes c.args.self.now c.args.reads.now c.args.glyph c.get-header.result.now
    c.get-flat.result.now (c.header_in.ensures ∙ ap Some (sym c.get-header.ensures.value))
    (c.flat_in.ensures ∙ ap Some (sym (c.get-flat.ensures ∙ c.get.ensures.value))))
    c.run_simple.ensures
