-- what the job finds is what its part reads
use Rattle.std.proofs.Common.{ap, sym, ◌∙◌, subst, Some}
use Rattle.font_ir.specs.FlatGlyphs.{IsFlatGlyph}
use Rattle.font_graph.specs.Running.{variations_finds}
use Rattle.font_plan.specs.Jobs.{parts}
use Rattle.font_plan.specs.Settling.{Comes}
use Rattle.font_plan.proofs.Found.{flat_within}
use Rattle.font_plan.proofs.Runs.{variations_come}
use Rattle.font_plan.proofs.plan.FontPlan.run_variations.Goals as goal

pub header_in-requires : goal.header_in-requires
header_in-requires c = (variations_finds (parts c.args.self.now) c.args.glyph c.args.reads.now
    c.requires.due c.requires.done).header

pub index_in-requires : goal.index_in-requires
index_in-requires c = (variations_finds (parts c.args.self.now) c.args.glyph c.args.reads.now
    c.requires.due c.requires.done).index

pub flat_in-requires : goal.flat_in-requires
flat_in-requires c = (variations_finds (parts c.args.self.now) c.args.glyph c.args.reads.now
    c.requires.due c.requires.done).flat

pub run_variations-requires-clause-flat : goal.run_variations-requires-clause-flat
run_variations-requires-clause-flat c =
    subst IsFlatGlyph (sym (c.get-flat.ensures ∙ c.get.ensures.value)) c.get.ensures.holds

pub run_variations-requires-clause-glyph : goal.run_variations-requires-clause-glyph
run_variations-requires-clause-glyph c = flat_within c.args.self.now c.args.glyph c.args.reads.now
    (variations_finds (parts c.args.self.now) c.args.glyph c.args.reads.now
    c.requires.due c.requires.done) c.get-header.result.now c.get-index.result.now
    c.get-flat.result.now (c.header_in.ensures ∙ ap Some (sym c.get-header.ensures.value))
    (c.index_in.ensures ∙ ap Some (sym c.get-index.ensures.value))
    (c.flat_in.ensures ∙ ap Some (sym (c.get-flat.ensures ∙ c.get.ensures.value)))

pub returns : goal.returns
returns c = subst (Comes c.run_variations.result)
    (variations_come c.args.self.now c.args.reads.now c.args.glyph c.get-header.result.now
    c.get-index.result.now c.get-flat.result.now
    (c.header_in.ensures ∙ ap Some (sym c.get-header.ensures.value))
    (c.index_in.ensures ∙ ap Some (sym c.get-index.ensures.value))
    (c.flat_in.ensures ∙ ap Some (sym (c.get-flat.ensures ∙ c.get.ensures.value))))
    c.run_variations.ensures
