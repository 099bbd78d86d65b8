-- the reads so far name the glyphs before this one
use Rattle.std.proofs.Common.{◌≡◌, ◌++◌, map, take}
use Rattle.font_graph.specs.declared.ids.JobId.TheVariants as job
use Rattle.font_plan.proofs.specs_of.push_variations.Given as goal

abbrev pub invariant-loop-glyph : goal.invariant-loop-glyph
invariant-loop-glyph l = l.reads.items
    ≡ l.initial.reads.items ++ map job.Variations (take l.glyph-index l.glyphs)
