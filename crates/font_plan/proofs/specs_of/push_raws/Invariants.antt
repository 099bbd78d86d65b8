-- the jobs so far are those of the glyphs before this one
use Rattle.std.proofs.Common.{◌≡◌, ◌++◌, [], map, take}
use Rattle.font_graph.specs.Graph.{of_glyph, spec_with}
use Rattle.font_graph.specs.Same.{same_id}
use Rattle.font_graph.specs.declared.ids.JobId.TheVariants as job
use Rattle.font_plan.specs.Jobs.{parts}
use Rattle.font_plan.proofs.specs_of.push_raws.Given as goal

abbrev pub invariant-loop-glyph : goal.invariant-loop-glyph
invariant-loop-glyph l = l.jobs.items ≡ l.initial.jobs.items
    ++ map (λ glyph. spec_with (parts []) same_id
    (of_glyph (parts []) same_id) (job.Raw glyph)) (take l.glyph-index l.glyphs)
