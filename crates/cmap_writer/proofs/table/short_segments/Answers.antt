use Rattle.std.proofs.Common.{◌+◌, ◌≤◌, ◌∙◌, ap}
use Rattle.std.proofs.lemmas.List.Elements.{All-same}
use Rattle.cmap_writer.specs.Runs.{longest_runs}
use Rattle.cmap_writer.proofs.Bounds.{short_within, short_runs_end}
use Rattle.cmap_writer.proofs.table.short_segments.Goals as goal

pub longest_runs-requires : goal.longest_runs-requires
longest_runs-requires c =
    All-same (λ code. code.0 ≤ 1114111) _ _ c.short_codes.ensures
    (short_within c.args.codes.now c.requires)

pub segments_of-requires : goal.segments_of-requires
segments_of-requires c =
    All-same (λ run. run.first + run.more ≤ 65534) _ _
    (c.as_slice.ensures.value ∙ c.in_ok-runs.ensures ∙ ap longest_runs c.short_codes.ensures)
    (short_runs_end c.args.codes.now)
