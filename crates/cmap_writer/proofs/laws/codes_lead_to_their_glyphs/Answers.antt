use Rattle.cmap_writer.specs.Runs.{short_codes}
use Rattle.cmap_writer.proofs.Bounds.{short_rise, short_glyphs, short_runs_end}
use Rattle.cmap_writer.proofs.Leads.{groups_lead, segments_lead}
use Rattle.cmap_writer.proofs.laws.codes_lead_to_their_glyphs.Goals as goal

pub returns-clause-segments : goal.returns-clause-segments
returns-clause-segments c = λ codes are numbers.
    segments_lead (short_codes codes) (short_rise codes are.rise) (short_glyphs codes numbers)
    (short_runs_end codes)

pub returns-clause-groups : goal.returns-clause-groups
returns-clause-groups c = λ codes are. groups_lead codes are.rise
