-- The kinds of jobs of a source: of each id the kind, and the stratum of which every job must be
-- finished before it. fontc's own.
use Rattle.std.specs.Prelude.{ℕ, Option, Some, None}
use Rattle.refusal_codes.specs.declared.job.Job.{Job}
use Rattle.refusal_codes.specs.declared.job.TheConstants.{TREE, HEADER, INDEX, RAW, FLAT, SIMPLE}
use Rattle.refusal_codes.specs.declared.job.TheConstants.{COMPOSITE, VARIATIONS, FEATURE_PARSE}
use Rattle.refusal_codes.specs.declared.job.TheConstants.{ORDER, ADVANCES, KERN, MARKS, RULES}
use Rattle.refusal_codes.specs.declared.job.TheConstants.{LOOKUP, STORE, TABLE, FONT}
use Rattle.font_graph.specs.declared.ids.JobId.{JobId}
use Rattle.font_graph.specs.declared.ids.JobId.TheVariants as job

-- one row for each kind: what it is, and which stratum it awaits
abbrev pub kind_row : JobId → Job × Option ℕ
kind_row job.Tree = (TREE, None)
kind_row job.Header = (HEADER, None)
kind_row job.Index = (INDEX, None)
kind_row (job.Raw glyph) = (RAW, None)
kind_row (job.Flat glyph) = (FLAT, None)
kind_row (job.Simple glyph) = (SIMPLE, None)
kind_row (job.Composite glyph) = (COMPOSITE, Some 2)
kind_row (job.Variations glyph) = (VARIATIONS, None)
kind_row job.FeatureParse = (FEATURE_PARSE, None)
kind_row job.Order = (ORDER, Some 1)
kind_row job.Advances = (ADVANCES, Some 2)
kind_row job.Kern = (KERN, Some 2)
kind_row job.Marks = (MARKS, Some 2)
kind_row job.Rules = (RULES, Some 2)
kind_row (job.Lookup number) = (LOOKUP, Some 2)
kind_row job.Store = (STORE, Some 3)
kind_row (job.Table tag) = (TABLE, Some 3)
kind_row job.Font = (FONT, Some 4)

abbrev pub job_of : JobId → Job
job_of id = (kind_row id).0

abbrev pub stratum_of : JobId → ℕ
stratum_of id = (job_of id).stratum

abbrev pub awaited_by : JobId → Option ℕ
awaited_by id = (kind_row id).1
