-- What becomes of a source: its font, or the least refusal among those of all its jobs. fontc's
-- own.
use Rattle.std.specs.Prelude.{ℕ, List, [], ◌∷◌, ◌++◌, Option, Some, None, Result, Ok, Err}
use Rattle.std.specs.Prelude.{option_and_then, if◌then◌else◌}
use Rattle.std.specs.List.{flat_map}
use Rattle.std.specs.Ordering.{is_gt}
use Rattle.refusal_codes.specs.declared.refusal.Refusal.{Refusal}
use Rattle.refusal_codes.specs.declared.rule.Rule.TheVariants.{TableTooLarge}
use Rattle.refusal_codes.specs.declared.job.TheConstants.{FONT}
use Rattle.refusal_codes.specs.First.{refusal_of}
use Rattle.refusal_codes.specs.Order.{refusal_cmp}
use Rattle.access_context.specs.Plain.{Plain, Done, Refused, Blocked, done_value}
use Rattle.font_graph.specs.Parts.{Parts}
use Rattle.job_graph.specs.Rounds.{value_in, limit}
use Rattle.font_graph.specs.Graph.{Item, as_raw, as_index, as_font, font_value, plan}
use Rattle.font_graph.specs.Same.{same_id}
use Rattle.font_graph.specs.declared.ids.JobId.{JobId}
use Rattle.font_graph.specs.declared.ids.JobId.TheVariants as job

-- the least of some refusals, where there is one
abbrev pub lesser : Refusal → Option Refusal → Refusal
lesser r None = r
lesser r (Some other) = if is_gt (refusal_cmp r other) then other else r

abbrev pub least : List Refusal → Option Refusal
least [] = None
least (r ∷ others) = Some (lesser r (least others))

module _ (p : Parts) where
  -- the rule that a job found to fail
  abbrev pub refused : Plain (Item p) → List Refusal
  refused (Done item) = []
  refused (Refused r) = r ∷ []
  refused Blocked = []

  abbrev pub refused_in : Option (Plain (Item p)) → List Refusal
  refused_in None = []
  refused_in (Some v) = refused v

  -- what came of a job in the end, where anything did
  abbrev pub ended_value : JobId → Option (Plain (Item p))
  ended_value id = value_in same_id (limit same_id (plan p same_id)) id

  abbrev pub ended_as : {A : Type 0} → (Item p → Option A) → JobId → Option A
  ended_as kind id = option_and_then kind (option_and_then done_value (ended_value id))

  -- the refusal of a glyph that is read, and whose contours are never drawn: nothing came of its
  -- job
  abbrev pub endless_in : Option p.Raw → Option p.Index → Option (Plain (Item p)) → List Refusal
  endless_in (Some raw) (Some index) None = p.endless raw index ∷ []
  endless_in _ _ _ = []

  abbrev pub endless_of : ℕ → List Refusal
  endless_of glyph = endless_in (ended_as (as_raw p) (job.Raw glyph))
      (ended_as (as_index p) job.Index) (ended_value (job.Flat glyph))

  abbrev pub refusals_of : JobId → List Refusal
  refusals_of (job.Flat glyph) = refused_in (ended_value (job.Flat glyph)) ++ endless_of glyph
  refusals_of id = refused_in (ended_value id)

  -- those of all jobs that are ever added
  abbrev pub refusals : List Refusal
  refusals = flat_map (λ job. refusals_of job.id) (limit same_id (plan p same_id)).jobs

  -- a font that was made. Where there is none, some job was refused, so what stands in its place
  -- is never told.
  abbrev pub font_or : Option p.File → Result p.File Refusal
  font_or (Some font) = Ok font
  font_or None = Err (refusal_of FONT [] (record { rule = TableTooLarge; place = 0 }))

  abbrev pub judge : Option Refusal → Option p.File → Result p.File Refusal
  judge (Some r) font = Err r
  judge None font = font_or font

  -- the least refusal, and where nothing is refused the font
  unfoldable pub verdict : Result p.File Refusal
  verdict = judge (least refusals)
      (option_and_then (as_font p) (done_value (font_value p same_id)))
