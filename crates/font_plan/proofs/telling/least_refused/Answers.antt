-- the events of a board that has ended tell all refusals
use Rattle.std.proofs.Common.{◌≡◌, ℕ, List, Option, true, ap, ◌∙◌, subst}
use Rattle.std.specs.Prelude.{IfOk}
use Rattle.std.specs.List.{flat_map}
use Rattle.refusal_codes.specs.declared.refusal.Refusal.{Refusal}
use Rattle.job_graph.specs.declared.event.Event.{Event}
use Rattle.job_graph.specs.declared.event.End.TheVariants as end
use Rattle.job_graph.specs.Histories.{is_run, end_of}
use Rattle.job_graph.specs.Promises.{IsComplete}
use Rattle.font_graph.specs.Ended.{told, ended_least}
use Rattle.font_graph.specs.Graph.{plan}
use Rattle.font_graph.specs.Same.{same_id}
use Rattle.font_graph.specs.Verdicts.{least}
use Rattle.font_graph.specs.declared.ids.JobId.{JobId}
use Rattle.font_plan.specs.Jobs.{parts}
use Rattle.font_plan.proofs.telling.least_refused.Goals as goal

pub returns : goal.returns
returns c =
    let board = c.args.board.now in
    let law = subst (λ source. (workers : ℕ) (events : List (Event JobId))
    → is_run same_id (plan (parts source) same_id) workers events ≡ true
    → end_of same_id (plan (parts source) same_id) workers events ≡ end.Ended
    → IsComplete same_id (plan (parts source) same_id) events) c.plan.ensures
    c.ended_history_is_complete.ensures in
    let complete = law board.workers board.events c.events.ensures.history.legal c.requires in
    subst (λ (least_of : Option Refusal). IfOk c.least_told.result (λ found. found ≡ least_of))
    (ap (λ events. least (flat_map (told (parts board.plan)) events)) c.events.ensures.events
    ∙ ended_least (parts board.plan) board.events complete) c.least_told.ensures
