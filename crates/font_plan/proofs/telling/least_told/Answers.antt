-- one event more
use Rattle.std.proofs.Common.{sym, ap, ◌∙◌}
use Rattle.std.specs.List.{flat_map}
use Rattle.font_graph.specs.Ended.{told}
use Rattle.font_graph.specs.Kept.{kept_least, kept_is_least, kept_turn}
use Rattle.font_graph.specs.Verdicts.{least}
use Rattle.font_plan.specs.Jobs.{parts}
use Rattle.font_plan.proofs.Judgement.{kept_one}
use Rattle.font_plan.proofs.telling.least_told.Goals as goal

pub loop-event-init : goal.loop-event-init
loop-event-init c = kept_is_least
    (flat_map (told (parts c.args.board.now.plan)) c.args.events.now)

pub loop-event-preserved : goal.loop-event-preserved
loop-event-preserved c =
    kept_turn (told (parts c.args.board.now.plan)) c.args.events.now c.loop-event.event-index _
    c.loop-event.least c.lesser-least.result
    (least (flat_map (told (parts c.args.board.now.plan)) c.args.events.now))
    c.loop-event-test.true
    (c.lesser-least.ensures
    ∙ sym (kept_one c.loop-event.least c.in_ok-found.found)
    ∙ ap (kept_least c.loop-event.least) c.in_ok-found.ensures) c.loop-event.invariant
