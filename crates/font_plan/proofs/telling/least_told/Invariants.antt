-- what is kept, and what the events from here on tell, are what all of them tell
use Rattle.std.proofs.Common.{◌≡◌, drop}
use Rattle.std.specs.List.{flat_map}
use Rattle.font_graph.specs.Ended.{told}
use Rattle.font_graph.specs.Kept.{kept_least}
use Rattle.font_graph.specs.Verdicts.{least}
use Rattle.font_plan.specs.Jobs.{parts}
use Rattle.font_plan.proofs.telling.least_told.Given as goal

abbrev pub invariant-loop-event : goal.invariant-loop-event
invariant-loop-event l = kept_least l.least
    (flat_map (told (parts l.board.plan)) (drop l.event-index l.events))
    ≡ least (flat_map (told (parts l.board.plan)) l.events)
