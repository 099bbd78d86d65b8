-- each job adds two events, of which there are so many at most
use Rattle.std.proofs.Common.{◌≡◌, ◌-◌, length}
use Rattle.font_plan.specs.Alone.{IsAlone, most_events}
use Rattle.font_plan.proofs.alone.run_to_end.Given as goal

abbrev pub invariant-loop : goal.invariant-loop
invariant-loop l = IsAlone l.board × (l.board.plan ≡ l.initial.board.plan)

abbrev pub decreases-loop : goal.decreases-loop
decreases-loop l = most_events l.initial.board.plan - length l.board.events
