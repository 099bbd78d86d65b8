-- The font of a source, where the source is accepted; else the least refusal among those of all its
-- jobs. fontc's own.
use Rattle.std.specs.Prelude.{ℕ, List, Result}
use Rattle.refusal_codes.specs.declared.refusal.Refusal.{Refusal}
use Rattle.font_graph.specs.Verdicts.{verdict}
use Rattle.font_plan.specs.Jobs.{parts}

unfoldable pub font_of : List ℕ → Result (List ℕ) Refusal
font_of source = verdict (parts source)
