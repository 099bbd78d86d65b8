-- The font of a source, without jobs: each part is made of those before it, and the first that
-- refuses the source refuses it all. fontc's own.
use Rattle.std.specs.Prelude.{ℕ, List, Result}
use Rattle.refusal_codes.specs.declared.refusal.Refusal.{Refusal}
use Rattle.font_graph.specs.Direct.{direct}
use Rattle.font_plan.specs.Jobs.{parts}

unfoldable pub direct_font : List ℕ → Result (List ℕ) Refusal
direct_font source = direct (parts source)
