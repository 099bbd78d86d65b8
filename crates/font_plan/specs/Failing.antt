-- When a part of a source fails, in the words of the parts: all that it is made of was made, and
-- the part itself is refused, by the first of its rules that fails. fontc's own.
use Rattle.std.specs.Prelude.{ℕ, List}
use Rattle.refusal_codes.specs.declared.refusal.Refusal.{Refusal}
use Rattle.font_graph.specs.FailsBy as graph
use Rattle.font_graph.specs.declared.ids.JobId.{JobId}
use Rattle.font_plan.specs.Jobs.{parts}

abbrev pub FailsBy : List ℕ → JobId → Refusal → Type 0
FailsBy source id r = graph.FailsBy (parts source) id r
