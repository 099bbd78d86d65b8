-- How the verdict on a source is told by a board over it that has ended. fontc's own.
use Rattle.std.specs.Prelude.{◌≡◌, ℕ, List, [], ◌∷◌, Option, Some, None, Result, Ok}
use Rattle.std.specs.Prelude.{option_and_then}
use Rattle.refusal_codes.specs.declared.refusal.Refusal.{Refusal}
use Rattle.refusal_codes.specs.Gives.{◌>>=◌}
use Rattle.access_context.specs.Plain.{done_value}
use Rattle.font_graph.specs.Verdicts.{ended_value, lesser}
use Rattle.font_graph.specs.declared.ids.JobId.TheVariants as job
use Rattle.font_graph.specs.declared.items.Item.TheVariants as an
use Rattle.font_plan.specs.Font.{font_of}
use Rattle.font_plan.specs.Jobs.{parts}
use Rattle.font_plan.specs.Settling.{AnItem}

-- the item of the font, or the least refusal
abbrev pub font_item : List ℕ → Result AnItem Refusal
font_item source = font_of source >>= λ font. Ok (an.Font font)

-- the item of the font on a board that has ended, where it was made
abbrev pub ended_font_item : List ℕ → Option AnItem
ended_font_item source = option_and_then done_value (ended_value (parts source) job.Font)

-- an item that is a font
abbrev pub IsFont : AnItem → Type 0
IsFont item = (font : List ℕ) × (item ≡ an.Font font)

-- at most one refusal
abbrev pub at_most_one : Option Refusal → List Refusal
at_most_one None = []
at_most_one (Some r) = r ∷ []

-- the lesser of two refusals, where they are there
abbrev pub lesser_of : Option Refusal → Option Refusal → Option Refusal
lesser_of None least = least
lesser_of (Some r) least = Some (lesser r least)
