-- What it means that a step meets a definition that may refuse.
use Rattle.std.specs.Prelude.{◌≡◌, Option, Some, None, Result, Ok, Err}
use Rattle.rule_words.specs.declared.line.Stop.{Stop}
use Rattle.rule_words.specs.declared.line.Stop.TheVariants as stops

abbrev pub Stops : {X : Type 0} → Stop → Option X → Type 0
Stops stops.Refused definition = definition ≡ None
Stops stops.NoMemory definition = Unit {0}

-- what the step made is what the definition makes, and it is refused where there is none; want of
-- memory alone is free
abbrev pub Goes : {X : Type 0} → Result X Stop → Option X → Type 0
Goes (Ok x) definition = definition ≡ Some x
Goes (Err stop) definition = Stops stop definition
