-- Where items stand in a list, by their ids, as the index of the values keeps it.
use Rattle.std.specs.Prelude.{Option, Some, None}

-- the first of two places, of which the second counts only where the first is missing
abbrev pub first_of : {X : Type 0} → Option X → Option X → Option X
first_of None place = place
first_of (Some first) place = Some first
