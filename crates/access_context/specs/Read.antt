-- What a job reads: items by their ids, each with what came of it. fontc's own.
use Rattle.std.specs.Prelude.{Bool, List, [], ◌∷◌, Option, Some, None, option_and_then}
use Rattle.std.specs.Prelude.{if◌then◌else◌}
use Rattle.std.specs.List.{list_all}
use Rattle.access_context.specs.declared.settled.Settled.{Settled}
use Rattle.access_context.specs.Plain.{Plain, plain, is_done, done_value}

-- an item: its id, and what came of it
abbrev pub plain_item : {V Id : Type 0} → Id × Settled V → Id × Plain V
plain_item item = (item.0, plain item.1)

-- what came of the item with this id; same tells whether two ids are one
abbrev pub read_of : {Id X : Type 0} → (Id → Id → Bool) → List (Id × X) → Id → Option X
read_of same [] id = None
read_of same (item ∷ items) id = if same item.0 id then Some item.1 else read_of same items id

-- the value of the item with this id, where it has one
abbrev pub value_read : {Id V : Type 0} → (Id → Id → Bool) → List (Id × Plain V) → Id → Option V
value_read same items id = option_and_then done_value (read_of same items id)

-- every item has a value
abbrev pub all_done : {Id V : Type 0} → List (Id × Plain V) → Bool
all_done items = list_all (λ item. is_done item.1) items
