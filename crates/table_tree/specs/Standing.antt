-- Where the nodes stand that are behind the fields of another, as the places of a layout.
use Rattle.std.specs.Prelude.{map}
use Rattle.table_tree.specs.declared.near.Behind.{Behind}
use Rattle.table_tree.specs.Layouts.{Places}

abbrev pub places_in : Behind → Places
places_in behind = map (λ entry. (entry.0.items, entry.1)) behind.places.entries
