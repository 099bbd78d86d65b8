use Rattle.std.proofs.Common.{◌≡◌, ◌++◌, drop, map}
use Rattle.std.specs.List.{flat_map}
use Rattle.metrics_tables.specs.Post.{stored_name}
use Rattle.metrics_tables.proofs.glyph_names.push_names.Given as goal

abbrev pub invariant-loop-name : goal.invariant-loop-name
invariant-loop-name l =
    l.table.items ++ flat_map stored_name (map (λ name. name.items) (drop l.name-index l.names))
    ≡ l.fn.table.items ++ flat_map stored_name (map (λ name. name.items) l.names)
