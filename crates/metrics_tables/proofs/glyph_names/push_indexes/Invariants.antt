use Rattle.std.proofs.Common.{◌≡◌, ◌+◌, ◌≤◌, ◌++◌, drop, map}
use Rattle.metrics_tables.specs.Post.{name_indexes}
use Rattle.metrics_tables.proofs.glyph_names.push_indexes.Given as goal

abbrev pub invariant-loop-name : goal.invariant-loop-name
invariant-loop-name l =
    record {
      bytes : l.table.items
          ++ name_indexes l.next (map (λ name. name.items) (drop l.name-index l.names))
          ≡ l.fn.table.items ++ name_indexes 258 (map (λ name. name.items) l.names);
      small : l.next ≤ 258 + l.name-index;
    }
