use Rattle.std.proofs.Common.{◌≡◌, ◌++◌, take}
use Rattle.std.specs.List.{flat_map}
use Rattle.table_bytes.specs.DataTypes.{uint16}
use Rattle.metrics_tables.proofs.fields.push_words.Given as goal

abbrev pub invariant-loop-word : goal.invariant-loop-word
invariant-loop-word l = l.table.items ≡ l.fn.table.items
    ++ flat_map uint16 (take l.word-index l.words)
