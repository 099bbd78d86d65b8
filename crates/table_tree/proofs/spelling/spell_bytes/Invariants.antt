use Rattle.std.proofs.Common.{◌≡◌, ◌++◌, [], ◌∷◌, drop}
use Rattle.table_tree.specs.Trees.{spelled_bytes}
use Rattle.table_tree.proofs.spelling.spell_bytes.Given as goal

abbrev pub invariant-loop-byte : goal.invariant-loop-byte
invariant-loop-byte l = l.numbers.items ++ spelled_bytes (drop l.byte-index l.content) []
    ≡ l.fn.numbers.items ++ 2 ∷ spelled_bytes l.content []
