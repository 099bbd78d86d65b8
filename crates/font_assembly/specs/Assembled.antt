-- The tables that are handed in, without where they lie in memory.
use Rattle.std.specs.Prelude.{ℕ, List, map}
use Rattle.std.specs.declared.alloc.Global.{Global}
use Rattle.std.specs.Global.{Vec}
use Rattle.std.specs.Arc.{arc_value}
use Rattle.std.specs.declared.sync.Arc.{Arc}
use Rattle.font_ir.specs.declared.tag.Tag.{Tag}
use Rattle.font_assembly.specs.File.{Table}

-- a table without where its bytes lie in memory
abbrev pub table_of : Tag × Arc (Vec ℕ) Global → Table
table_of t = record { tag = t.0.0; bytes = (arc_value t.1).items }

abbrev pub tables_of : List (Tag × Arc (Vec ℕ) Global) → List Table
tables_of ts = map table_of ts
