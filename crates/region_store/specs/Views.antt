-- What a builder holds, seen as a store.
use Rattle.std.specs.Prelude.{ℕ, ℤ, List, map, Vec}
use Rattle.std.specs.declared.alloc.Global.{Global}
use Rattle.font_ir.specs.declared.variation.Region.{Region}
use Rattle.region_store.specs.Stores.{Store}

abbrev pub rows_of : List (Vec ℤ Global) → List (List ℤ)
rows_of keys = map (λ row. row.items) keys

abbrev pub store_of : ℕ → List Region → List (Vec ℤ Global) → Store
store_of axes regions keys = record { axes = axes; regions = regions; rows = rows_of keys }
