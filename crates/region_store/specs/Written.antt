-- A store as bytes (OpenType 1.9, "Font variations common table formats", "Item variation stores"):
-- the layout of its tree.
use Rattle.std.specs.Prelude.{ℕ, List}
use Rattle.table_tree.specs.Layouts.{layout_of, bytes_of}
use Rattle.region_store.specs.Stores.{Store, store_tree}

unfoldable pub store_bytes : Store → List ℕ
store_bytes store = bytes_of (layout_of (store_tree store))
