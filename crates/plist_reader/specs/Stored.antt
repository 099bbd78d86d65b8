-- How the values of a tree are stored: a pool holds what many values hold, one behind the other,
-- and a value says where its part lies. Fontc's own. A caller of `Nodes` sees the list of the nodes
-- alone.
use Rattle.std.specs.Prelude.{◌≡◌, ◌≤◌, List, ◌++◌, length, slice_range}
use Rattle.std.specs.Str.{IsUtf8}
use Rattle.plist_reader.specs.declared.tree.TreeNode.{TreeNode}
use Rattle.plist_reader.specs.declared.tree.TreeValue.{TreeValue}
use Rattle.plist_reader.specs.declared.tree.TreeValue.TheVariants as tree
use Rattle.plist_reader.specs.declared.tree.NodeRef.{NodeRef}
use Rattle.plist_reader.specs.declared.tree.ValueRef.{ValueRef}
use Rattle.plist_reader.specs.declared.tree.ValueRef.TheVariants as refs
use Rattle.plist_reader.specs.declared.pools.Pools.{Pools}
use Rattle.plist_reader.specs.declared.pools.Span.{Span}
use Rattle.plist_reader.specs.declared.pools.Content.{Content}
use Rattle.plist_reader.specs.declared.pools.Content.TheVariants as content
use Rattle.plist_reader.specs.declared.nodes.StoredNode.{StoredNode}

-- the part of a pool
abbrev pub part : {T : Type 0} → List T → Span → List T
part pool span = slice_range pool span.start span.end

-- the value that is stored so
abbrev pub value_of : Pools → Content → TreeValue
value_of pools (content.Text span) = tree.Text (part pools.bytes.items span)
value_of pools (content.Bytes span) = tree.Bytes (part pools.bytes.items span)
value_of pools (content.Items span) = tree.Items (part pools.items.items span)
value_of pools (content.Pairs span) = tree.Pairs (part pools.pairs.items span)

abbrev pub node_of : Pools → StoredNode → TreeNode
node_of pools entry = record {
  place = entry.place;
  end = entry.end;
  value
      = value_of pools entry.content;
}

-- a part lies inside its pool
abbrev pub IsPart : {T : Type 0} → List T → Span → Type 0
IsPart pool span = (span.start ≤ span.end) × (span.end ≤ length pool)

-- what a value holds lies inside its pool, and a text is UTF-8
abbrev pub IsIn : Pools → Content → Type 0
IsIn pools (content.Text span) = IsPart pools.bytes.items span
    × IsUtf8 (part pools.bytes.items span)
IsIn pools (content.Bytes span) = IsPart pools.bytes.items span
IsIn pools (content.Items span) = IsPart pools.items.items span
IsIn pools (content.Pairs span) = IsPart pools.pairs.items span

-- a pool has only got more at its end
abbrev pub Grows : {T : Type 0} → List T → List T → Type 0
Grows {T} old new = (more : List T) × (new ≡ old ++ more)

pub record Extends (old new : Pools) : Type 0 where
  pub bytes : Grows old.bytes.items new.bytes.items
  pub items : Grows old.items.items new.items.items
  pub pairs : Grows old.pairs.items new.pairs.items

-- what is borrowed of a tree, as a value and as a node
abbrev pub seen : ValueRef → TreeValue
seen (refs.Text text) = tree.Text text.now
seen (refs.Bytes bytes) = tree.Bytes bytes.now
seen (refs.Items items) = tree.Items items.now
seen (refs.Pairs pairs) = tree.Pairs pairs.now

abbrev pub seen_node : NodeRef → TreeNode
seen_node node = record { place = node.place; end = node.end; value = seen node.value }
