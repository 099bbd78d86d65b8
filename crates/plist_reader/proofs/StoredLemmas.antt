-- A pool that only gets more at its end holds what it held before, in the same parts.
use Rattle.std.proofs.Common.{◌≡◌, ◌-◌, arith, List, [], ◌∷◌, ◌++◌, length, take, drop, map, Result}
use Rattle.std.proofs.Common.{Ok, Err, OnErr, ap, sym, ◌∙◌, refl, subst}
use Rattle.std.proofs.lemmas.List.{take-append-le, drop-append-le, length-append, length-drop}
use Rattle.std.proofs.lemmas.List.{map-append}
use Rattle.std.proofs.lemmas.List.Elements.{All-push, All-tail, All-weaker}
use Rattle.std.specs.List.{All}
use Rattle.std.specs.Str.{IsUtf8}
use Rattle.plist_reader.specs.declared.tree.TreeValue.TheVariants as tree
use Rattle.plist_reader.specs.declared.pools.Pools.{Pools}
use Rattle.plist_reader.specs.declared.pools.Span.{Span}
use Rattle.plist_reader.specs.declared.pools.Content.{Content}
use Rattle.plist_reader.specs.declared.pools.Content.TheVariants as content
use Rattle.plist_reader.specs.declared.nodes.StoredNode.{StoredNode}
use Rattle.plist_reader.specs.Stored.{part, value_of, node_of, IsPart, IsIn, Grows, Extends}

part-append : {T : Type 0} (old more : List T) (span : Span) → IsPart old span
    → part (old ++ more) span ≡ part old span
part-append old more span h =
    ap (λ xs. take (span.end - span.start) xs)
    (drop-append-le span.start old more (omega (arith, h.0, h.1)))
    ∙ take-append-le (span.end - span.start) (drop span.start old) more
    (omega (arith, h.0, h.1, length-drop span.start old))

part-kept : {T : Type 0} (old new : List T) (span : Span) → Grows old new → IsPart old span
    → part new span ≡ part old span
part-kept old new span g h = ap (λ xs. part xs span) g.1 ∙ part-append old g.0 span h

IsPart-kept : {T : Type 0} (old new : List T) (span : Span) → Grows old new → IsPart old span
    → IsPart new span
IsPart-kept old new span g h = (h.0, omega (arith, h.1, ap length g.1, length-append old g.0))

value_of-kept : (old new : Pools) (c : Content) → Extends old new → IsIn old c
    → value_of new c ≡ value_of old c
value_of-kept old new (content.Text span) g h
    = ap (λ xs. tree.Text xs) (part-kept old.bytes.items new.bytes.items span g.bytes h.0)
value_of-kept old new (content.Bytes span) g h
    = ap (λ xs. tree.Bytes xs) (part-kept old.bytes.items new.bytes.items span g.bytes h)
value_of-kept old new (content.Items span) g h
    = ap (λ xs. tree.Items xs) (part-kept old.items.items new.items.items span g.items h)
value_of-kept old new (content.Pairs span) g h
    = ap (λ xs. tree.Pairs xs) (part-kept old.pairs.items new.pairs.items span g.pairs h)

pub IsIn-kept : (old new : Pools) (c : Content) → Extends old new → IsIn old c → IsIn new c
IsIn-kept old new (content.Text span) g h
    = (
      IsPart-kept old.bytes.items new.bytes.items span g.bytes h.0,
      subst IsUtf8
          (sym (part-kept old.bytes.items new.bytes.items span g.bytes h.0)) h.1,
    )
IsIn-kept old new (content.Bytes span) g h
    = IsPart-kept old.bytes.items new.bytes.items span g.bytes h
IsIn-kept old new (content.Items span) g h
    = IsPart-kept old.items.items new.items.items span g.items h
IsIn-kept old new (content.Pairs span) g h
    = IsPart-kept old.pairs.items new.pairs.items span g.pairs h

-- the values that were there are there as they were
pub nodes-kept : (old new : Pools) (entries : List StoredNode) → Extends old new
    → All (λ entry. IsIn old entry.content) entries
    → map (node_of new) entries ≡ map (node_of old) entries
nodes-kept old new [] g h = refl
nodes-kept old new (entry ∷ entries) g h =
    ap (λ value. record { place = entry.place; end = entry.end; value = value }
    ∷ map (node_of new) entries) (value_of-kept old new entry.content g
    (h 0 entry (omega arith)))
    ∙ ap (λ nodes. node_of old entry ∷ nodes)
    (nodes-kept old new entries g (All-tail (λ e. IsIn old e.content) entry entries h))

-- behind them stands a new one
pub nodes-pushed : (old new : Pools) (entries : List StoredNode) (entry : StoredNode)
    → Extends old new → All (λ e. IsIn old e.content) entries
    → map (node_of new) (entries ++ entry ∷ [])
    ≡ map (node_of old) entries ++ node_of new entry ∷ []
nodes-pushed old new entries entry g h = map-append (node_of new) entries (entry ∷ [])
    ∙ ap (λ nodes. nodes ++ node_of new entry ∷ []) (nodes-kept old new entries g h)

pub entries-kept : (old new : Pools) (entries : List StoredNode) → Extends old new
    → All (λ e. IsIn old e.content) entries → All (λ e. IsIn new e.content) entries
entries-kept old new entries g = All-weaker (λ e. IsIn old e.content) (λ e. IsIn new e.content)
    (λ e. IsIn-kept old new e.content g) entries

pub entries-pushed : (old new : Pools) (entries : List StoredNode) (entry : StoredNode)
    → Extends old new → All (λ e. IsIn old e.content) entries → IsIn new entry.content
    → All (λ e. IsIn new e.content) (entries ++ entry ∷ [])
entries-pushed old new entries entry g h i
    = All-push (λ e. IsIn new e.content) entries entry (entries-kept old new entries g h) i

pub on_err : {T E P : Type 0} (r : Result T E) → P → OnErr r P
on_err (Ok x) p = tt
on_err (Err e) p = p
