use Rattle.region_store.proofs.OffsetLemmas.{written_store, not_above}
use Rattle.region_store.proofs.stores.store_bytes.Goals as goal

pub returns-in-Ok : goal.returns-in-Ok
returns-in-Ok c = written_store _ c.in_ok-store.store c.in-Ok.bytes.items c.in_ok-store.ensures
    c.in-Ok.ensures.bytes.0

pub unreachable-requires : goal.unreachable-requires
unreachable-requires c =
    let refused = rw c.in-Err-Offset.field-0-is at c.in-Err-Offset.ensures.bytes in
    not_above _ c.in_ok-store.store c.in-Err-Offset.field-0-0 c.in_ok-store.ensures
    c.requires.store c.requires.few_axes refused
