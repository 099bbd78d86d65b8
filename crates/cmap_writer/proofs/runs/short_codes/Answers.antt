use Rattle.std.proofs.Common.{rules, nat_le}
use Rattle.std.proofs.lemmas.List.Sorted.{IsPartitionPoint-from_clause, IsPartitionedBy-leb}
use Rattle.cmap_writer.proofs.Bounds.{take-filter, rising_keys}
use Rattle.cmap_writer.proofs.runs.short_codes.Goals as goal

pub returns : goal.returns
returns c =
    let codes = c.args.codes.now in
    let parted = IsPartitionedBy-leb (λ code. code.0) codes 65534 (rising_keys codes c.requires) in
    let point = IsPartitionPoint-from_clause (λ code. nat_le code.0 65534) _ _
    c.partition_point-count.ensures.partitioned parted (λ a r q k. search rules) in
    take-filter (λ code. nat_le code.0 65534) codes _ c.partition_point-count.ensures.bound point.0
    point.1
