use Rattle.std.proofs.Common.{◌≡◌, ◌++◌, ◌∙◌, ap, length, map, sym, arith}
use Rattle.std.proofs.lemmas.List.{length-map}
use Rattle.std.specs.List.{concat}
use Rattle.gvar_writer.specs.Gvar.{gvar_head, gvar_table, offsets_bytes, shared_tuples}
use Rattle.gvar_writer.proofs.table.table_of.Goals as goal

pub returns : goal.returns
unfolding gvar_table
returns c =
    let shared = c.args.shared.now in
    let parts = map (λ part. part.value.items) c.args.parts.now in
    let count = sym (length-map c.args.parts.now (λ part. part.value.items)) in
    let tuples = c.in_ok-tuples.ensures in
    let size : c.len.result ≡ length (shared_tuples shared) = omega
    (arith, ap length tuples, c.len.ensures) in
    let head = c.in_ok-push_head.ensures ∙ (λ i. c.in_ok-table.ensures.items i
    ++ gvar_head c.args.axes (length shared) (count i) (size i)) in
    let offsets = c.in_ok-push_offsets.ensures ∙ ap (λ bytes. bytes ++ offsets_bytes parts) head in
    let peaks = c.in_ok-extend_from_slice.ensures.items
    ∙ (λ i. offsets i ++ (c.as_slice.ensures.value ∙ tuples) i) in
    c.in_ok-push_parts.ensures ∙ ap (λ bytes. bytes ++ concat parts) peaks
