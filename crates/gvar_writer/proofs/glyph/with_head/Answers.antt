use Rattle.std.proofs.Common.{◌+◌, ◌++◌, ◌∙◌, ℕ, ap, length, arith}
use Rattle.table_bytes.specs.DataTypes.{padded, uint16}
use Rattle.gvar_writer.specs.GlyphVariations.{with_head}
use Rattle.gvar_writer.proofs.GlyphSteps.{offset_bytes}
use Rattle.gvar_writer.proofs.glyph.with_head.Goals as goal

pub returns : goal.returns
unfolding with_head
returns c =
    let tuples = c.args.tuples.now in
    let n : ℕ = length tuples.headers.items in
    let offset = offset_bytes (4 + c.len-data_offset.result) n
    (omega (arith, c.len-data_offset.ensures)) in
    let count = c.in_ok-push_uint16.ensures.bytes
    ∙ ap (λ bytes. bytes ++ uint16 tuples.count) c.new-bytes.ensures.items in
    let head = c.in_ok-push_uint16-2.ensures.bytes ∙ (λ i. count i ++ offset i) in
    let headers = c.in_ok-extend_from_slice.ensures.items
    ∙ (λ i. head i ++ c.as_slice.ensures.value i) in
    let all = c.in_ok-extend_from_slice-2.ensures.items
    ∙ (λ i. headers i ++ c.as_slice-2.ensures.value i) in
    c.in_ok-pad.ensures ∙ ap padded all
