use Rattle.std.proofs.Common.{◌++◌, ◌∙◌, ◌+◌, ◌*◌, ap, append_assoc}
use Rattle.table_bytes.specs.DataTypes.{uint16, uint32}
use Rattle.gvar_writer.specs.Gvar.{gvar_head}
use Rattle.gvar_writer.proofs.table.push_head.Goals as goal

pub returns : goal.returns
unfolding gvar_head
returns c =
    let b2 = c.in_ok-push_uint16-2.ensures.bytes
    ∙ ap (λ bytes. bytes ++ uint16 0) c.in_ok-push_uint16.ensures.bytes in
    let b3 = c.in_ok-push_uint16-3.ensures.bytes ∙ ap (λ bytes. bytes ++ uint16 c.args.axes) b2 in
    let b4 = c.in_ok-push_uint16-4.ensures.bytes ∙ ap (λ bytes. bytes ++ uint16 c.args.shared) b3 in
    let b5 = c.in_ok-push_uint32.ensures.bytes
    ∙ (λ i. b4 i ++ uint32 (20 + 4 * (c.from.ensures i + 1))) in
    let b6 = c.in_ok-push_uint16-5.ensures.bytes ∙ ap (λ bytes. bytes ++ uint16 c.args.glyphs) b5 in
    let b7 = c.in_ok-push_uint16-6.ensures.bytes ∙ ap (λ bytes. bytes ++ uint16 1) b6 in
    let b8 = c.in_ok-push_uint32-2.ensures.bytes
    ∙ (λ i. b7 i ++ uint32 (20 + 4 * (c.from.ensures i + 1) + c.args.shared_length)) in
    simp append_assoc at b8
