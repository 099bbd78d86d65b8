use Rattle.std.proofs.Common.{◌≡◌, ◌++◌, ◌∙◌, map, length, ap, arith}
use Rattle.std.proofs.lemmas.Grind.{common_steps}
use Rattle.std.specs.List.{flat_map}
use Rattle.table_bytes.specs.DataTypes.{uint32}
use Rattle.glyf_writer.specs.Tables.{offsets}
use Rattle.glyf_writer.proofs.Steps.{shift_zero, offset_step, total_step}
use Rattle.glyf_writer.proofs.tables.loca_of.Goals as goal

pub loop-part-init : goal.loop-part-init
loop-part-init c = record {
  told = ap (λ os. c.in_ok-loca.loca.items ++ flat_map uint32 os)
      (shift_zero (offsets (map (λ part. part.value.items) c.args.parts.now)))
      ∙ ap (λ bytes. bytes ++ flat_map uint32
      (offsets (map (λ part. part.value.items) c.args.parts.now))) c.in_ok-loca.ensures.items;
  counted = omega arith;
}

pub loop-part-preserved : goal.loop-part-preserved
loop-part-preserved c =
    let parts = c.args.parts.now in
    let item = c.part-item.result in
    let sized : c.len.result ≡ length item.value.items = grind (arith, common_steps) in
    record {
      told = offset_step (λ part. part.value.items) parts c.loop-part.part-index item _ _ _
          c.loop-part.offset _ (omega arith) c.part-item.is sized c.in_ok-push_uint32.ensures.bytes
          c.loop-part.invariant.told;
      counted = omega (
        arith,
        c.loop-part.invariant.counted,
        sized,
        total_step
            (λ part. part.value.items) parts c.loop-part.part-index item (omega arith)
            c.part-item.is,
      );
    }
