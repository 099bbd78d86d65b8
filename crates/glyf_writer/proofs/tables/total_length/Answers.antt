use Rattle.std.proofs.Common.{arith, map, length}
use Rattle.std.specs.List.{concat}
use Rattle.std.proofs.lemmas.List.{at_drop_all}
use Rattle.glyf_writer.proofs.tables.total_length.Goals as goal

pub returns : goal.returns
returns c = omega (
  arith,
  at_drop_all (λ parts. length
      (concat (map (λ part. part.value.items) parts))) c.args.parts.now c.loop-part.part-index
      (omega arith),
  c.loop-part.invariant.told,
  c.loop-part.invariant.few,
)
