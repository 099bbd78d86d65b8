use Rattle.std.proofs.Common.{map, arith}
use Rattle.std.proofs.lemmas.List.{length-map}
use Rattle.std.proofs.lemmas.Result.{err_from_is_err_and}
use Rattle.glyf_writer.proofs.Steps.{loca_over, none_over}
use Rattle.glyf_writer.proofs.tables.loca_table.Goals as goal

pub returns-then-loca_length-gt-TABLE_BYTES : goal.returns-then-loca_length-gt-TABLE_BYTES
returns-then-loca_length-gt-TABLE_BYTES c =
    let parts = map (λ part. part.value.items) c.args.parts.now in
    loca_over parts _ _ c.total_length-glyf_length.ensures (omega arith)
    (omega (
      arith,
      c.saturating_mul-loca_length.ensures,
      c.saturating_add.ensures,
      length-map
          c.args.parts.now (λ part. part.value.items),
    )) c.if-loca_length-gt-TABLE_BYTES.true

pub returns-in_err-loca_of : goal.returns-in_err-loca_of
returns-in_err-loca_of c =
    let parts = map (λ part. part.value.items) c.args.parts.now in
    let none = none_over parts c.total_length-glyf_length.result c.saturating_mul-loca_length.result
    c.total_length-glyf_length.ensures (omega arith)
    (omega (
      arith,
      c.saturating_mul-loca_length.ensures,
      c.saturating_add.ensures,
      length-map
          c.args.parts.now (λ part. part.value.items),
    )) (omega arith) in
    let p = err_from_is_err_and c.from_residual.result c.from_residual.ensures.1 in
    rw (p.1, p.2) none

pub returns : goal.returns
returns c =
    let parts = map (λ part. part.value.items) c.args.parts.now in
    let none = none_over parts c.total_length-glyf_length.result c.saturating_mul-loca_length.result
    c.total_length-glyf_length.ensures (omega arith)
    (omega (
      arith,
      c.saturating_mul-loca_length.ensures,
      c.saturating_add.ensures,
      length-map
          c.args.parts.now (λ part. part.value.items),
    )) (omega arith) in
    (none, c.in_ok-loca_of.ensures)
