use Rattle.std.proofs.Common.{length, map, arith}
use Rattle.std.specs.List.{concat}
use Rattle.std.proofs.lemmas.Result.{err_from_is_err_and}
use Rattle.table_bytes.specs.LimitLaws.{is_over, is_within}
use Rattle.glyf_writer.proofs.tables.glyf_table.Goals as goal

pub returns-then-length-gt-TABLE_BYTES : goal.returns-then-length-gt-TABLE_BYTES
returns-then-length-gt-TABLE_BYTES c = is_over _ _ c.total_length-length.ensures
    c.if-length-gt-TABLE_BYTES.true

pub returns-in_err-joined : goal.returns-in_err-joined
returns-in_err-joined c =
    let none = is_within _ _ c.total_length-length.ensures (omega arith) in
    let p = err_from_is_err_and c.from_residual.result c.from_residual.ensures.1 in
    rw (p.1, p.2) none

pub returns : goal.returns
returns c = (is_within _ _ c.total_length-length.ensures (omega arith), c.in_ok-joined.ensures)
