use Rattle.std.proofs.Common.{◌∙◌, ap, sym, min, map, arith}
use Rattle.std.proofs.lemmas.Result.{err_from_is_err_and}
use Rattle.table_bytes.specs.LimitLaws.{is_over, is_within}
use Rattle.gvar_writer.proofs.PointLaws.{few_shared}
use Rattle.gvar_writer.proofs.TableSteps.{length_table}
use Rattle.gvar_writer.proofs.table.gvar_table.Goals as goal

pub returns-then-length-gt-TABLE_BYTES : goal.returns-then-length-gt-TABLE_BYTES
returns-then-length-gt-TABLE_BYTES c =
    let parts = map (λ part. part.value.items) c.args.parts.now in
    let size = length_table c.args.shared.now c.args.axes parts in
    is_over _ _ (c.table_length-length.ensures
    ∙ ap (λ n. min n 18446744073709551615) (sym size)) c.if-length-gt-TABLE_BYTES.true

pub table_of-requires-clause-shared : goal.table_of-requires-clause-shared
table_of-requires-clause-shared c = few_shared c.args.shared.now c.requires.shared

pub returns-in_err-table_of : goal.returns-in_err-table_of
returns-in_err-table_of c =
    let parts = map (λ part. part.value.items) c.args.parts.now in
    let size = length_table c.args.shared.now c.args.axes parts in
    let none = is_within _ c.table_length-length.result (c.table_length-length.ensures
    ∙ ap (λ n. min n 18446744073709551615) (sym size)) (omega arith) in
    let p = err_from_is_err_and c.from_residual.result c.from_residual.ensures.1 in
    rw (p.1, p.2) none

pub returns : goal.returns
returns c =
    let parts = map (λ part. part.value.items) c.args.parts.now in
    let size = length_table c.args.shared.now c.args.axes parts in
    let none = is_within _ c.table_length-length.result (c.table_length-length.ensures
    ∙ ap (λ n. min n 18446744073709551615) (sym size)) (omega arith) in
    (none, c.in_ok-table_of.ensures)
