use Rattle.std.proofs.Common.{◌≡◌, ◌+◌, ◌-◌, ◌∙◌, ap, sym, arith, List, ℤ, map, length, Vec}
use Rattle.std.proofs.Common.{Global, ◌∷◌, ◌++◌}
use Rattle.std.proofs.lemmas.List.Elements.{All-push}
use Rattle.std.proofs.lemmas.Result.{err_from_is_err_and}
use Rattle.gvar_writer.specs.GlyphPoints.{first_refused}
use Rattle.gvar_writer.specs.declared.positions.Position.{Position}
use Rattle.gvar_writer.proofs.RowSteps.{row_of, rows_from, rows_more, rows_step, refuse_first}
use Rattle.gvar_writer.proofs.RowSteps.{accept_first}
use Rattle.gvar_writer.proofs.rows.rows_of.Goals as goal

pub returns-in_err-row_of : goal.returns-in_err-row_of
returns-in_err-row_of c =
    let items : Vec Position Global → List Position = λ positions. positions.items in
    let by_place = map items c.args.by_place.now in
    let i = c.loop-point.point in
    let more = rows_more c.args.coordinate c.args.model.now by_place i c.args.count (omega arith) in
    let p = err_from_is_err_and c.from_residual-in_err-row_of.result
    c.from_residual-in_err-row_of.ensures.1 in
    rw (p.1, p.2) (refuse_first c.in_err-row_of.field-0.0
    (row_of c.args.coordinate c.args.model.now by_place i)
    (rows_from c.args.coordinate c.args.model.now by_place (i + 1) (c.args.count - (i + 1))) _
    (ap first_refused (sym more) ∙ c.loop-point.invariant.refused) c.in_err-row_of.ensures)

pub loop-point-preserved : goal.loop-point-preserved
loop-point-preserved c =
    let items : Vec Position Global → List Position = λ positions. positions.items in
    let by_place = map items c.args.by_place.now in
    let i = c.loop-point.point in
    let own = row_of c.args.coordinate c.args.model.now by_place i in
    let rest = rows_from c.args.coordinate c.args.model.now by_place (i + 1)
    (c.args.count - (i + 1)) in
    let more : rows_from c.args.coordinate c.args.model.now by_place i (c.args.count - i) ≡ own
    ∷ rest = rows_more c.args.coordinate c.args.model.now by_place i c.args.count (omega arith) in
    let row : Vec ℤ Global → List ℤ = λ row. row.items in
    record {
      told = rows_step row c.loop-point.rows.items _ c.in_ok-row_of.field-0 own rest _
          c.in_ok-push.ensures.items c.in_ok-row_of.ensures.0
          (ap (λ rows. map row c.loop-point.rows.items ++ rows) (sym more)
          ∙ c.loop-point.invariant.told);
      refused = accept_first own rest _ c.in_ok-row_of.ensures.1
          (ap first_refused (sym more) ∙ c.loop-point.invariant.refused);
      sizes = rw c.in_ok-push.ensures.items (All-push (λ row. length row.items
          ≡ length c.args.model.now) _ _ c.loop-point.invariant.sizes c.in_ok-row_of.ensures.2);
    }
