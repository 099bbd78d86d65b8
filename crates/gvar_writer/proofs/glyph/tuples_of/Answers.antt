use Rattle.std.proofs.Common.{◌≡◌, ◌+◌, ◌++◌, List, ℤ, Vec, Global, map, drop, get_or, ap, sym, ◌∙◌}
use Rattle.std.proofs.Common.{arith}
use Rattle.gvar_writer.specs.GlyphVariations.{Tuple, tuple_at, tuples_from, where_moving, data_of}
use Rattle.gvar_writer.specs.GlyphVariations.{header_bytes}
use Rattle.gvar_writer.proofs.GlyphSteps.{tuples_more, bytes_step, count_step, few_moving}
use Rattle.gvar_writer.proofs.glyph.tuples_of.Goals as goal

pub loop-k-preserved : goal.loop-k-preserved
loop-k-preserved c =
    let row_items : Vec ℤ Global → List ℤ = λ row. row.items in
    let items : Vec (ℤ × ℤ) Global → List (ℤ × ℤ) = λ contour. contour.items in
    let x_rows = map row_items c.args.x_rows.now in
    let y_rows = map row_items c.args.y_rows.now in
    let contours = map items c.args.outline.now.contours.items in
    let regions = c.args.regions.now in
    let k = c.loop-k.k in
    let region = c.index-regions-k.result in
    let xs = c.as_slice.ensures.value ∙ c.in_ok-xs.ensures in
    let ys = c.as_slice-in-loop-k.ensures.value ∙ c.in_ok-ys.ensures in
    let tuple : Tuple = record {
      region = region;
      xs = c.as_slice.result.now;
      ys = c.as_slice-in-loop-k.result.now;
    } in
    let here : tuple ≡ tuple_at x_rows y_rows k (get_or regions k region) =
    λ i. record { region = c.index-regions-k.is i; xs = xs i; ys = ys i } in
    let rest = tuples_from x_rows y_rows (k + 1) (drop (k + 1) regions) in
    let parts : tuples_from x_rows y_rows k (drop k regions) ≡ where_moving tuple ++ rest =
    tuples_more x_rows y_rows regions k region (omega arith)
    ∙ ap (λ t. where_moving t ++ rest) (sym here) in
    let pushed = c.in_ok-push_region.ensures in
    let before = c.loop-k.invariant in
    record {
      few = omega (arith, pushed.count, few_moving tuple, before.few);
      count = count_step (where_moving tuple) rest _ _ _ _ parts pushed.count before.count;
      headers = bytes_step (header_bytes c.args.shared.now contours) (where_moving tuple) rest _ _ _
          _ parts pushed.headers before.headers;
      serialized = bytes_step (data_of contours) (where_moving tuple) rest _ _ _ _ parts
          pushed.serialized before.serialized;
    }
