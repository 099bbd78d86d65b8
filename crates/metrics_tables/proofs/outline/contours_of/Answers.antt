use Rattle.std.proofs.Common.{arith, ◌<◌, List, length, get_or, ap}
use Rattle.font_ir.specs.declared.glyph.Contour.{Contour}
use Rattle.font_ir.specs.OutlineLaws.{few_contours}
use Rattle.metrics_tables.proofs.outline.contours_of.Goals as goal

pub overflow_cast-result : goal.overflow_cast-result
overflow_cast-result c =
    let flat = c.requires.flat in
    let drawn = c.args.glyph.now.drawn in
    let d = c.index-as_slice-place.result in
    let lt : c.args.place < length drawn = omega arith in
    let less = few_contours (get_or drawn c.args.place d) (flat.no_empty_contour c.args.place d lt)
    in
    let few = flat.few_points c.args.place d lt in
    let is = ap length c.index-as_slice-place.is in
    let same = ap (λ (xs : List (List Contour)). length (get_or xs c.args.place d))
    c.as_slice.ensures in
    omega (arith, less, few, is, same, c.len.ensures)
