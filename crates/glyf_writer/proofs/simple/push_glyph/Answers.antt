use Rattle.std.proofs.Common.{◌++◌, map, length, pos, slice_index_or, ap, sym, ◌∙◌}
use Rattle.std.specs.List.{flat_map}
use Rattle.std.proofs.lemmas.List.{length-map}
use Rattle.table_bytes.specs.DataTypes.{uint16, int16}
use Rattle.font_ir.specs.Outlines.{stored_point}
use Rattle.font_ir.specs.OutlineLaws.{sides_of, sides_are, stored_counts}
use Rattle.glyf_writer.specs.Outlines.{end_points, steps_of}
use Rattle.glyf_writer.specs.GlyphData.{flags_of, with_repeats, coordinate_bytes}
use Rattle.glyf_writer.proofs.simple.push_glyph.Goals as goal

pub returns : goal.returns
returns c =
    let contours = c.args.contours.now in
    let points = c.requires.points in
    let bounds = c.args.bounds in
    let sides = sides_are c.args.points.now bounds c.requires.bounds ∙ ap sides_of points in
    let count = c.count_of.ensures ∙ sym (length-map contours
    (λ contour. map stored_point contour.points)) in
    let x_min = ap (λ s. slice_index_or s 0 (pos 0)) sides in
    let y_min = ap (λ s. slice_index_or s 1 (pos 0)) sides in
    let x_max = ap (λ s. slice_index_or s 2 (pos 0)) sides in
    let y_max = ap (λ s. slice_index_or s 3 (pos 0)) sides in
    let ends = ap end_points (sym (stored_counts contours)) in
    let steps = c.in_ok-steps.ensures ∙ ap steps_of points in
    let flags = c.as_slice-2.ensures.value ∙ c.in_ok-flags.ensures
    ∙ ap (flags_of c.args.variable) (c.as_slice.ensures.value ∙ steps) in
    let xs = ap (map (λ step. step.dx)) (c.as_slice-3.ensures.value ∙ steps) in
    let ys = ap (map (λ step. step.dy)) (c.as_slice-4.ensures.value ∙ steps) in
    let b1 = c.in_ok-push_uint16.ensures.bytes
    ∙ ap (λ bytes. bytes ++ uint16 c.count_of.result) c.requires.empty in
    let b2 = c.in_ok-push_bounds.ensures ∙
    ap (λ bytes. bytes ++ int16 (slice_index_or bounds 0 (pos 0))
    ++ int16 (slice_index_or bounds 1 (pos 0)) ++ int16 (slice_index_or bounds 2 (pos 0))
    ++ int16 (slice_index_or bounds 3 (pos 0))) b1 in
    let b3 = c.in_ok-push_end_points.ensures
    ∙ ap (λ bytes. bytes ++ flat_map uint16
    (end_points (map (λ contour. length contour.points) contours))) b2 in
    let b4 = c.in_ok-push_uint16-2.ensures.bytes ∙ ap (λ bytes. bytes ++ uint16 0) b3 in
    let b5 = c.in_ok-push_flags.ensures ∙ ap (λ bytes. bytes
    ++ with_repeats c.as_slice-2.result.now) b4 in
    let b6 = c.in_ok-push_x_coordinates.ensures
    ∙ ap (λ bytes. bytes ++ flat_map coordinate_bytes
    (map (λ step. step.dx) c.as_slice-3.result.now)) b5 in
    let b7 = c.in_ok-push_y_coordinates.ensures
    ∙ ap (λ bytes. bytes ++ flat_map coordinate_bytes
    (map (λ step. step.dy) c.as_slice-4.result.now)) b6 in
    b7 ∙ (λ i. uint16 (count i) ++ int16 (x_min i) ++ int16 (y_min i) ++ int16 (x_max i)
    ++ int16 (y_max i) ++ flat_map uint16 (ends i) ++ uint16 0 ++ with_repeats (flags i)
    ++ flat_map coordinate_bytes (xs i) ++ flat_map coordinate_bytes (ys i))
