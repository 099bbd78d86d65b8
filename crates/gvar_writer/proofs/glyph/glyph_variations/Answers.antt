use Rattle.std.proofs.Common.{◌≡◌, ◌∙◌, List, ℤ, Vec, Global, length, map, ap, sym, arith}
use Rattle.std.proofs.Common.{subst}
use Rattle.std.proofs.lemmas.List.{length-map}
use Rattle.std.proofs.lemmas.Result.{err_from_is_err_and}
use Rattle.font_ir.specs.FlatGlyphs.{point_count}
use Rattle.variation_model.specs.Supports.{supports_of}
use Rattle.gvar_writer.specs.GlyphPoints.{glyph_rows, first_refused, or_else, point_total}
use Rattle.gvar_writer.specs.GlyphVariations.{rows_bytes}
use Rattle.gvar_writer.specs.RowAnswers.{RefusesDelta}
use Rattle.gvar_writer.specs.declared.positions.Coordinate.TheVariants as coordinates
use Rattle.gvar_writer.proofs.PointLaws.{few_shared, few_points, own_within, some_places, rows_are}
use Rattle.gvar_writer.proofs.PointLaws.{length_rows, refuse_x, refuse_y, items_of, count_is}
use Rattle.gvar_writer.proofs.PointLaws.{each_count}
use Rattle.gvar_writer.proofs.glyph.glyph_variations.Goals as goal

abbrev row_items : Vec ℤ Global → List ℤ
row_items row = row.items

pub rows_of-requires-clause-places : goal.rows_of-requires-clause-places
rows_of-requires-clause-places c =
    ap length c.as_slice-by_place.ensures.value ∙ c.in_ok-by_place.ensures.places
    ∙ sym (ap length c.requires.model)

pub rows_of-requires-clause-within : goal.rows_of-requires-clause-within
rows_of-requires-clause-within c =
    let glyph = c.args.glyph.now in
    let seen = c.as_slice-by_place.ensures.value in
    let many = c.in_ok-by_place.ensures.as_many in
    let count = count_is glyph _ _ _ c.len-count.result c.requires.flat seen
    c.in_ok-by_place.ensures.places many c.index-by_place-0.is c.len-count.ensures in
    each_count glyph _ _ c.len-count.result seen many count

pub rows_of-requires-2-clause-places : goal.rows_of-requires-2-clause-places
rows_of-requires-2-clause-places c =
    ap length c.as_slice-by_place.ensures.value ∙ c.in_ok-by_place.ensures.places
    ∙ sym (ap length c.requires.model)

pub rows_of-requires-2-clause-within : goal.rows_of-requires-2-clause-within
rows_of-requires-2-clause-within c =
    let glyph = c.args.glyph.now in
    let seen = c.as_slice-by_place.ensures.value in
    let many = c.in_ok-by_place.ensures.as_many in
    let count = count_is glyph _ _ _ c.len-count.result c.requires.flat seen
    c.in_ok-by_place.ensures.places many c.index-by_place-0.is c.len-count.ensures in
    each_count glyph _ _ c.len-count.result seen many count

pub returns-in_err-x_rows : goal.returns-in_err-x_rows
returns-in_err-x_rows c =
    let glyph = c.args.glyph.now in
    let seen = c.as_slice-by_place.ensures.value in
    let many = c.in_ok-by_place.ensures.as_many in
    let count = count_is glyph _ _ _ c.len-count.result c.requires.flat seen
    c.in_ok-by_place.ensures.places many c.index-by_place-0.is c.len-count.ensures in
    let positions = ap (map items_of) seen ∙ c.in_ok-by_place.ensures.value in
    let x_rows = rows_are coordinates.X glyph _ _ _ c.requires.model positions count in
    let e = c.in_err-x_rows.field-0.0 in
    let refused = subst (λ rows. RefusesDelta e (first_refused rows)) x_rows
    c.in_err-x_rows.ensures in
    let p = err_from_is_err_and c.from_residual-in_err-x_rows.result
    c.from_residual-in_err-x_rows.ensures.1 in
    rw (p.1, p.2) (refuse_x e (first_refused (glyph_rows coordinates.X glyph))
    (first_refused (glyph_rows coordinates.Y glyph)) refused)

pub returns-in_err-y_rows : goal.returns-in_err-y_rows
returns-in_err-y_rows c =
    let glyph = c.args.glyph.now in
    let seen = c.as_slice-by_place.ensures.value in
    let many = c.in_ok-by_place.ensures.as_many in
    let count = count_is glyph _ _ _ c.len-count.result c.requires.flat seen
    c.in_ok-by_place.ensures.places many c.index-by_place-0.is c.len-count.ensures in
    let positions = ap (map items_of) seen ∙ c.in_ok-by_place.ensures.value in
    let x_rows = rows_are coordinates.X glyph _ _ _ c.requires.model positions count in
    let y_rows = rows_are coordinates.Y glyph _ _ _ c.requires.model positions count in
    let e = c.in_err-y_rows.field-0.0 in
    let refused = subst (λ rows. RefusesDelta e (first_refused rows)) y_rows
    c.in_err-y_rows.ensures in
    let none = sym (ap first_refused x_rows) ∙ c.in_ok-x_rows.ensures.1 in
    let p = err_from_is_err_and c.from_residual-in_err-y_rows.result
    c.from_residual-in_err-y_rows.ensures.1 in
    rw (p.1, p.2) (refuse_y e (first_refused (glyph_rows coordinates.X glyph))
    (first_refused (glyph_rows coordinates.Y glyph)) none refused)

pub data_of-requires-clause-shared : goal.data_of-requires-clause-shared
data_of-requires-clause-shared c = few_shared c.args.shared.now c.requires.shared

pub data_of-requires-clause-pairs : goal.data_of-requires-clause-pairs
data_of-requires-clause-pairs c =
    let glyph = c.args.glyph.now in
    let seen = c.as_slice-by_place.ensures.value in
    let many = c.in_ok-by_place.ensures.as_many in
    let count = count_is glyph _ _ _ c.len-count.result c.requires.flat seen
    c.in_ok-by_place.ensures.places many c.index-by_place-0.is c.len-count.ensures in
    let positions = ap (map items_of) seen ∙ c.in_ok-by_place.ensures.value in
    let x_rows = rows_are coordinates.X glyph _ _ _ c.requires.model positions count in
    let y_rows = rows_are coordinates.Y glyph _ _ _ c.requires.model positions count in
    let many_x : length c.as_slice.result.now ≡ point_total glyph =
    ap length c.as_slice.ensures.value ∙ sym (length-map c.in_ok-x_rows.x_rows.items row_items)
    ∙ ap length (c.in_ok-x_rows.ensures.0 ∙ x_rows) ∙ length_rows coordinates.X glyph in
    let many_y : length c.as_slice-2.result.now ≡ point_total glyph =
    ap length c.as_slice-2.ensures.value ∙ sym (length-map c.in_ok-y_rows.y_rows.items row_items)
    ∙ ap length (c.in_ok-y_rows.ensures.0 ∙ y_rows) ∙ length_rows coordinates.Y glyph in
    many_y ∙ sym many_x

pub data_of-requires-clause-points : goal.data_of-requires-clause-points
data_of-requires-clause-points c =
    let glyph = c.args.glyph.now in
    let seen = c.as_slice-by_place.ensures.value in
    let many = c.in_ok-by_place.ensures.as_many in
    let count = count_is glyph _ _ _ c.len-count.result c.requires.flat seen
    c.in_ok-by_place.ensures.places many c.index-by_place-0.is c.len-count.ensures in
    let positions = ap (map items_of) seen ∙ c.in_ok-by_place.ensures.value in
    let x_rows = rows_are coordinates.X glyph _ _ _ c.requires.model positions count in
    let many_x : length c.as_slice.result.now ≡ point_total glyph =
    ap length c.as_slice.ensures.value ∙ sym (length-map c.in_ok-x_rows.x_rows.items row_items)
    ∙ ap length (c.in_ok-x_rows.ensures.0 ∙ x_rows) ∙ length_rows coordinates.X glyph in
    omega (arith, many_x, ap point_count c.own_contours.ensures, own_within glyph)

pub data_of-requires-clause-few : goal.data_of-requires-clause-few
data_of-requires-clause-few c =
    let glyph = c.args.glyph.now in
    let seen = c.as_slice-by_place.ensures.value in
    let many = c.in_ok-by_place.ensures.as_many in
    let count = count_is glyph _ _ _ c.len-count.result c.requires.flat seen
    c.in_ok-by_place.ensures.places many c.index-by_place-0.is c.len-count.ensures in
    let positions = ap (map items_of) seen ∙ c.in_ok-by_place.ensures.value in
    let x_rows = rows_are coordinates.X glyph _ _ _ c.requires.model positions count in
    let many_x : length c.as_slice.result.now ≡ point_total glyph =
    ap length c.as_slice.ensures.value ∙ sym (length-map c.in_ok-x_rows.x_rows.items row_items)
    ∙ ap length (c.in_ok-x_rows.ensures.0 ∙ x_rows) ∙ length_rows coordinates.X glyph in
    omega (arith, many_x, few_points glyph c.requires.flat (some_places glyph c.requires.flat))

pub returns : goal.returns
returns c =
    let glyph = c.args.glyph.now in
    let seen = c.as_slice-by_place.ensures.value in
    let many = c.in_ok-by_place.ensures.as_many in
    let count = count_is glyph _ _ _ c.len-count.result c.requires.flat seen
    c.in_ok-by_place.ensures.places many c.index-by_place-0.is c.len-count.ensures in
    let positions = ap (map items_of) seen ∙ c.in_ok-by_place.ensures.value in
    let x_rows = rows_are coordinates.X glyph _ _ _ c.requires.model positions count in
    let y_rows = rows_are coordinates.Y glyph _ _ _ c.requires.model positions count in
    let none = sym (ap first_refused x_rows) ∙ c.in_ok-x_rows.ensures.1 in
    let none_y = sym (ap first_refused y_rows) ∙ c.in_ok-y_rows.ensures.1 in
    let sizes = ap (map (λ contour. length contour.points)) c.own_contours.ensures in
    let regions = c.supports.ensures.value ∙ ap supports_of c.requires.model in
    let xs = ap (map row_items) c.as_slice.ensures.value ∙ c.in_ok-x_rows.ensures.0 ∙ x_rows in
    let ys = ap (map row_items) c.as_slice-2.ensures.value ∙ c.in_ok-y_rows.ensures.0 ∙ y_rows in (
      (λ i. or_else (none i) (none_y i)),
      c.in_ok-data_of.ensures
          ∙ (λ i. rows_bytes c.args.shared.now (regions i) (sizes i) (xs i) (ys i)),
    )
