use Rattle.std.proofs.Common.{◌≡◌, ◌++◌, ◌∙◌, List, ℕ, ap, length, arith}
use Rattle.std.specs.List.{items_where_true}
use Rattle.gvar_writer.specs.PackedPoints.{differences, count_bytes, packed_differences}
use Rattle.gvar_writer.specs.PackedDeltas.{packed_deltas}
use Rattle.gvar_writer.specs.TupleData.{named_form, numbers_from, both_packed}
use Rattle.gvar_writer.proofs.NamedSteps.{length_differences}
use Rattle.gvar_writer.proofs.tuples.named_form.Goals as goal

pub push_points-requires : goal.push_points-requires
push_points-requires c = omega
    (arith, ap length c.as_slice.ensures.value, c.in_ok-differences.ensures.few)

pub returns : goal.returns
unfolding named_form
returns c =
    let named = c.args.named.now in
    let numbers : List ℕ = numbers_from 0 named in
    let told : c.as_slice.result.now ≡ differences 0 numbers = c.as_slice.ensures.value
    ∙ c.in_ok-differences.ensures.value in
    let xs = c.as_slice-2.ensures.value ∙ c.in_ok-xs.ensures in
    let ys = c.as_slice-3.ensures.value ∙ c.in_ok-ys.ensures in
    let both : List ℕ = both_packed (items_where_true named c.args.xs.now)
    (items_where_true named c.args.ys.now) in
    c.in_ok-push_both.ensures
    ∙ (λ i. c.push_points.new.bytes.items ++ (packed_deltas (xs i) ++ packed_deltas (ys i)))
    ∙ ap (λ bytes. bytes ++ both) (c.in_ok-push_points.ensures
    ∙ ap (λ bytes. bytes ++ (count_bytes (length c.as_slice.result.now)
    ++ packed_differences c.as_slice.result.now)) c.new-bytes.ensures.items
    ∙ ap (λ ds. count_bytes (length ds) ++ packed_differences ds) told
    ∙ ap (λ n. count_bytes n ++ packed_differences (differences 0 numbers))
    (length_differences 0 numbers))
