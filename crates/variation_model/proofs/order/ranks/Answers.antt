use Rattle.std.proofs.Common.{◌≡◌, ap, map, ◌∙◌}
use Rattle.std.specs.Prelude.{count_by}
use Rattle.std.proofs.lemmas.Result.{IfOk-weaker}
use Rattle.variation_model.specs.Places as spec
use Rattle.variation_model.proofs.OrderLemmas.{ranks_from_keys}
use Rattle.variation_model.proofs.order.ranks.Goals as goal

pub returns : goal.returns
returns c =
    let keys = c.as_slice.result.now in
    let same : map (λ key. key.items) keys ≡ map (spec.key c.args.places.now) c.args.places.now =
    ap (map (λ key. key.items)) c.as_slice.ensures.value ∙ c.in_ok-keys.ensures in
    IfOk-weaker c.ranks_among.result
    (λ ranks. ranks.items ≡ map (λ key. count_by (λ other. spec.is_less_key other.items key.items)
    keys) keys)
    (λ ranks. ranks.items ≡ spec.ranks c.args.places.now)
    (λ ranks e. ranks_from_keys c.args.places.now keys ranks.items same e) c.ranks_among.ensures
