use Rattle.std.proofs.Common.{◌∙◌, ap}
use Rattle.std.proofs.lemmas.List.Filters.{dedup_is}
use Rattle.axis_space.specs.AxisPairs.{in_order}
use Rattle.axis_space.proofs.PairLemmas.{pair_eq, sorted_is_in_order}
use Rattle.axis_space.proofs.pairs.ordered_pairs.Goals as goal

pub returns : goal.returns
returns c =
    let is = dedup_is pair_eq c.sort.new.self.items c.dedup.new.self.items c.dedup.ensures.filtered
    in
    is ∙ sorted_is_in_order c.in_ok-pairs.pairs.items c.sort.new.self.items
    c.in_ok-sort.ensures.permutation c.in_ok-sort.ensures.sorted
    ∙ ap in_order c.in_ok-pairs.ensures
