-- a sort of the codes gives them in order
use Rattle.std.proofs.Common.{◌∙◌, ap}
use Rattle.character_codes.specs.CharacterCodes.{in_order, codes_of}
use Rattle.character_codes.proofs.OrderLemmas.{sorted_is_in_order}
use Rattle.character_codes.proofs.codes.codes_in.Goals as goal

pub returns : goal.returns
unfolding codes_of
returns c = sorted_is_in_order c.in_ok-codes.codes.items c.sort.new.self.items
    c.in_ok-sort.ensures.permutation c.in_ok-sort.ensures.sorted
    ∙ ap in_order c.in_ok-codes.ensures
