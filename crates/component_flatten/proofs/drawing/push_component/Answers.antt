use Rattle.std.proofs.Common.{Option, Bor, ap}
use Rattle.std.specs.Prelude.{option_copied}
use Rattle.component_flatten.specs.declared.between.Between.{Between}
use Rattle.component_flatten.proofs.BaseLemmas.{has_deltas}
use Rattle.component_flatten.proofs.drawing.push_component.Goals as goal

pub push_between-requires-clause-deltas : goal.push_between-requires-clause-deltas
push_between-requires-clause-deltas c =
    has_deltas c.args.at.now c.args.base.now (option_copied c.args.between)
    c.in-Some-between.between.now
    c.requires.ready
    (ap (λ (between : Option (Bor Between)). option_copied between) c.in-Some-between.is)
